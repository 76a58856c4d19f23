-- A connection's fragments are as long as each side takes at least, so each call can be answered.
use Rattle.std.proofs.Common.{◌≡◌, ℕ, ◌≤◌, inl, inr, Bool, true, false, List, [], ◌∷◌, Option, Some, None, Ok, refl, sym, subst, ◌∙◌, arith}
use Rattle.std.specs.Prelude.{⊤, min, nat_lt, if◌then◌else◌}
use Rattle.std.proofs.lemmas.Bool.{ltb-false}
use Rattle.rpc_base.specs.declared.identifiers.SyntaxId.{SyntaxId}
use Rattle.handle_model.specs.declared.entry.Said.{Said}
use Rattle.pdu_codec.specs.declared.pdu.Pdu.{Pdu}
use Rattle.pdu_codec.specs.declared.pdu.Body.{Body}
use Rattle.pdu_codec.specs.declared.pdu.Body.TheVariants as bodies
use Rattle.pdu_codec.specs.declared.pdu.BindBody.{BindBody}
use Rattle.pdu_codec.specs.declared.pdu.RequestBody.{RequestBody}
use Rattle.pdu_codec.specs.Constants.{least_fragment, most_fragment}
use Rattle.pdu_stream.specs.declared.joined.Joined.{Joined}
use Rattle.presentation.specs.Offers.{interface_of}
use Rattle.conn_asks.specs.declared.events.Agreement.{Agreement}
use Rattle.conn_asks.specs.declared.events.Caller.{Caller}
use Rattle.conn_asks.specs.declared.events.Ask.{Ask}
use Rattle.conn_asks.specs.declared.events.Ask.TheVariants as asks
use Rattle.conn_asks.specs.declared.events.Act.{Act}
use Rattle.conn_asks.specs.declared.events.ConnFault.TheVariants as conn
use Rattle.conn_asks.specs.declared.events.Waits.{Waits}
use Rattle.conn_asks.specs.declared.events.Waits.TheVariants.{Nothing, Group, Call, Over, Failed}
use Rattle.conn_asks.specs.Asks.{AsksWith, OfRequest, Asks, request_fragment, is_bound, is_called, called, caller, of_bind}
use Rattle.conn_asks.specs.Answers.{FitsStub}
use Rattle.conn_asks.specs.States.{ConnState, at_start, accepted, ActsOnCall, IsCalling, DoesWith, SkipsAll, Acts, Goes, RepliedAt}
use Rattle.conn_histories.specs.Histories.{Decision, Event, AnswersDecision, Lives}
use Rattle.conn_histories.specs.Histories.Decision.{ToGroup, RefuseGroup, Reply}
use Rattle.conn_histories.specs.Histories.Event.{Came, Paused, Did, Decided}
use Rattle.conn_histories.proofs.Decided.{AnswersAt, at_waits}
use Rattle.conn_histories.proofs.Saying.{each_reply}

-- ---- a bind that is asked says long enough fragments

abbrev some_ask : Ask → Option Ask
some_ask a = Some a

bind_if : (short : Bool) (c d : Caller) (flags flags' : ℕ) (a b : BindBody) → nat_lt a.max_recv least_fragment ≡ short
    → some_ask (asks.Bind d flags' b) ≡ (if short then some_ask (asks.Broken c (conn.Nak 0)) else some_ask (asks.Bind c flags a)) → least_fragment ≤ b.max_recv
bind_if true c d flags flags' a b e h = absurd (cc (h))
bind_if false c d flags flags' a b e h =
    let same : b ≡ a = cc (h) in
    subst (λ (x : BindBody). least_fragment ≤ x.max_recv) (sym same) (ltb-false a.max_recv least_fragment e)

if_some : (t : Bool) (a b : Ask) → some_ask (if t then a else b) ≡ (if t then some_ask a else some_ask b)
if_some true a b = refl
if_some false a b = refl

of_bind_wide : (bound : Bool) (c d : Caller) (flags flags' : ℕ) (a b : BindBody) → some_ask (asks.Bind d flags' b) ≡ some_ask (of_bind bound c flags a) → least_fragment ≤ b.max_recv
of_bind_wide true c d flags flags' a b h = absurd (cc (h))
of_bind_wide false c d flags flags' a b h =
    bind_if (nat_lt a.max_recv least_fragment) c d flags flags' a b refl (h ∙ if_some (nat_lt a.max_recv least_fragment) (asks.Broken c (conn.Nak 0)) (asks.Bind c flags a))

no_bind_if : (t : Bool) (d : Caller) (flags : ℕ) (b : BindBody) (other : Ask) → (asks.Bind d flags b ≡ other → ⊥) → some_ask (asks.Bind d flags b) ≡ (if t then some_ask other else None) → ⊥
no_bind_if true d flags b other not h = absurd (not (cc (h)))
no_bind_if false d flags b other not h = absurd (cc (h))

no_request : (bound : Bool) (run : Option Joined) (p : Pdu) (d : Caller) (flags : ℕ) (b : BindBody) (r : RequestBody) → OfRequest bound run (request_fragment p r) (Some (asks.Bind d flags b)) → ⊥
no_request true run p d flags b r h = h
no_request false run p d flags b r h = absurd (cc (h))

bind_wide : (bound : Bool) (run : Option Joined) (call : Option ℕ) (p : Pdu) (body : Body) (d : Caller) (flags : ℕ) (b : BindBody) → AsksWith bound run call p body (Some (asks.Bind d flags b)) → least_fragment ≤ b.max_recv
bind_wide bound run call p (bodies.Bind a) d flags b h = of_bind_wide bound (caller p 0) d p.flags flags a b h
bind_wide true run call p (bodies.Alter a) d flags b h = absurd (cc (h))
bind_wide false run call p (bodies.Alter a) d flags b h = absurd (cc (h))
bind_wide bound run call p (bodies.Request r) d flags b h = absurd (no_request bound run p d flags b r h)
bind_wide bound run call p bodies.CoCancel d flags b h =
    absurd (no_bind_if (is_called p.call_id call) d flags b (asks.Cancel p.call_id) (λ e. absurd (cc (e))) h)
bind_wide bound run call p bodies.Orphaned d flags b h =
    absurd (no_bind_if (is_called p.call_id call) d flags b (asks.Orphan p.call_id) (λ e. absurd (cc (e))) h)
bind_wide bound run call p (bodies.Response r) d flags b h = absurd (cc (h))
bind_wide bound run call p (bodies.Fault r) d flags b h = absurd (cc (h))
bind_wide bound run call p (bodies.BindAck r) d flags b h = absurd (cc (h))
bind_wide bound run call p (bodies.BindNak r) d flags b h = absurd (cc (h))
bind_wide bound run call p (bodies.AlterResp r) d flags b h = absurd (cc (h))
bind_wide bound run call p bodies.Shutdown d flags b h = absurd (cc (h))

-- ---- the fragments that were agreed on, or will be

abbrev IsReady : Waits → Type 0
IsReady (Group c ack) = least_fragment ≤ ack.max_xmit
IsReady _ = ⊤

record Wide (m : ConnState) : Type 0 where
  agreed : least_fragment ≤ m.agreement.max_xmit
  ready : IsReady m.waits

ready_at : (v w : Waits) → w ≡ v → IsReady v → IsReady w
ready_at v w e h = subst IsReady (sym e) h

wide_as : (m n : ConnState) → n.agreement ≡ m.agreement → n.waits ≡ m.waits → Wide m → Wide n
wide_as m n agreement waits w = record {
  agreed = subst (λ (x : Agreement). least_fragment ≤ x.max_xmit) (sym agreement) w.agreed;
  ready = ready_at m.waits n.waits waits w.ready;
}

wide_skips : (m : ConnState) (ps : List Pdu) (n : ConnState) → SkipsAll m ps n → Wide m → Wide n
wide_skips m [] n e w = subst Wide (sym e) w
wide_skips m (p ∷ ps) n all w = wide_skips all.0 ps n all.2 (wide_as m all.0 all.1.takes.agreement all.1.waits w)

call_ready : (number : Option ℕ) (j : Joined) (act : Act) (w : Waits) → ActsOnCall number j act w → IsReady w
call_ready (Some k) j act w d = ready_at _ w d.1 tt
call_ready None j act w d = ready_at _ w d.1 tt

room : (most : ℕ) → least_fragment ≤ most → least_fragment ≤ min most_fragment most
room most h = omega (arith, h)

does_ready : (m : ConnState) (p : Pdu) (ask : Ask) (act : Act) (w : Waits) → Asks m.past p (Some ask) → DoesWith m.ids (accepted m) m.agreement m.waits ask act w → IsReady m.waits → IsReady w
does_ready m p (asks.Bind c flags b) act w h d old =
    ready_at _ w d.1 (room b.max_recv (bind_wide (is_bound m.past) h.run (called m.past) p p.body c flags b h.asks))
does_ready m p (asks.Alter c b) act w h d old = ready_at _ w d.1 tt
does_ready m p (asks.Call j) act w h d old = call_ready (interface_of (accepted m) j.context) j act w d
does_ready m p (asks.Cancel id) act w h d old = ready_at m.waits w d.2 old
does_ready m p (asks.Orphan id) act w h d old = ready_at m.waits w d.2 old
does_ready m p (asks.Broken c f) act w h d old = ready_at _ w d.1 tt

wide_acts : (m n : ConnState) (act : Act) → Acts m act n → Wide m → Wide n
wide_acts m n act (inl a) w = record {
  agreed = subst (λ (x : Agreement). least_fragment ≤ x.max_xmit) (sym a.1.takes.agreement) w.agreed;
  ready = does_ready m a.0 a.1.ask act n.waits a.1.asks a.1.does w.ready;
}
wide_acts m n act (inr s) w = subst Wide (sym s.1.after) (record { agreed = w.agreed; ready = tt })

wide_goes : (m n : ConnState) (act : Option Act) → Goes m (Ok act) n → Wide m → Wide n
wide_goes m n None g w = wide_skips m g.0 n g.1 w
wide_goes m n (Some act) g w = wide_acts g.1 n act g.3 (wide_skips m g.0 g.1 g.2 w)

wide_decided : (m n : ConnState) (decision : Decision) (octets : List ℕ) (v : Waits) → m.waits ≡ v → AnswersAt v m decision octets n → Wide m → Wide n
wide_decided m n (ToGroup group) octets (Group c ack) is a w = subst Wide (sym a.1) (record { agreed = subst IsReady is w.ready; ready = tt })
wide_decided m n (RefuseGroup reason) octets (Group c ack) is a w = subst Wide (sym a.1) (record { agreed = w.agreed; ready = tt })
wide_decided m n (Reply said executed) octets (Call c maybe) is a w = subst Wide (sym a.1) (record { agreed = w.agreed; ready = tt })
wide_decided m n (Reply said executed) octets (Group c ack) is a w = absurd a
wide_decided m n (ToGroup group) octets (Call c maybe) is a w = absurd a
wide_decided m n (RefuseGroup reason) octets (Call c maybe) is a w = absurd a
wide_decided m n (ToGroup group) octets Nothing is a w = absurd a
wide_decided m n (RefuseGroup reason) octets Nothing is a w = absurd a
wide_decided m n (Reply said executed) octets Nothing is a w = absurd a
wide_decided m n (ToGroup group) octets Over is a w = absurd a
wide_decided m n (RefuseGroup reason) octets Over is a w = absurd a
wide_decided m n (Reply said executed) octets Over is a w = absurd a
wide_decided m n (ToGroup group) octets Failed is a w = absurd a
wide_decided m n (RefuseGroup reason) octets Failed is a w = absurd a
wide_decided m n (Reply said executed) octets Failed is a w = absurd a

wide_lives : (events : List Event) (m n : ConnState) → Lives m events n → Wide m → Wide n
wide_lives [] m n e w = subst Wide (sym e) w
wide_lives (Came octets ∷ later) m n l w = wide_lives later l.0 n l.2 (subst Wide (sym l.1) (record { agreed = w.agreed; ready = w.ready }))
wide_lives (Paused ∷ later) m n l w = wide_lives later l.0 n l.2 (wide_goes m l.0 None l.1 w)
wide_lives (Did act ∷ later) m n l w = wide_lives later l.0 n l.2 (wide_goes m l.0 (Some act) l.1 w)
wide_lives (Decided decision octets ∷ later) m n l w = wide_lives later l.0 n l.2 (wide_decided m l.0 decision octets m.waits refl (at_waits m l.0 decision octets l.1) w)

pub each_call_answered : (ids : List SyntaxId) (events : List Event) (m : ConnState) (said : Option Said) (executed : Bool) → Lives (at_start ids) events m → IsCalling m.waits → FitsStub said
    → (octets : List ℕ) × (n : ConnState) × AnswersDecision m (Reply said executed) octets n
each_call_answered ids events m said executed l (c, maybe, is) fits =
    let wide = wide_lives events (at_start ids) m l (record { agreed = omega arith; ready = tt }) in
    let r = each_reply c m.agreement.max_xmit maybe executed said wide.agreed fits in
    let n : ConnState = record m { waits = Nothing } in
    (r.0, n, subst (λ (w : Waits). RepliedAt w m said executed r.0 n) (sym is) (r.1, refl))
