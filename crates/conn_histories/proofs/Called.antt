-- The call that is unanswered is the one that was asked last, and is all that may be called off.
use Rattle.std.proofs.Common.{◌≡◌, ◌≢◌, ℕ, ◌⊎◌, inl, inr, Bool, true, false, List, [], ◌∷◌, Option, Some, None, Ok, refl, sym, ap, subst, ◌∙◌, arith}
use Rattle.std.specs.Prelude.{◌==◌, if◌then◌else◌}
use Rattle.rpc_base.specs.declared.identifiers.SyntaxId.{SyntaxId}
use Rattle.pdu_codec.specs.declared.pdu.Pdu.{Pdu}
use Rattle.pdu_codec.specs.declared.pdu.Body.{Body}
use Rattle.pdu_codec.specs.declared.pdu.Body.TheVariants as bodies
use Rattle.pdu_stream.specs.declared.joined.Joined.{Joined}
use Rattle.pdu_stream.specs.Fragments.{Fragment, is_in_order, is_last, joined_of, with_fragment}
use Rattle.presentation.specs.declared.verdict.Accepted.{Accepted}
use Rattle.presentation.specs.Offers.{interface_of}
use Rattle.conn_asks.specs.declared.events.Agreement.{Agreement}
use Rattle.conn_asks.specs.declared.events.Caller.{Caller}
use Rattle.conn_asks.specs.declared.events.Ask.{Ask}
use Rattle.conn_asks.specs.declared.events.Ask.TheVariants as asks
use Rattle.conn_asks.specs.declared.events.Act.{Act}
use Rattle.conn_asks.specs.declared.events.Act.TheVariants as acts
use Rattle.conn_asks.specs.declared.events.Waits.{Waits}
use Rattle.conn_asks.specs.declared.events.Waits.TheVariants.{Nothing, Group, Call, Over, Failed}
use Rattle.conn_asks.specs.Asks.{Asks, AsksWith, called, called_behind, is_bound, request_fragment}
use Rattle.conn_asks.specs.States.{ConnState, at_start, accepted, caller_of, ActsOnCall, IsGrouping, DoesWith, is_calling_off, MayCome, TakesPdu, SkipsAll, ActsAt, Acts, Goes, WaitsBehind}
use Rattle.conn_histories.specs.Histories.{Decision, Event, Lives}
use Rattle.conn_histories.specs.Histories.Decision.{ToGroup, RefuseGroup, Reply}
use Rattle.conn_histories.specs.Histories.Event.{Came, Paused, Did, Decided}
use Rattle.conn_histories.specs.Serving.{IsCallOff}
use Rattle.conn_histories.proofs.Calls.{called_by}
use Rattle.conn_histories.proofs.Decided.{AnswersAt, at_waits, skips_keep}
use Rattle.conn_histories.proofs.Passing.{IsOff, Done, done_by, off_asked}
use Rattle.conn_histories.proofs.Passing.Done.{calls_off, lasts}

-- ---- which call was asked last

off_called : (call : Option ℕ) (p : Pdu) (body : Body) → is_calling_off body ≡ true → called_behind call p body ≡ call
off_called call p (bodies.Request b) h = absurd (cc (h))
off_called call p (bodies.Response b) h = absurd (cc (h))
off_called call p (bodies.Fault b) h = absurd (cc (h))
off_called call p (bodies.Bind b) h = absurd (cc (h))
off_called call p (bodies.BindAck b) h = absurd (cc (h))
off_called call p (bodies.BindNak b) h = absurd (cc (h))
off_called call p (bodies.Alter b) h = absurd (cc (h))
off_called call p (bodies.AlterResp b) h = absurd (cc (h))
off_called call p bodies.Shutdown h = absurd (cc (h))
off_called call p bodies.CoCancel h = refl
off_called call p bodies.Orphaned h = refl

called_on : (m n : ConnState) (p : Pdu) → TakesPdu m p n → called n.past ≡ called_behind (called m.past) p p.body
unfolding called
called_on m n p t = ap called t.past

in_order_id : (run : Option Joined) (f : Fragment) → is_in_order run f ≡ true → (with_fragment run f).call_id ≡ f.call_id
unfolding joined_of
in_order_id None f h = refl
in_order_id (Some j) f h = grind arith

called_last : (p : Pdu) (call : Option ℕ) (last : Bool) → last ≡ true → (if last then Some p.call_id else call) ≡ Some p.call_id
called_last p call true h = refl
called_last p call false h = absurd (cc (h))

asked_last : (past : List Pdu) (p : Pdu) (j : Joined) → Asks past p (Some (asks.Call j)) → called_behind (called past) p p.body ≡ Some j.call_id
asked_last past p j a =
    let c = called_by (is_bound past) a.run (called past) p p.body j a.asks in
    let f = request_fragment p c.part in
    let id : j.call_id ≡ p.call_id = ap (λ (x : Joined). x.call_id) c.joins ∙ in_order_id a.run f c.taken.0 in
    ap (called_behind (called past) p) c.is ∙ (called_last p (called past) (is_last f) c.last ∙ ap (λ (n : ℕ). Some n) (sym id))

-- while a call is unanswered it is the one that was asked last
abbrev pub AskedLast : ConnState → Type 0
AskedLast m = (c : Caller) (maybe : Bool) → m.waits ≡ Call c maybe → called m.past ≡ Some c.call_id

last_off : (m n : ConnState) (p : Pdu) → TakesPdu m p n → n.waits ≡ m.waits → AskedLast m → AskedLast n
last_off m n p t same h c maybe is =
    let w : m.waits ≡ Call c maybe = sym same ∙ is in
    let off : is_calling_off p.body ≡ true = subst (λ (v : Waits). MayCome v p.body) w t.may in
    called_on m n p t ∙ (off_called (called m.past) p p.body off ∙ h c maybe w)

last_skips : (m : ConnState) (ps : List Pdu) (n : ConnState) → SkipsAll m ps n → AskedLast m → AskedLast n
last_skips m [] n e h = subst AskedLast (sym e) h
last_skips m (p ∷ ps) n all h = last_skips all.0 ps n all.2 (last_off m all.0 p all.1.takes all.1.waits h)

one_call : (a b : Caller) (x y : Bool) → Call a x ≡ Call b y → a ≡ b
one_call a b x y e = cc

last_call : (m n : ConnState) (p : Pdu) (j : Joined) (act : Act) (number : Option ℕ) → TakesPdu m p n → Asks m.past p (Some (asks.Call j)) → ActsOnCall number j act n.waits → AskedLast n
last_call m n p j act (Some k) t h d c maybe is =
    let same : caller_of j ≡ c = one_call (caller_of j) c j.maybe maybe (sym d.1 ∙ is) in
    called_on m n p t ∙ (asked_last m.past p j h ∙ ap (λ (x : Caller). Some x.call_id) same)
last_call m n p j act None t h d c maybe is = absurd (cc (d.1, is))

last_free : (m n : ConnState) (p : Pdu) (ask : Ask) (act : Act) → TakesPdu m p n → Asks m.past p (Some ask) → DoesWith m.ids (accepted m) m.agreement Nothing ask act n.waits → AskedLast n
last_free m n p (asks.Bind e flags b) act t h d c maybe is = absurd (cc (d.1, is))
last_free m n p (asks.Alter e b) act t h d c maybe is = absurd (cc (d.1, is))
last_free m n p (asks.Call j) act t h d c maybe is = last_call m n p j act (interface_of (accepted m) j.context) t h d c maybe is
last_free m n p (asks.Cancel id) act t h d c maybe is = absurd (cc (d.0.2))
last_free m n p (asks.Orphan id) act t h d c maybe is = absurd (cc (d.0.2))
last_free m n p (asks.Broken e f) act t h d c maybe is = absurd (cc (d.1, is))

same_off : (old : Waits) (ask : Ask) (act : Act) (w : Waits) → Done old ask act w → IsOff (Some ask) → w ≡ old
same_off old ask act w (calls_off off same not at) h = same
same_off old ask act w (lasts lasting not) h = absurd (not h)

last_at : (m n : ConnState) (p : Pdu) (act : Act) (v : Waits) → m.waits ≡ v → (a : ActsAt m p act n) → MayCome v p.body → AskedLast m → AskedLast n
last_at m n p act Nothing w a may h =
    last_free m n p a.ask act a.takes a.asks (subst (λ (v : Waits). DoesWith m.ids (accepted m) m.agreement v a.ask act n.waits) w a.does)
last_at m n p act (Call d maybe) w a may h =
    last_off m n p a.takes (same_off m.waits a.ask act n.waits (done_by m.ids (accepted m) m.agreement m.waits a.ask act n.waits a.does) (off_asked m.past p (Some a.ask) may a.asks)) h
last_at m n p act (Group d ack) w a may h = absurd may
last_at m n p act Over w a may h = absurd may
last_at m n p act Failed w a may h = absurd may

last_acts : (m n : ConnState) (act : Act) → Acts m act n → AskedLast m → AskedLast n
last_acts m n act (inl a) h = last_at m n a.0 act m.waits refl a.1 a.1.takes.may h
last_acts m n act (inr s) h = λ c maybe is. absurd (cc (ap (λ (x : ConnState). x.waits) s.1.after, is))

last_goes : (m n : ConnState) (act : Option Act) → Goes m (Ok act) n → AskedLast m → AskedLast n
last_goes m n None g h = last_skips m g.0 n g.1 h
last_goes m n (Some act) g h = last_acts g.1 n act g.3 (last_skips m g.0 g.1 g.2 h)

last_decided : (m n : ConnState) (decision : Decision) (octets : List ℕ) (v : Waits) → AnswersAt v m decision octets n → AskedLast n
last_decided m n (ToGroup group) octets (Group d ack) a c maybe is = absurd (cc (ap (λ (x : ConnState). x.waits) a.1, is))
last_decided m n (RefuseGroup reason) octets (Group d ack) a c maybe is = absurd (cc (ap (λ (x : ConnState). x.waits) a.1, is))
last_decided m n (Reply said executed) octets (Call d b) a c maybe is = absurd (cc (ap (λ (x : ConnState). x.waits) a.1, is))
last_decided m n (Reply said executed) octets (Group d ack) a c maybe is = absurd a
last_decided m n (ToGroup group) octets (Call d b) a c maybe is = absurd a
last_decided m n (RefuseGroup reason) octets (Call d b) a c maybe is = absurd a
last_decided m n (ToGroup group) octets Nothing a c maybe is = absurd a
last_decided m n (RefuseGroup reason) octets Nothing a c maybe is = absurd a
last_decided m n (Reply said executed) octets Nothing a c maybe is = absurd a
last_decided m n (ToGroup group) octets Over a c maybe is = absurd a
last_decided m n (RefuseGroup reason) octets Over a c maybe is = absurd a
last_decided m n (Reply said executed) octets Over a c maybe is = absurd a
last_decided m n (ToGroup group) octets Failed a c maybe is = absurd a
last_decided m n (RefuseGroup reason) octets Failed a c maybe is = absurd a
last_decided m n (Reply said executed) octets Failed a c maybe is = absurd a

last_lives : (events : List Event) (m n : ConnState) → Lives m events n → AskedLast m → AskedLast n
last_lives [] m n e h = subst AskedLast (sym e) h
last_lives (Came octets ∷ later) m n l h = last_lives later l.0 n l.2 (subst AskedLast (sym l.1) (λ c maybe is. h c maybe is))
last_lives (Paused ∷ later) m n l h = last_lives later l.0 n l.2 (last_goes m l.0 None l.1 h)
last_lives (Did act ∷ later) m n l h = last_lives later l.0 n l.2 (last_goes m l.0 (Some act) l.1 h)
last_lives (Decided decision octets ∷ later) m n l h = last_lives later l.0 n l.2 (last_decided m l.0 decision octets m.waits (at_waits m l.0 decision octets l.1))

-- ---- what may be done then

-- a co_cancel or an orphaned calls off the call with its id alone
id_cancel : (id : ℕ) (c : ℕ) (same : Bool) (ask : Ask) → (c == id) ≡ same → Some ask ≡ (if same then Some (asks.Cancel id) else None) → ask ≡ asks.Cancel c
id_cancel id c true ask e h = grind arith
id_cancel id c false ask e h = absurd (cc (h))

id_orphan : (id : ℕ) (c : ℕ) (same : Bool) (ask : Ask) → (c == id) ≡ same → Some ask ≡ (if same then Some (asks.Orphan id) else None) → ask ≡ asks.Orphan c
id_orphan id c true ask e h = grind arith
id_orphan id c false ask e h = absurd (cc (h))

abbrev IsOffOf : ℕ → Ask → Type 0
IsOffOf c ask = (ask ≡ asks.Cancel c) ⊎ (ask ≡ asks.Orphan c)

off_of : (bound : Bool) (run : Option Joined) (c : ℕ) (p : Pdu) (body : Body) (ask : Ask) → is_calling_off body ≡ true → AsksWith bound run (Some c) p body (Some ask) → IsOffOf c ask
off_of bound run c p (bodies.Request b) ask h a = absurd (cc (h))
off_of bound run c p (bodies.Response b) ask h a = absurd (cc (h))
off_of bound run c p (bodies.Fault b) ask h a = absurd (cc (h))
off_of bound run c p (bodies.Bind b) ask h a = absurd (cc (h))
off_of bound run c p (bodies.BindAck b) ask h a = absurd (cc (h))
off_of bound run c p (bodies.BindNak b) ask h a = absurd (cc (h))
off_of bound run c p (bodies.Alter b) ask h a = absurd (cc (h))
off_of bound run c p (bodies.AlterResp b) ask h a = absurd (cc (h))
off_of bound run c p bodies.Shutdown ask h a = absurd (cc (h))
off_of bound run c p bodies.CoCancel ask h a = inl (id_cancel p.call_id c (c == p.call_id) ask refl a)
off_of bound run c p bodies.Orphaned ask h a = inr (id_orphan p.call_id c (c == p.call_id) ask refl a)

done_of : (ids : List SyntaxId) (a : List Accepted) (agreement : Agreement) (old w : Waits) (c : ℕ) (ask : Ask) (act : Act) → IsOffOf c ask → DoesWith ids a agreement old ask act w → IsCallOff c act × (w ≡ old)
done_of ids a agreement old w c ask act (inl e) d =
    let h = subst (λ (x : Ask). DoesWith ids a agreement old x act w) e d in
    (inl h.1, h.2)
done_of ids a agreement old w c ask act (inr e) d =
    let h = subst (λ (x : Ask). DoesWith ids a agreement old x act w) e d in
    (inr h.1, h.2)

acts_off : (m n : ConnState) (act : Act) (c : Caller) (maybe : Bool) → m.waits ≡ Call c maybe → called m.past ≡ Some c.call_id → Acts m act n → IsCallOff c.call_id act × (n.waits ≡ Call c maybe)
acts_off m n act c maybe w last (inr s) = absurd (cc (s.1.free, w))
acts_off m n act c maybe w last (inl a) =
    let s = a.1 in
    let off : is_calling_off a.0.body ≡ true = subst (λ (v : Waits). MayCome v a.0.body) w s.takes.may in
    let here = off_of (is_bound m.past) s.asks.run c.call_id a.0 a.0.body s.ask off (subst (λ (x : Option ℕ). AsksWith (is_bound m.past) s.asks.run x a.0 a.0.body (Some s.ask)) last s.asks.asks) in
    let done = done_of m.ids (accepted m) m.agreement m.waits n.waits c.call_id s.ask act here s.does in
    (done.0, done.1 ∙ w)

pub calls_stay : (ids : List SyntaxId) (events : List Event) (m n : ConnState) (act : Act) (c : Caller) (maybe : Bool) → Lives (at_start ids) events m → m.waits ≡ Call c maybe → Goes m (Ok (Some act)) n
    → IsCallOff c.call_id act × (n.waits ≡ Call c maybe)
calls_stay ids events m n act c maybe l w g =
    let here : AskedLast m = last_lives events (at_start ids) m l (λ d b is. absurd (cc (is))) in
    let there : AskedLast g.1 = last_skips m g.0 g.1 g.2 here in
    let waits : g.1.waits ≡ Call c maybe = (skips_keep m g.0 g.1 g.2).0 ∙ w in
    acts_off g.1 n act c maybe waits (there c maybe waits) g.3

-- ---- while nothing is waited for

behind : (act done : Act) (w : Waits) → act ≡ done → WaitsBehind done w → WaitsBehind act w
behind act done w is h = subst (λ (x : Act). WaitsBehind x w) (sym is) h

abbrev IsOther : Act → Type 0
IsOther act = (id : ℕ) → (act ≢ acts.Cancel id) × (act ≢ acts.Orphan id)

other : (act done : Act) → act ≡ done → IsOther done → IsOther act
other act done is h = subst IsOther (sym is) h

call_free : (number : Option ℕ) (j : Joined) (act : Act) (w : Waits) → ActsOnCall number j act w → IsOther act × WaitsBehind act w
call_free (Some k) j act w h = (other act _ h.0 (λ id. (λ e. absurd (cc (e)), λ e. absurd (cc (e)))), behind act _ w h.0 (caller_of j, j.maybe, h.1))
call_free None j act w h = (other act _ h.0 (λ id. (λ e. absurd (cc (e)), λ e. absurd (cc (e)))), behind act _ w h.0 h.1)

does_free : (ids : List SyntaxId) (a : List Accepted) (agreement : Agreement) (ask : Ask) (act : Act) (w : Waits) → DoesWith ids a agreement Nothing ask act w → IsOther act × WaitsBehind act w
does_free ids a agreement (asks.Bind c flags b) act w h = (other act _ h.0 (λ id. (λ e. absurd (cc (e)), λ e. absurd (cc (e)))), behind act _ w h.0 (subst IsGrouping (sym h.1) tt))
does_free ids a agreement (asks.Alter c b) act w h = (other act _ h.0 (λ id. (λ e. absurd (cc (e)), λ e. absurd (cc (e)))), behind act _ w h.0 h.1)
does_free ids a agreement (asks.Call j) act w h = call_free (interface_of a j.context) j act w h
does_free ids a agreement (asks.Cancel id) act w h = absurd (cc (h.0.2))
does_free ids a agreement (asks.Orphan id) act w h = absurd (cc (h.0.2))
does_free ids a agreement (asks.Broken c f) act w h = (other act _ h.0 (λ id. (λ e. absurd (cc (e)), λ e. absurd (cc (e)))), behind act _ w h.0 h.1)

acts_free : (m n : ConnState) (act : Act) → m.waits ≡ Nothing → Acts m act n → IsOther act × WaitsBehind act n.waits
acts_free m n act w (inl a) =
    does_free m.ids (accepted m) m.agreement a.1.ask act n.waits (subst (λ (v : Waits). DoesWith m.ids (accepted m) m.agreement v a.1.ask act n.waits) w a.1.does)
acts_free m n act w (inr s) =
    (other act _ s.1.act_is (λ id. (λ e. absurd (cc (e)), λ e. absurd (cc (e)))), behind act _ n.waits s.1.act_is (ap (λ (x : ConnState). x.waits) s.1.after))

pub others_free : (m n : ConnState) (act : Act) → m.waits ≡ Nothing → Goes m (Ok (Some act)) n → IsOther act × WaitsBehind act n.waits
others_free m n act w g = acts_free g.1 n act ((skips_keep m g.0 g.1 g.2).0 ∙ w) g.3
