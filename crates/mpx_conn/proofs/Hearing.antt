-- A PDU is heard among the calls that are unanswered.
use Rattle.std.proofs.Common.{◌≡◌, ℕ, Bool, true, false, List, [], ◌∷◌, Option, Some, None, Result, Ok, Err, refl, sym, ap, subst, ◌∙◌}
use Rattle.std.specs.Prelude.{◌||◌, if◌then◌else◌, IfOk}
use Rattle.rpc_base.specs.declared.fault.NoMemory.{NoMemory}
use Rattle.pdu_codec.specs.declared.pdu.BindBody.{BindBody}
use Rattle.conn_asks.specs.declared.events.Caller.{Caller}
use Rattle.conn_asks.specs.declared.events.ConnFault.{ConnFault}
use Rattle.conn_core.proofs.Fits.{nothing_offered}
use Rattle.std.specs.Option.{option_map}
use Rattle.std.proofs.lemmas.Option.{none-some, same_Some}
use Rattle.rpc_base.specs.declared.identifiers.SyntaxId.{SyntaxId}
use Rattle.pdu_codec.specs.declared.pdu.Pdu.{Pdu}
use Rattle.pdu_codec.specs.declared.pdu.Body.{Body}
use Rattle.pdu_codec.specs.declared.pdu.Body.TheVariants as bodies
use Rattle.pdu_codec.specs.declared.pdu.Element.{Element}
use Rattle.pdu_stream.specs.declared.joined.Joined.{Joined}
use Rattle.pdu_stream.specs.declared.joined.JoinFault.TheVariants.{FragOrder}
use Rattle.pdu_stream.specs.Fragments.{Joining}
use Rattle.pdu_stream.specs.Runs.{Changes}
use Rattle.presentation.specs.declared.verdict.Accepted.{Accepted}
use Rattle.presentation.specs.Offers.{ServedSyntaxes, contexts_after, interface_of}
use Rattle.conn_asks.specs.declared.events.Agreement.{Agreement}
use Rattle.conn_asks.specs.declared.events.ConnFault.TheVariants.{Join}
use Rattle.conn_asks.specs.declared.events.Act.{Act}
use Rattle.conn_asks.specs.declared.events.Ask.{Ask}
use Rattle.conn_asks.specs.declared.events.Ask.TheVariants.{Bind, Alter, Call, Cancel, Orphan, Broken}
use Rattle.conn_asks.specs.declared.events.Waits.{Waits}
use Rattle.conn_asks.specs.declared.events.Waits.TheVariants as waits
use Rattle.conn_asks.specs.Asks.{is_bind, is_called, offered_by, AsksWith}
use Rattle.conn_asks.specs.Asking.{Follows, Finds, elements_in}
use Rattle.conn_asks.specs.States.{ConnState, accepted, caller_of}
use Rattle.conn_core.specs.Doing.{IsClose, with_elements}
use Rattle.conn_core.specs.Fields.{ConnFields, KeepsState, Knows}
use Rattle.conn_core.specs.Steps.{behind}
use Rattle.conn_core.proofs.Heard.{Offers, offers, offers_none, keeps_more}
use Rattle.mpx_asks.specs.declared.open_calls.OpenCall.{OpenCall}
use Rattle.mpx_asks.specs.Open.{has, is_full, named}
use Rattle.mpx_asks.specs.Among.{MpxState, AsksAmong, barred, binds_many, is_many, DoesWithin}
use Rattle.mpx_conn.specs.declared.next.Step.TheVariants.{Skipped, Acted}
use Rattle.mpx_conn.specs.Doing.{OffersWith, ActsWith, CallsWithin}
use Rattle.mpx_conn.specs.Fields.{MpxFields, CanStand}
use Rattle.mpx_conn.specs.Steps.{IsFreeAmong, HearsAt}

-- ---- WHAT A PDU OFFERS, whichever call it names

offers_off : (id : ℕ) (body : Body) (a : Ask) (q : Bool) (ask : Ask) → Offers a body → Some ask ≡ (if q then Some a else None) → Offers ask body
offers_off id body a true ask o h = subst (λ (x : Ask). Offers x body) (sym (same_Some ask a h)) o
offers_off id body a false ask o h = absurd (none-some ask (sym h))

offers_named : (bound : Bool) (run : Option Joined) (call : Option ℕ) (p : Pdu) (body : Body) (ask : Ask) → AsksWith bound run call p body (Some ask) → Offers ask body
offers_named bound run call p (bodies.Request r) ask h = offers bound run p (bodies.Request r) ask h
offers_named bound run call p (bodies.Response r) ask h = offers bound run p (bodies.Response r) ask h
offers_named bound run call p (bodies.Fault r) ask h = offers bound run p (bodies.Fault r) ask h
offers_named bound run call p (bodies.Bind r) ask h = offers bound run p (bodies.Bind r) ask h
offers_named bound run call p (bodies.BindAck r) ask h = offers bound run p (bodies.BindAck r) ask h
offers_named bound run call p (bodies.BindNak r) ask h = offers bound run p (bodies.BindNak r) ask h
offers_named bound run call p (bodies.Alter r) ask h = offers bound run p (bodies.Alter r) ask h
offers_named bound run call p (bodies.AlterResp r) ask h = offers bound run p (bodies.AlterResp r) ask h
offers_named bound run call p bodies.Shutdown ask h = offers bound run p bodies.Shutdown ask h
offers_named bound run call p bodies.CoCancel ask h = offers_off p.call_id bodies.CoCancel (Cancel p.call_id) (is_called p.call_id call) ask refl h
offers_named bound run call p bodies.Orphaned ask h = offers_off p.call_id bodies.Orphaned (Orphan p.call_id) (is_called p.call_id call) ask refl h

none_named : (bound : Bool) (run : Option Joined) (call : Option ℕ) (p : Pdu) (body : Body) → AsksWith bound run call p body None → offered_by body ≡ []
none_named bound run call p (bodies.Request r) h = offers_none bound run p (bodies.Request r) h
none_named bound run call p (bodies.Response r) h = offers_none bound run p (bodies.Response r) h
none_named bound run call p (bodies.Fault r) h = offers_none bound run p (bodies.Fault r) h
none_named bound run call p (bodies.Bind r) h = offers_none bound run p (bodies.Bind r) h
none_named bound run call p (bodies.BindAck r) h = offers_none bound run p (bodies.BindAck r) h
none_named bound run call p (bodies.BindNak r) h = offers_none bound run p (bodies.BindNak r) h
none_named bound run call p (bodies.Alter r) h = offers_none bound run p (bodies.Alter r) h
none_named bound run call p (bodies.AlterResp r) h = offers_none bound run p (bodies.AlterResp r) h
none_named bound run call p bodies.Shutdown h = refl
none_named bound run call p bodies.CoCancel h = refl
none_named bound run call p bodies.Orphaned h = refl

-- ---- A WHOLE REQUEST

pub calls : (ids : List SyntaxId) (a : List Accepted) (agreement : Agreement) (out : List OpenCall) (j : Joined) (act : Act) (w : Waits) (new : List OpenCall)
    → CallsWithin (has j.call_id out) (is_full out) (interface_of a j.context) j out act w new → DoesWithin ids a agreement out (barred out (Call j)) act w new
calls ids a agreement out j act w new h = by_test (has j.call_id out) h
  where
    by_test : (b : Bool) → CallsWithin b (is_full out) (interface_of a j.context) j out act w new
        → DoesWithin ids a agreement out (if b then Broken (caller_of j) (Join FragOrder) else Call j) act w new
    by_test true k = (k.0.0, k.0.1, k.1)
    by_test false k = k

-- ---- WHAT IS DONE, also where memory runs out

pub does_bind : (old : ServedSyntaxes) (out : List OpenCall) (agreement : Agreement) (c : Caller) (flags : ℕ) (b : BindBody) (r : Result (Act × Waits) NoMemory) (new : ServedSyntaxes)
    → OffersWith old agreement (Bind c flags b) r new → ActsWith old out agreement (Bind c flags b) r new out
does_bind old out agreement c flags b (Ok done) new h = ((h.0.0, h.0.1, refl), h.1)
does_bind old out agreement c flags b (Err e) new h = h

pub does_call : (old : ServedSyntaxes) (out : List OpenCall) (agreement : Agreement) (j : Joined) (r : Result (Act × Waits) NoMemory) (new : List OpenCall)
    → IfOk r (λ done. CallsWithin (has j.call_id out) (is_full out) (interface_of old.accepted j.context) j out done.0 done.1 new) → ActsWith old out agreement (Call j) r old new
does_call old out agreement j (Ok done) new h = (calls old.ids old.accepted agreement out j done.0 done.1 new h, nothing_offered old)
does_call old out agreement j (Err e) new h = refl

pub does_close : (old : ServedSyntaxes) (out : List OpenCall) (agreement : Agreement) (c : Caller) (why : ConnFault) (r : Result (Act × Waits) NoMemory)
    → IfOk r (λ done. IsClose c why done.0 done.1) → ActsWith old out agreement (Broken c why) r old out
does_close old out agreement c why (Ok done) h = ((h.0, h.1, refl), nothing_offered old)
does_close old out agreement c why (Err e) h = refl

-- ---- WHAT IS KNOWN BEHIND A PDU

from_offer : (m : ConnState) (es os : List Element) (a : List Accepted) → os ≡ es → a ≡ contexts_after m.ids (accepted m) es → a ≡ contexts_after m.ids (accepted m) os
from_offer m es os a same e = e ∙ ap (λ (xs : List Element). contexts_after m.ids (accepted m) xs) (sym same)

knows_as : (w : Waits) (u : ConnFields) (n : ConnState) → CanStand w → KeepsState u n → Knows w u n
knows_as waits.Nothing u n can k = k
knows_as (waits.Group c ack) u n can k = k
knows_as (waits.Call c maybe) u n can k = absurd can
knows_as waits.Over u n can k = tt
knows_as waits.Failed u n can k = tt

knows_over : (w : Waits) (u : ConnFields) (n : ConnState) → w ≡ waits.Over → Knows w u n
knows_over w u n e = subst (λ (x : Waits). Knows x u n) (sym e) tt

knows_more : (t u : ConnFields) (m : ConnState) (call : Option ℕ) (out new : List OpenCall) (agreement : Agreement) (p : Pdu) (alone : Ask) (act : Act) (w : Waits) → (k : KeepsState t m)
    → u.bound ≡ (is_bind p.body || t.bound) → AsksWith t.bound k.run call p p.body (Some alone) → Follows (Changes k.run p p.body) (Some alone) u.joining
    → DoesWithin m.ids (accepted m) agreement out (barred out alone) act w new → CanStand w → u.served.accepted ≡ contexts_after m.ids (accepted m) (elements_in alone)
    → Knows w u (behind m p w)
knows_more t u m call out new agreement p (Bind c flags b) act w k bound asks follows does can offered =
    let o = from_offer m b.elements (offered_by p.body) u.served.accepted (offers_named t.bound k.run call p p.body (Bind c flags b) asks) offered in
    knows_as w u (behind m p w) can (keeps_more t u m p w follows.0 k bound follows.1 follows.2 o)
knows_more t u m call out new agreement p (Alter c b) act w k bound asks follows does can offered =
    let o = from_offer m b.elements (offered_by p.body) u.served.accepted (offers_named t.bound k.run call p p.body (Alter c b) asks) offered in
    knows_as w u (behind m p w) can (keeps_more t u m p w follows.0 k bound follows.1 follows.2 o)
knows_more t u m call out new agreement p (Call j) act w k bound asks follows does can offered =
    let o = from_offer m [] (offered_by p.body) u.served.accepted (offers_named t.bound k.run call p p.body (Call j) asks) offered in
    knows_as w u (behind m p w) can (keeps_more t u m p w follows.0 k bound follows.1 follows.2 o)
knows_more t u m call out new agreement p (Cancel id) act w k bound asks follows does can offered =
    let o = from_offer m [] (offered_by p.body) u.served.accepted (offers_named t.bound k.run call p p.body (Cancel id) asks) offered in
    knows_as w u (behind m p w) can (keeps_more t u m p w follows.0 k bound follows.1 follows.2 o)
knows_more t u m call out new agreement p (Orphan id) act w k bound asks follows does can offered =
    let o = from_offer m [] (offered_by p.body) u.served.accepted (offers_named t.bound k.run call p p.body (Orphan id) asks) offered in
    knows_as w u (behind m p w) can (keeps_more t u m p w follows.0 k bound follows.1 follows.2 o)
knows_more t u m call out new agreement p (Broken c x) act w k bound asks follows does can offered = knows_over w u (behind m p w) does.1

-- ---- HEARING

found : (bound : Bool) (old : Joining) (run : Option Joined) (call : Option ℕ) (p : Pdu) (ask : Option Ask) (new : Joining) → old ≡ Ok run → Finds bound old call p (Ok ask) new
    → AsksWith bound run call p p.body ask × Follows (Changes run p p.body) ask new
found bound old run call p ask new is h = subst (λ (j : Joining). Finds bound j call p (Ok ask) new) is h

asked : (t : MpxFields) (m : MpxState) (free : IsFreeAmong t m) (p : Pdu) (alone : Option Ask) → AsksWith t.conn.bound free.conn.keeps.run (named p.call_id t.out) p p.body alone
    → AsksAmong m.conn.past m.out p (option_map (barred m.out) alone)
asked t m free p alone h =
    let k = free.conn.keeps in
    let here : AsksWith t.conn.bound k.run (named p.call_id m.out) p p.body alone = subst (λ (x : List OpenCall). AsksWith t.conn.bound k.run (named p.call_id x) p p.body alone) free.out h in
    record { run = k.run; joining = k.runs; alone = alone; asks = subst (λ (b : Bool). AsksWith b k.run (named p.call_id m.out) p p.body alone) k.bound here; among = refl }

many_more : (t u : MpxFields) (m : MpxState) (p : Pdu) → u.many ≡ (binds_many p || t.many) → t.many ≡ is_many m.conn.past → u.many ≡ is_many (p ∷ m.conn.past)
many_more t u m p many before = many ∙ ap (λ (b : Bool). binds_many p || b) before

-- nothing is asked
pub heard_none : (t u : MpxFields) (m : MpxState) (p : Pdu) → IsFreeAmong t m → Finds t.conn.bound t.conn.joining (named p.call_id t.out) p (Ok None) u.conn.joining
    → u.conn.bound ≡ (is_bind p.body || t.conn.bound) → u.many ≡ (binds_many p || t.many) → u.conn.served ≡ t.conn.served → u.conn.waits ≡ waits.Nothing → u.out ≡ t.out
    → HearsAt m p (Ok Skipped) u
unfolding contexts_after
heard_none t u m p free finds bound many served nothing out =
    let k = free.conn.keeps in
    let h = found t.conn.bound t.conn.joining k.run (named p.call_id t.out) p None u.conn.joining k.joining finds in
    let none : offered_by p.body ≡ [] = none_named t.conn.bound k.run (named p.call_id t.out) p p.body h.0 in
    let same : u.conn.served.accepted ≡ contexts_after m.conn.ids (accepted m.conn) (offered_by p.body) = rw (none, served) k.accepted in
    (asked t m free p None h.0, nothing, keeps_more t.conn u.conn m.conn p waits.Nothing h.1.0 k bound h.1.1 h.1.2 same, many_more t u m p many free.many, out ∙ free.out)

-- what is asked is done
does_at : (t : MpxFields) (m : MpxState) (alone : Ask) (act : Act) (w : Waits) (new : List OpenCall) → t.conn.served.ids ≡ m.conn.ids → t.conn.served.accepted ≡ accepted m.conn
    → t.conn.agreement ≡ m.conn.agreement → t.out ≡ m.out → DoesWithin t.conn.served.ids t.conn.served.accepted t.conn.agreement t.out (barred t.out alone) act w new
    → DoesWithin m.conn.ids (accepted m.conn) m.conn.agreement m.out (barred m.out alone) act w new
does_at t m alone act w new ids acc agreement out h =
    let a = subst (λ (x : List SyntaxId). DoesWithin x t.conn.served.accepted t.conn.agreement t.out (barred t.out alone) act w new) ids h in
    let b = subst (λ (x : List Accepted). DoesWithin m.conn.ids x t.conn.agreement t.out (barred t.out alone) act w new) acc a in
    let d = subst (λ (x : Agreement). DoesWithin m.conn.ids (accepted m.conn) x t.out (barred t.out alone) act w new) agreement b in
    subst (λ (x : List OpenCall). DoesWithin m.conn.ids (accepted m.conn) m.conn.agreement x (barred x alone) act w new) out d

offered_at : (t : ConnFields) (m : ConnState) (es : List Element) (s : ServedSyntaxes) → t.served.ids ≡ m.ids → t.served.accepted ≡ accepted m → s ≡ with_elements t.served es
    → s.accepted ≡ contexts_after m.ids (accepted m) es
offered_at t m es s ids acc e =
    ap (λ (x : ServedSyntaxes). x.accepted) e
    ∙ (ap (λ (x : List SyntaxId). contexts_after x t.served.accepted es) ids ∙ ap (λ (x : List Accepted). contexts_after m.ids x es) acc)

pub heard_act : (t u : MpxFields) (m : MpxState) (p : Pdu) (alone : Ask) (act : Act) (w : Waits) → IsFreeAmong t m → Finds t.conn.bound t.conn.joining (named p.call_id t.out) p (Ok (Some alone)) u.conn.joining
    → u.conn.bound ≡ (is_bind p.body || t.conn.bound) → u.many ≡ (binds_many p || t.many) → ActsWith t.conn.served t.out t.conn.agreement alone (Ok (act, w)) u.conn.served u.out → CanStand w
    → u.conn.waits ≡ w → HearsAt m p (Ok (Acted act)) u
heard_act t u m p alone act w free finds bound many done can here =
    let k = free.conn.keeps in
    let call = named p.call_id t.out in
    let h = found t.conn.bound t.conn.joining k.run call p (Some alone) u.conn.joining k.joining finds in
    let does = does_at t m alone act w u.out free.conn.ids k.accepted free.conn.agreement free.out done.0 in
    let offer = offered_at t.conn m.conn (elements_in alone) u.conn.served free.conn.ids k.accepted done.1 in
    let knows : Knows w u.conn (behind m.conn p w) = knows_more t.conn u.conn m.conn call m.out u.out m.conn.agreement p alone act w k bound h.0 h.1 does can offer in (
      barred m.out alone,
      asked t m free p (Some alone) h.0,
      subst (λ (x : Waits). DoesWithin m.conn.ids (accepted m.conn) m.conn.agreement m.out (barred m.out alone) act x u.out) (sym here) does,
      subst (λ (x : Waits). Knows x u.conn (behind m.conn p x)) (sym here) knows,
      many_more t u m p many free.many,
    )
