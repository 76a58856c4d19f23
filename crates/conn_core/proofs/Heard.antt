-- What is known of a connection behind one PDU more.
use Rattle.std.proofs.Common.{◌≡◌, ℕ, Bool, true, false, nat_lt, List, [], reverse, Option, Some, None, Ok, refl, sym, ap, subst, ◌∙◌, arith}
use Rattle.std.specs.Prelude.{◌||◌, if◌then◌else◌, ⊤}
use Rattle.std.proofs.lemmas.Option.{none-some, same_Some}
use Rattle.pdu_codec.specs.Constants.{least_fragment}
use Rattle.pdu_codec.specs.declared.pdu.Pdu.{Pdu}
use Rattle.pdu_codec.specs.declared.pdu.Body.{Body}
use Rattle.pdu_codec.specs.declared.pdu.Body.TheVariants as bodies
use Rattle.pdu_codec.specs.declared.pdu.BindBody.{BindBody}
use Rattle.pdu_codec.specs.declared.pdu.AlterBody.{AlterBody}
use Rattle.pdu_codec.specs.declared.pdu.RequestBody.{RequestBody}
use Rattle.pdu_codec.specs.declared.pdu.Element.{Element}
use Rattle.handle_model.proofs.Reversed.{reverse-cons}
use Rattle.pdu_stream.specs.declared.joined.Joined.{Joined}
use Rattle.pdu_stream.specs.Fragments.{Fragment, Joining, is_last, with_fragment, joined_of, is_in_order, AddsFragment}
use Rattle.pdu_stream.specs.Runs.{IsJoining, Changes}
use Rattle.pdu_stream.proofs.RunLaws.{runs_go_on}
use Rattle.presentation.specs.declared.verdict.Accepted.{Accepted}
use Rattle.presentation.specs.Offers.{contexts_after, interface_of}
use Rattle.presentation.proofs.Offered.{split}
use Rattle.conn_asks.specs.declared.events.Caller.{Caller}
use Rattle.conn_asks.specs.declared.events.ConnFault.{ConnFault}
use Rattle.conn_asks.specs.declared.events.ConnFault.TheVariants as conn
use Rattle.conn_asks.specs.declared.events.Act.{Act}
use Rattle.conn_asks.specs.declared.events.Ask.{Ask}
use Rattle.conn_asks.specs.declared.events.Ask.TheVariants.{Bind, Alter, Call, Cancel, Orphan, Broken}
use Rattle.conn_asks.specs.declared.events.Waits.{Waits}
use Rattle.conn_asks.specs.declared.events.Waits.TheVariants as waits
use Rattle.conn_asks.specs.Asks.{is_bind, offered, offered_by, called, called_behind, request_fragment, of_bind, of_alter, JoinsToAsk, OfRequest, AsksWith, is_called, caller}
use Rattle.conn_asks.specs.Asking.{Follows, elements_in}
use Rattle.conn_asks.specs.States.{ConnState, accepted, ActsOnCall, DoesWith, IsIdle, IsCalling, caller_of}
use Rattle.conn_core.specs.Fields.{ConnFields, KeepsState, Knows}
use Rattle.conn_core.specs.Steps.{behind}

-- ---- WHAT A PDU ASKS, whichever call was asked last

-- at least as much is asked
abbrev pub Recalls : Option Ask → Option Ask → Type 0
Recalls None other = IsIdle waits.Nothing other
Recalls (Some a) other = other ≡ Some a

recalls_itself : (ask : Option Ask) → Recalls ask ask
recalls_itself None = tt
recalls_itself (Some a) = refl

idle_cancel : (id : ℕ) (b : Bool) → IsIdle waits.Nothing (if b then Some (Cancel id) else None)
idle_cancel id true = tt
idle_cancel id false = tt

idle_orphan : (id : ℕ) (b : Bool) → IsIdle waits.Nothing (if b then Some (Orphan id) else None)
idle_orphan id true = tt
idle_orphan id false = tt

pub recalled : (bound : Bool) (run : Option Joined) (call : Option ℕ) (p : Pdu) (body : Body) (ask : Option Ask) → AsksWith bound run None p body ask
    → (other : Option Ask) × AsksWith bound run call p body other × Recalls ask other
recalled bound run call p (bodies.Request r) ask h = (ask, h, recalls_itself ask)
recalled bound run call p (bodies.Response r) ask h = (ask, h, recalls_itself ask)
recalled bound run call p (bodies.Fault r) ask h = (ask, h, recalls_itself ask)
recalled bound run call p (bodies.Bind r) ask h = (ask, h, recalls_itself ask)
recalled bound run call p (bodies.BindAck r) ask h = (ask, h, recalls_itself ask)
recalled bound run call p (bodies.BindNak r) ask h = (ask, h, recalls_itself ask)
recalled bound run call p (bodies.Alter r) ask h = (ask, h, recalls_itself ask)
recalled bound run call p (bodies.AlterResp r) ask h = (ask, h, recalls_itself ask)
recalled bound run call p bodies.Shutdown ask h = (ask, h, recalls_itself ask)
recalled bound run call p bodies.CoCancel ask h =
    let b = is_called p.call_id call in
    (if b then Some (Cancel p.call_id) else None, refl, subst (λ (x : Option Ask). Recalls x (if b then Some (Cancel p.call_id) else None)) (sym h) (idle_cancel p.call_id b))
recalled bound run call p bodies.Orphaned ask h =
    let b = is_called p.call_id call in
    (if b then Some (Orphan p.call_id) else None, refl, subst (λ (x : Option Ask). Recalls x (if b then Some (Orphan p.call_id) else None)) (sym h) (idle_orphan p.call_id b))

-- ---- WHAT A PDU OFFERS

abbrev pub Offers : Ask → Body → Type 0
Offers (Broken c f) body = ⊤
Offers ask body = offered_by body ≡ elements_in ask

offers_bind : (c : Caller) (flags : ℕ) (b : BindBody) (q : Bool) → Offers (if q then Broken c (conn.Nak 0) else Bind c flags b) (bodies.Bind b)
offers_bind c flags b true = tt
offers_bind c flags b false = refl

offers_of_bind : (bound : Bool) (c : Caller) (flags : ℕ) (b : BindBody) → Offers (of_bind bound c flags b) (bodies.Bind b)
offers_of_bind true c flags b = tt
offers_of_bind false c flags b = offers_bind c flags b (nat_lt b.max_recv least_fragment)

offers_of_alter : (bound : Bool) (c : Caller) (b : AlterBody) → Offers (of_alter bound c b) (bodies.Alter b)
offers_of_alter true c b = refl
offers_of_alter false c b = tt

offers_joined : (run : Option Joined) (f : Fragment) (r : RequestBody) (ask : Ask) → JoinsToAsk run f (Some ask) → Offers ask (bodies.Request r)
offers_joined run f r (Bind c flags b) h = absurd h
offers_joined run f r (Alter c b) h = absurd h
offers_joined run f r (Call j) h = refl
offers_joined run f r (Cancel id) h = absurd h
offers_joined run f r (Orphan id) h = absurd h
offers_joined run f r (Broken c x) h = tt

offers_request : (bound : Bool) (run : Option Joined) (f : Fragment) (r : RequestBody) (ask : Ask) → OfRequest bound run f (Some ask) → Offers ask (bodies.Request r)
offers_request true run f r ask h = offers_joined run f r ask h
offers_request false run f r ask h = subst (λ (x : Ask). Offers x (bodies.Request r)) (sym (same_Some ask _ h)) tt

broken_offers : (c : Caller) (x : ConnFault) (body : Body) (ask : Ask) → Some ask ≡ Some (Broken c x) → Offers ask body
broken_offers c x body ask h = subst (λ (y : Ask). Offers y body) (sym (same_Some ask (Broken c x) h)) tt

pub offers : (bound : Bool) (run : Option Joined) (p : Pdu) (body : Body) (ask : Ask) → AsksWith bound run None p body (Some ask) → Offers ask body
offers bound run p (bodies.Request r) ask h = offers_request bound run (request_fragment p r) r ask h
offers bound run p (bodies.Response r) ask h = broken_offers (caller p 0) conn.Direction (bodies.Response r) ask h
offers bound run p (bodies.Fault r) ask h = broken_offers (caller p 0) conn.Direction (bodies.Fault r) ask h
offers bound run p (bodies.Bind b) ask h = subst (λ (x : Ask). Offers x (bodies.Bind b)) (sym (same_Some ask _ h)) (offers_of_bind bound (caller p 0) p.flags b)
offers bound run p (bodies.BindAck r) ask h = broken_offers (caller p 0) conn.Direction (bodies.BindAck r) ask h
offers bound run p (bodies.BindNak r) ask h = broken_offers (caller p 0) conn.Direction (bodies.BindNak r) ask h
offers bound run p (bodies.Alter b) ask h = subst (λ (x : Ask). Offers x (bodies.Alter b)) (sym (same_Some ask _ h)) (offers_of_alter bound (caller p 0) b)
offers bound run p (bodies.AlterResp r) ask h = broken_offers (caller p 0) conn.Direction (bodies.AlterResp r) ask h
offers bound run p bodies.Shutdown ask h = broken_offers (caller p 0) conn.Direction bodies.Shutdown ask h
offers bound run p bodies.CoCancel ask h = absurd (none-some ask (sym h))
offers bound run p bodies.Orphaned ask h = absurd (none-some ask (sym h))

-- what asks nothing offers nothing
pub offers_none : (bound : Bool) (run : Option Joined) (p : Pdu) (body : Body) → AsksWith bound run None p body None → offered_by body ≡ []
offers_none bound run p (bodies.Request r) h = refl
offers_none bound run p (bodies.Response r) h = refl
offers_none bound run p (bodies.Fault r) h = refl
offers_none bound run p (bodies.Bind b) h = absurd (none-some _ h)
offers_none bound run p (bodies.BindAck r) h = refl
offers_none bound run p (bodies.BindNak r) h = refl
offers_none bound run p (bodies.Alter b) h = absurd (none-some _ h)
offers_none bound run p (bodies.AlterResp r) h = refl
offers_none bound run p bodies.Shutdown h = refl
offers_none bound run p bodies.CoCancel h = refl
offers_none bound run p bodies.Orphaned h = refl

-- ---- A WHOLE REQUEST

abbrev pub is_call : Ask → Bool
is_call (Bind c flags b) = false
is_call (Alter c b) = false
is_call (Call j) = true
is_call (Cancel id) = false
is_call (Orphan id) = false
is_call (Broken c x) = false

no_call : (j : Joined) (ask : Ask) → is_call ask ≡ false → Call j ≡ ask → ⊥
no_call j ask not e = absurd (cc (ap is_call e, not))

call_broken : (j : Joined) (c : Caller) (x : ConnFault) → Call j ≡ Broken c x → ⊥
call_broken j c x e = no_call j (Broken c x) refl e

bind_no_call : (bound q : Bool) (c : Caller) (flags : ℕ) (b : BindBody) → nat_lt b.max_recv least_fragment ≡ q → is_call (of_bind bound c flags b) ≡ false
bind_no_call true q c flags b e = refl
bind_no_call false true c flags b e = rw e refl
bind_no_call false false c flags b e = rw e refl

call_bind : (bound : Bool) (c : Caller) (flags : ℕ) (b : BindBody) (j : Joined) → Call j ≡ of_bind bound c flags b → ⊥
call_bind bound c flags b j e = no_call j (of_bind bound c flags b) (bind_no_call bound (nat_lt b.max_recv least_fragment) c flags b refl) e

alter_no_call : (bound : Bool) (c : Caller) (b : AlterBody) → is_call (of_alter bound c b) ≡ false
alter_no_call true c b = refl
alter_no_call false c b = refl

call_alter : (bound : Bool) (c : Caller) (b : AlterBody) (j : Joined) → Call j ≡ of_alter bound c b → ⊥
call_alter bound c b j e = no_call j (of_alter bound c b) (alter_no_call bound c b) e

abbrev pub fine : Option Joined → Joining
fine a = Ok a

pub same_Ok : (a b : Option Joined) → fine a ≡ fine b → a ≡ b
same_Ok a b e = cc (e)

in_order_id : (run : Option Joined) (f : Fragment) → is_in_order run f ≡ true → (with_fragment run f).call_id ≡ f.call_id
unfolding joined_of
in_order_id None f h = refl
in_order_id (Some j) f h = grind arith

ends_run : (run : Option Joined) (f : Fragment) (answer after : Option Joined) → is_last f ≡ true → AddsFragment (Ok run) f (Ok answer) (Ok after) → after ≡ None
ends_run run f None after last h = absurd (cc (last, h.1))
ends_run run f (Some j) after last h = same_Ok after None h.3

called_last : (p : Pdu) (call : Option ℕ) (last : Bool) → last ≡ true → (if last then Some p.call_id else call) ≡ Some p.call_id
called_last p call true h = refl
called_last p call false h = absurd (cc (h))

pub calls : (bound : Bool) (run : Option Joined) (call : Option ℕ) (p : Pdu) (body : Body) (j : Joined) (after : Option Joined) → AsksWith bound run None p body (Some (Call j))
    → Changes run p body after → (after ≡ None) × (called_behind call p body ≡ Some j.call_id)
calls true run call p (bodies.Request r) j after h change =
    let f = request_fragment p r in
    let id : j.call_id ≡ p.call_id = ap (λ (x : Joined). x.call_id) h.2 ∙ in_order_id run f h.0.0 in
    (ends_run run f change.0 after h.1 change.1, called_last p call (is_last f) h.1 ∙ ap (λ (n : ℕ). Some n) (sym id))
calls false run call p (bodies.Request r) j after h change = absurd (call_broken j _ _ (same_Some _ _ h))
calls bound run call p (bodies.Response r) j after h change = absurd (call_broken j _ _ (same_Some _ _ h))
calls bound run call p (bodies.Fault r) j after h change = absurd (call_broken j _ _ (same_Some _ _ h))
calls bound run call p (bodies.Bind b) j after h change = absurd (call_bind bound (caller p 0) p.flags b j (same_Some _ _ h))
calls bound run call p (bodies.BindAck r) j after h change = absurd (call_broken j _ _ (same_Some _ _ h))
calls bound run call p (bodies.BindNak r) j after h change = absurd (call_broken j _ _ (same_Some _ _ h))
calls bound run call p (bodies.Alter b) j after h change = absurd (call_alter bound (caller p 0) b j (same_Some _ _ h))
calls bound run call p (bodies.AlterResp r) j after h change = absurd (call_broken j _ _ (same_Some _ _ h))
calls bound run call p bodies.Shutdown j after h change = absurd (call_broken j _ _ (same_Some _ _ h))
calls bound run call p bodies.CoCancel j after h change = absurd (none-some (Call j) (sym h))
calls bound run call p bodies.Orphaned j after h change = absurd (none-some (Call j) (sym h))

-- ---- WHAT IS KNOWN BEHIND A PDU

more_accepted : (m : ConnState) (p : Pdu) (w : Waits) → accepted (behind m p w) ≡ contexts_after m.ids (accepted m) (offered_by p.body)
unfolding offered
more_accepted m p w = split m.ids [] (offered m.past) (offered_by p.body)

pub keeps_more : (t u : ConnFields) (m : ConnState) (p : Pdu) (w : Waits) (after : Option Joined) → (k : KeepsState t m) → u.bound ≡ (is_bind p.body || t.bound) → u.joining ≡ Ok after
    → Changes k.run p p.body after → u.served.accepted ≡ contexts_after m.ids (accepted m) (offered_by p.body) → KeepsState u (behind m p w)
keeps_more t u m p w after k bound joining changes offered = record {
  bound = bound ∙ ap (λ (b : Bool). is_bind p.body || b) k.bound;
  run = after;
  joining = joining;
  runs = subst (λ (ps : List Pdu). IsJoining ps after) (sym (reverse-cons p m.past)) (runs_go_on (reverse m.past) p k.run after k.runs changes);
  accepted = offered ∙ sym (more_accepted m p w);
}

-- what is known follows from what is waited for
as_known : (w v : Waits) (u : ConnFields) (n : ConnState) → w ≡ v → Knows v u n → Knows w u n
as_known w v u n e k = subst (λ (x : Waits). Knows x u n) (sym e) k

known_call : (i : Option ℕ) (j : Joined) (act : Act) (w : Waits) (u : ConnFields) (n : ConnState) → ActsOnCall i j act w → KeepsState u n → u.joining ≡ Ok None → called n.past ≡ Some j.call_id → Knows w u n
known_call (Some k) j act w u n calls keeps none id = as_known w (waits.Call (caller_of j) j.maybe) u n calls.1 (keeps, none, id)
known_call None j act w u n calls keeps none id = as_known w waits.Nothing u n calls.1 keeps

not_calling : IsCalling waits.Nothing → ⊥
not_calling (c, maybe, e) = absurd (cc (e))

from_offer : (m : ConnState) (es os : List Element) (a : List Accepted) → os ≡ es → a ≡ contexts_after m.ids (accepted m) es → a ≡ contexts_after m.ids (accepted m) os
from_offer m es os a same e = e ∙ ap (λ (xs : List Element). contexts_after m.ids (accepted m) xs) (sym same)

pub knows_more : (t u : ConnFields) (m : ConnState) (p : Pdu) (ask : Ask) (act : Act) (w : Waits) → (k : KeepsState t m) → u.bound ≡ (is_bind p.body || t.bound)
    → AsksWith t.bound k.run None p p.body (Some ask) → Follows (Changes k.run p p.body) (Some ask) u.joining → DoesWith m.ids (accepted m) m.agreement waits.Nothing ask act w
    → u.served.accepted ≡ contexts_after m.ids (accepted m) (elements_in ask) → Knows w u (behind m p w)
unfolding called
knows_more t u m p (Bind c flags b) act w k bound asks follows does offered =
    let o = from_offer m b.elements (offered_by p.body) u.served.accepted (offers t.bound k.run p p.body (Bind c flags b) asks) offered in
    as_known w _ u (behind m p w) does.1 (keeps_more t u m p w follows.0 k bound follows.1 follows.2 o)
knows_more t u m p (Alter c b) act w k bound asks follows does offered =
    let o = from_offer m b.elements (offered_by p.body) u.served.accepted (offers t.bound k.run p p.body (Alter c b) asks) offered in
    as_known w waits.Nothing u (behind m p w) does.1 (keeps_more t u m p w follows.0 k bound follows.1 follows.2 o)
knows_more t u m p (Call j) act w k bound asks follows does offered =
    let o = from_offer m [] (offered_by p.body) u.served.accepted (offers t.bound k.run p p.body (Call j) asks) offered in
    let whole = calls t.bound k.run (called m.past) p p.body j follows.0 asks follows.2 in
    known_call (interface_of (accepted m) j.context) j act w u (behind m p w) does (keeps_more t u m p w follows.0 k bound follows.1 follows.2 o)
    (follows.1 ∙ ap (λ (r : Option Joined). Ok r) whole.0) whole.1
knows_more t u m p (Cancel id) act w k bound asks follows does offered = absurd (not_calling does.0)
knows_more t u m p (Orphan id) act w k bound asks follows does offered = absurd (not_calling does.0)
knows_more t u m p (Broken c x) act w k bound asks follows does offered = as_known w waits.Over u (behind m p w) does.1 tt
