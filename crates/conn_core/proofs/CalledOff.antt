-- A call is called off.
use Rattle.std.proofs.Common.{◌≡◌, ℕ, ◌<◌, ◌≤◌, Bool, true, false, nat_eq, List, [], ◌∷◌, ◌++◌, length, slice_index, Option, Some, None, Ok, inl, refl, sym, ap, subst, ◌∙◌, arith, length-append}
use Rattle.std.specs.Prelude.{◌||◌, ◌&&◌, not, nat_le, if◌then◌else◌}
use Rattle.std.specs.Bool.{OnTrue}
use Rattle.std.proofs.lemmas.List.{get_or_append_left}
use Rattle.std.proofs.lemmas.Bool.{le-leb, leb-true}
use Rattle.pdu_codec.specs.Constants.{header_size}
use Rattle.pdu_codec.specs.declared.pdu.Pdu.{Pdu}
use Rattle.pdu_codec.specs.declared.pdu.Body.{Body}
use Rattle.pdu_codec.specs.declared.pdu.Body.TheVariants as bodies
use Rattle.pdu_codec.specs.Pdus.{kind_of}
use Rattle.pdu_codec.specs.Faults.{kind_at}
use Rattle.pdu_codec.proofs.PduLaws.{pdu_says, pdu_long}
use Rattle.pdu_stream.specs.declared.joined.Joined.{Joined}
use Rattle.pdu_stream.specs.Cuts.{IsNext}
use Rattle.pdu_stream.specs.Fragments.{Joining}
use Rattle.presentation.specs.Offers.{contexts_after}
use Rattle.pdu_stream.specs.Runs.{Changes}
use Rattle.conn_asks.specs.declared.events.Caller.{Caller}
use Rattle.conn_asks.specs.declared.events.Ask.{Ask}
use Rattle.conn_asks.specs.declared.events.Ask.TheVariants as asks
use Rattle.conn_asks.specs.declared.events.Waits.{Waits}
use Rattle.conn_asks.specs.declared.events.Waits.TheVariants.{Call}
use Rattle.conn_asks.specs.Asks.{is_bind, is_bound, called, called_behind, is_called, offered_by, AsksWith}
use Rattle.conn_asks.specs.States.{ConnState, accepted, MayCome, is_calling_off, calls_off_by, IsCalling, TakesPdu, Does, IsStuck}
use Rattle.conn_core.specs.Fields.{ConnFields, KeepsState, Knows, IsAt}
use Rattle.conn_core.specs.Steps.{StepsFrom, calls_off, holds_up, act_with, behind}
use Rattle.conn_core.specs.declared.next.Step.TheVariants.{Stuck, Skipped, Acted}
use Rattle.conn_core.proofs.Turns.{same_keeps}
use Rattle.conn_core.proofs.Heard.{keeps_more, fine, same_Ok}

-- ---- which PDUs call off

off_kind : (body : Body) → calls_off_by (kind_of body) ≡ is_calling_off body
off_kind (bodies.Request b) = refl
off_kind (bodies.Response b) = refl
off_kind (bodies.Fault b) = refl
off_kind (bodies.Bind b) = refl
off_kind (bodies.BindAck b) = refl
off_kind (bodies.BindNak b) = refl
off_kind (bodies.Alter b) = refl
off_kind (bodies.AlterResp b) = refl
off_kind bodies.Shutdown = refl
off_kind bodies.CoCancel = refl
off_kind bodies.Orphaned = refl

index_front : (a b : List ℕ) (i : ℕ) → i < length a → slice_index (a ++ b) i ≡ slice_index a i
index_front a b i lt = get_or_append_left a b 0 i lt

kind_next : (rest others : List ℕ) (p : Pdu) → IsNext rest p others → kind_at rest ≡ kind_of p.body
kind_next rest others p next =
    ap kind_at next.2 ∙ (index_front next.0 others 2 (omega (arith, pdu_long p next.0 next.1)) ∙ (pdu_says p next.0 next.1).kind)

long_next : (rest others : List ℕ) (p : Pdu) → IsNext rest p others → header_size ≤ length rest
long_next rest others p next = omega (arith, ap length next.2, length-append next.0 others, pdu_long p next.0 next.1)

pub off_next : (rest others : List ℕ) (p : Pdu) → IsNext rest p others → calls_off rest ≡ is_calling_off p.body
off_next rest others p next =
    rw (le-leb header_size (length rest) (long_next rest others p next), kind_next rest others p next) (off_kind p.body)

-- ---- while a call is unanswered

call_at : (t : ConnFields) (m : ConnState) (c : Caller) (maybe : Bool) → IsAt t m → t.waits ≡ Call c maybe → m.waits ≡ Call c maybe
call_at t m c maybe at is = sym at.waits ∙ is

pub knows_at : (t : ConnFields) (m : ConnState) (c : Caller) (maybe : Bool) → IsAt t m → t.waits ≡ Call c maybe → Knows (Call c maybe) t m
knows_at t m c maybe at is = subst (λ (x : Waits). Knows x t m) (call_at t m c maybe at is) at.knows

-- it may be that nothing is to be done
pub stuck_at : (t u : ConnFields) (m : ConnState) (c : Caller) (maybe : Bool) → IsAt t m → t.waits ≡ Call c maybe → u.fed.rest ≡ t.fed.rest → u.served ≡ t.served → u.waits ≡ t.waits → u.agreement ≡ t.agreement
    → u.bound ≡ t.bound → u.joining ≡ t.joining → ((p : Pdu) (others : List ℕ) → IsNext t.fed.rest p others → is_calling_off p.body ≡ false) → StepsFrom m (Ok Stuck) u
stuck_at t u m c maybe at is rest served waits agreement bound joining none =
    let w = call_at t m c maybe at is in
    let k = knows_at t m c maybe at is in
    let knows : Knows (Call c maybe) u m = (same_keeps t u m m bound joining served refl refl k.0, joining ∙ k.1, k.2) in (
      record { ids = rw served at.ids; rest = rest ∙ at.rest; waits = waits ∙ at.waits; agreement = agreement ∙ at.agreement; knows = subst (λ (x : Waits). Knows x u m) (sym w) knows },
      subst (λ (x : Waits). IsStuck x m.rest) (sym w) (λ p others next. none p others (subst (λ (x : List ℕ). IsNext x p others) (sym at.rest) next)),
    )

-- no octets call off
pub none_off : (rest : List ℕ) → calls_off rest ≡ false → (p : Pdu) (others : List ℕ) → IsNext rest p others → is_calling_off p.body ≡ false
none_off rest h p others next = sym (off_next rest others p next) ∙ h

-- ---- what has to wait

both : (a b : Bool) → (a && not b) ≡ true → (a ≡ true) × (b ≡ false)
both true true h = absurd (cc (h))
both true false h = (refl, refl)
both false b h = absurd (cc (h))

-- a header that stands in front stays, whatever comes behind it
held_up : (rest more others : List ℕ) (p : Pdu) → holds_up rest ≡ true → IsNext (rest ++ more) p others → is_calling_off p.body ≡ false
held_up rest more others p h next =
    let b = both (nat_le header_size (length rest)) (calls_off_by (kind_at rest)) h in
    let long : header_size ≤ length rest = leb-true header_size (length rest) b.0 in
    let kind : kind_at rest ≡ kind_of p.body = sym (index_front rest more 2 (omega (arith, long))) ∙ kind_next (rest ++ more) others p next in
    sym (off_kind p.body) ∙ (ap calls_off_by (sym kind) ∙ b.1)

pub stuck_behind : (w : Waits) (rest : List ℕ) (c : Caller) (maybe held : Bool) → w ≡ Call c maybe → held ≡ holds_up rest → OnTrue held ((more : List ℕ) → IsStuck w (rest ++ more))
stuck_behind w rest c maybe true is h = λ more. subst (λ (x : Waits). IsStuck x (rest ++ more)) (sym is) (λ p others next. held_up rest more others p (sym h) next)
stuck_behind w rest c maybe false is h = tt

-- ---- what a co_cancel or an orphaned is, beside what it asks

record IsQuiet (p : Pdu) (body : Body) : Type 0 where
  bind : is_bind body ≡ false
  offers : offered_by body ≡ []
  changes : Changes None p body None
  calls : (call : Option ℕ) → called_behind call p body ≡ call

quiet_off : (p : Pdu) (body : Body) → is_calling_off body ≡ true → IsQuiet p body
quiet_off p (bodies.Request b) h = absurd (cc (h))
quiet_off p (bodies.Response b) h = absurd (cc (h))
quiet_off p (bodies.Fault b) h = absurd (cc (h))
quiet_off p (bodies.Bind b) h = absurd (cc (h))
quiet_off p (bodies.BindAck b) h = absurd (cc (h))
quiet_off p (bodies.BindNak b) h = absurd (cc (h))
quiet_off p (bodies.Alter b) h = absurd (cc (h))
quiet_off p (bodies.AlterResp b) h = absurd (cc (h))
quiet_off p bodies.Shutdown h = absurd (cc (h))
quiet_off p bodies.CoCancel h = record { bind = refl; offers = refl; changes = (false, (refl, refl)); calls = λ call. refl }
quiet_off p bodies.Orphaned h = record { bind = refl; offers = refl; changes = (false, (refl, refl)); calls = λ call. refl }

-- with the id of the call it asks that this is called off, and else nothing
record OffAct (m : ConnState) (run : Option Joined) (p : Pdu) (body : Body) : Type 0 where
  ask : Ask
  asks : AsksWith (is_bound m.past) run (called m.past) p body (Some ask)
  does : Does m ask (act_with p.call_id body) m.waits

off_act : (m : ConnState) (run : Option Joined) (p : Pdu) (body : Body) → is_calling_off body ≡ true → is_called p.call_id (called m.past) ≡ true → IsCalling m.waits → OffAct m run p body
off_act m run p (bodies.Request b) h is calling = absurd (cc (h))
off_act m run p (bodies.Response b) h is calling = absurd (cc (h))
off_act m run p (bodies.Fault b) h is calling = absurd (cc (h))
off_act m run p (bodies.Bind b) h is calling = absurd (cc (h))
off_act m run p (bodies.BindAck b) h is calling = absurd (cc (h))
off_act m run p (bodies.BindNak b) h is calling = absurd (cc (h))
off_act m run p (bodies.Alter b) h is calling = absurd (cc (h))
off_act m run p (bodies.AlterResp b) h is calling = absurd (cc (h))
off_act m run p bodies.Shutdown h is calling = absurd (cc (h))
off_act m run p bodies.CoCancel h is calling = record { ask = asks.Cancel p.call_id; asks = rw is refl; does = (calling, refl, refl) }
off_act m run p bodies.Orphaned h is calling = record { ask = asks.Orphan p.call_id; asks = rw is refl; does = (calling, refl, refl) }

off_idle : (m : ConnState) (run : Option Joined) (p : Pdu) (body : Body) → is_calling_off body ≡ true → is_called p.call_id (called m.past) ≡ false
    → AsksWith (is_bound m.past) run (called m.past) p body None
off_idle m run p (bodies.Request b) h is = absurd (cc (h))
off_idle m run p (bodies.Response b) h is = absurd (cc (h))
off_idle m run p (bodies.Fault b) h is = absurd (cc (h))
off_idle m run p (bodies.Bind b) h is = absurd (cc (h))
off_idle m run p (bodies.BindAck b) h is = absurd (cc (h))
off_idle m run p (bodies.BindNak b) h is = absurd (cc (h))
off_idle m run p (bodies.Alter b) h is = absurd (cc (h))
off_idle m run p (bodies.AlterResp b) h is = absurd (cc (h))
off_idle m run p bodies.Shutdown h is = absurd (cc (h))
off_idle m run p bodies.CoCancel h is = rw is refl
off_idle m run p bodies.Orphaned h is = rw is refl

no_run : (a : Option Joined) (j : Joining) → j ≡ fine a → j ≡ fine None → a ≡ None
no_run a j h k = same_Ok a None (sym h ∙ k)

-- what is known behind it
known_off : (t u : ConnFields) (m n : ConnState) (c : Caller) (maybe : Bool) (p : Pdu) → Knows (Call c maybe) t m → is_calling_off p.body ≡ true → u.bound ≡ t.bound → u.joining ≡ t.joining → u.served ≡ t.served
    → n.past ≡ p ∷ m.past → n.ids ≡ m.ids → Knows (Call c maybe) u n
unfolding called contexts_after
known_off t u m n c maybe p k off bound joining served past ids =
    let q = quiet_off p p.body off in
    let none : k.0.run ≡ None = no_run k.0.run t.joining k.0.joining k.1 in
    let changes : Changes k.0.run p p.body None = subst (λ (r : Option Joined). Changes r p p.body None) (sym none) q.changes in
    let bound' : u.bound ≡ (is_bind p.body || t.bound) = rw q.bind bound in
    let same : u.served.accepted ≡ contexts_after m.ids (accepted m) (offered_by p.body) = rw (q.offers, served) k.0.accepted in
    let keeps : KeepsState u (behind m p m.waits) = keeps_more t u m p m.waits None k.0 bound' (joining ∙ k.1) changes same in
    (same_keeps u u (behind m p m.waits) n refl refl refl past ids keeps, joining ∙ k.1, ap called past ∙ (q.calls (called m.past) ∙ k.2))

takes_off : (t : ConnFields) (m : ConnState) (c : Caller) (maybe : Bool) (p : Pdu) (others : List ℕ) → IsAt t m → m.waits ≡ Call c maybe → IsNext t.fed.rest p others → is_calling_off p.body ≡ true
    → TakesPdu m p (record m { past = p ∷ m.past; rest = others })
takes_off t m c maybe p others at w next off = record {
  may = subst (λ (x : Waits). MayCome x p.body) (sym w) off;
  next = subst (λ (x : List ℕ). IsNext x p others) at.rest next;
  past = refl;
  ids = refl;
  agreement = refl;
}

pub heard : (t u : ConnFields) (m : ConnState) (c : Caller) (maybe : Bool) (p : Pdu) (b : Bool) → IsAt t m → t.waits ≡ Call c maybe → IsNext t.fed.rest p u.fed.rest → is_calling_off p.body ≡ true
    → u.served ≡ t.served → u.waits ≡ t.waits → u.agreement ≡ t.agreement → u.bound ≡ t.bound → u.joining ≡ t.joining → nat_eq c.call_id p.call_id ≡ b → StepsFrom m (Ok (if b then Acted (act_with p.call_id p.body) else Skipped)) u
heard t u m c maybe p true at is next off served waits agreement bound joining same =
    let w = call_at t m c maybe at is in
    let k = knows_at t m c maybe at is in
    let n : ConnState = record m { past = p ∷ m.past; rest = u.fed.rest } in
    let called_is : is_called p.call_id (called m.past) ≡ true = rw k.2 same in
    let act = off_act m k.0.run p p.body off called_is (c, maybe, w) in
    let knows : Knows (Call c maybe) u n = known_off t u m n c maybe p k off bound joining served refl refl in (
      n,
      inl (p, record { takes = takes_off t m c maybe p u.fed.rest at w next off; ask = act.ask; asks = record { run = k.0.run; joining = k.0.runs; asks = act.asks }; does = act.does }),
      record { ids = rw served at.ids; rest = refl; waits = waits ∙ at.waits; agreement = agreement ∙ at.agreement; knows = subst (λ (x : Waits). Knows x u n) (sym w) knows },
    )
heard t u m c maybe p false at is next off served waits agreement bound joining other =
    let w = call_at t m c maybe at is in
    let k = knows_at t m c maybe at is in
    let n : ConnState = record m { past = p ∷ m.past; rest = u.fed.rest } in
    let called_is : is_called p.call_id (called m.past) ≡ false = rw k.2 other in
    let knows : Knows (Call c maybe) u n = known_off t u m n c maybe p k off bound joining served refl refl in (
      p,
      n,
      record { takes = takes_off t m c maybe p u.fed.rest at w next off; ask = None; asks = record { run = k.0.run; joining = k.0.runs; asks = off_idle m k.0.run p p.body off called_is }; idle = tt; waits = refl },
      record { ids = rw served at.ids; rest = refl; waits = waits ∙ at.waits; agreement = agreement ∙ at.agreement; knows = subst (λ (x : Waits). Knows x u n) (sym w) knows },
    )
