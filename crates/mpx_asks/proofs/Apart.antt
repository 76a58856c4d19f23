-- The calls that are unanswered have different ids, and are as many at most as may be.
use Rattle.std.proofs.Common.{◌≡◌, ◌==◌, ℕ, ◌<◌, ◌≤◌, Bool, true, false, List, [], ◌∷◌, ◌++◌, Option, Some, None, length, refl, sym, ap, subst, ◌∙◌, arith, length-append}
use Rattle.std.specs.Prelude.{◌||◌, cond, if◌then◌else◌}
use Rattle.std.specs.Option.{option_map}
use Rattle.std.proofs.lemmas.Bool.Decides.{nat_tests}
use Rattle.rpc_base.specs.declared.identifiers.SyntaxId.{SyntaxId}
use Rattle.pdu_stream.specs.declared.joined.Joined.{Joined}
use Rattle.pdu_stream.specs.declared.joined.JoinFault.TheVariants.{FragOrder}
use Rattle.presentation.specs.declared.verdict.Accepted.{Accepted}
use Rattle.presentation.specs.Offers.{contexts, interface_of}
use Rattle.conn_asks.specs.declared.events.ConnFault.TheVariants.{Join}
use Rattle.conn_asks.specs.declared.events.Ask.{Ask}
use Rattle.conn_asks.specs.declared.events.Ask.TheVariants as asks
use Rattle.conn_asks.specs.Asks.{offered}
use Rattle.conn_asks.specs.States.{caller_of}
use Rattle.mpx_asks.specs.declared.open_calls.OpenCall.{OpenCall}
use Rattle.mpx_asks.specs.Open.{is_full, is_of, is_other, has, without, AreApart, AreOpen}
use Rattle.mpx_asks.specs.Among.{barred}
use Rattle.mpx_asks.specs.Courses.{Moment, heard_in, open_by, open_after, IsCourse}

-- ---- a call more

pub or_false : (a b : Bool) → (a || b) ≡ false → (a ≡ false) × (b ≡ false)
or_false true b h = absurd (cc h)
or_false false b h = (refl, h)

both_false : (a b : Bool) → a ≡ false → b ≡ false → (a || b) ≡ false
both_false a b h k = rw (h, k) refl

has_more : (id : ℕ) (out : List OpenCall) (o : OpenCall) → has id out ≡ false → is_of id o ≡ false → has id (out ++ o ∷ []) ≡ false
has_more id [] o h k = both_false (is_of id o) false k refl
has_more id (x ∷ out) o h k =
    let b = or_false (is_of id x) (has id out) h in
    both_false (is_of id x) (has id (out ++ o ∷ [])) b.0 (has_more id out o b.1 k)

other_way : (a b : ℕ) → (a == b) ≡ false → (b == a) ≡ false
other_way a b h = grind (arith, nat_tests)

apart_more : (out : List OpenCall) (o : OpenCall) → AreApart out → has o.caller.call_id out ≡ false → AreApart (out ++ o ∷ [])
apart_more [] o a h = (refl, tt)
apart_more (x ∷ out) o a h =
    let b = or_false (is_of o.caller.call_id x) (has o.caller.call_id out) h in
    (has_more x.caller.call_id out o a.0 (other_way x.caller.call_id o.caller.call_id b.0), apart_more out o a.1 b.1)

pub open_more : (out : List OpenCall) (o : OpenCall) → AreOpen out → is_full out ≡ false → has o.caller.call_id out ≡ false → AreOpen (out ++ o ∷ [])
open_more out o a room free =
    let short : length out < 32 = grind (arith, nat_tests) in
    (apart_more out o a.0 free, omega (arith, short, length-append out (o ∷ [])))

-- ---- a call less

has_fewer : (id gone : ℕ) (out : List OpenCall) → has id out ≡ false → has id (without gone out) ≡ false
has_fewer id gone [] h = refl
has_fewer id gone (x ∷ out) h =
    let b = or_false (is_of id x) (has id out) h in
    by_test (is_other gone x) b.0 (has_fewer id gone out b.1)
  where
    by_test : (b : Bool) → is_of id x ≡ false → has id (without gone out) ≡ false → has id (cond b (x ∷ without gone out) (without gone out)) ≡ false
    by_test true k r = both_false (is_of id x) (has id (without gone out)) k r
    by_test false k r = r

apart_fewer : (gone : ℕ) (out : List OpenCall) → AreApart out → AreApart (without gone out)
apart_fewer gone [] a = tt
apart_fewer gone (x ∷ out) a = by_test (is_other gone x) (apart_fewer gone out a.1)
  where
    by_test : (b : Bool) → AreApart (without gone out) → AreApart (cond b (x ∷ without gone out) (without gone out))
    by_test true k = (has_fewer x.caller.call_id gone out a.0, k)
    by_test false k = k

few_fewer : (gone : ℕ) (out : List OpenCall) → length (without gone out) ≤ length out
few_fewer gone [] = omega arith
few_fewer gone (x ∷ out) = by_test (is_other gone x) (few_fewer gone out)
  where
    by_test : (b : Bool) → length (without gone out) ≤ length out → length (cond b (x ∷ without gone out) (without gone out)) ≤ length (x ∷ out)
    by_test true k = omega (arith, k)
    by_test false k = omega (arith, k)

pub open_fewer : (gone : ℕ) (out : List OpenCall) → AreOpen out → AreOpen (without gone out)
open_fewer gone out a = (apart_fewer gone out a.0, omega (arith, few_fewer gone out, a.1))

-- ---- courses

same_call : (j i : Joined) → Some (asks.Call j) ≡ Some (asks.Call i) → j ≡ i
same_call j i h = cc h

-- A call that is asked has an id that no unanswered call has.
barred_call : (out : List OpenCall) (alone : Option Ask) (j : Joined) → Some (asks.Call j) ≡ option_map (barred out) alone → has j.call_id out ≡ false
barred_call out None j h = absurd (cc h)
barred_call out (Some (asks.Bind c flags b)) j h = absurd (cc h)
barred_call out (Some (asks.Alter c b)) j h = absurd (cc h)
barred_call out (Some (asks.Cancel id)) j h = absurd (cc h)
barred_call out (Some (asks.Orphan id)) j h = absurd (cc h)
barred_call out (Some (asks.Broken c f)) j h = absurd (cc h)
barred_call out (Some (asks.Call i)) j h = by_test (has i.call_id out) refl h
  where
    by_test : (b : Bool) → has i.call_id out ≡ b → Some (asks.Call j) ≡ Some (if b then asks.Broken (caller_of i) (Join FragOrder) else asks.Call i) → has j.call_id out ≡ false
    by_test true e k = absurd (cc k)
    by_test false e k = ap (λ (x : Joined). has x.call_id out) (same_call j i k) ∙ e

opened : (full : Bool) (iface : Option ℕ) (j : Joined) (out : List OpenCall) → is_full out ≡ full → has j.call_id out ≡ false → AreOpen out → AreOpen (open_by full iface j out)
opened true iface j out room free a = a
opened false None j out room free a = a
opened false (Some k) j out room free a = open_more out (record { caller = caller_of j; maybe = j.maybe }) a room free

after_ask : (accepted : List Accepted) (out : List OpenCall) (ask alone : Option Ask) → AreOpen out → ask ≡ option_map (barred out) alone → AreOpen (open_after accepted out ask)
after_ask accepted out None alone a h = a
after_ask accepted out (Some (asks.Bind c flags b)) alone a h = a
after_ask accepted out (Some (asks.Alter c b)) alone a h = a
after_ask accepted out (Some (asks.Call j)) alone a h = opened (is_full out) (interface_of accepted j.context) j out refl (barred_call out alone j h) a
after_ask accepted out (Some (asks.Cancel id)) alone a h = a
after_ask accepted out (Some (asks.Orphan id)) alone a h = open_fewer id out a
after_ask accepted out (Some (asks.Broken c f)) alone a h = a

none_open : AreOpen []
none_open = (tt, omega arith)

pub stay_apart : (ids : List SyntaxId) (course : List Moment) (out : List OpenCall) → IsCourse ids course out → AreOpen out
stay_apart ids [] out h = subst (λ (x : List OpenCall). AreOpen x) (sym h) none_open
stay_apart ids (Moment.Heard p ask ∷ course) out h =
    subst (λ (x : List OpenCall). AreOpen x) (sym h.4) (after_ask (contexts ids (offered (heard_in course))) h.0 ask h.3.alone (stay_apart ids course h.0 h.1) h.3.among)
stay_apart ids (Moment.Answered id ∷ course) out h = subst (λ (x : List OpenCall). AreOpen x) (sym h.3) (open_fewer id h.0 (stay_apart ids course h.0 h.1))
