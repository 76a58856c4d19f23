-- What holds of every legal history.
use Rattle.std.proofs.Common.{◌≡◌, ℕ, ◌+◌, ◌≤◌, ◌<◌, ◌^◌, suc, Bool, true, false, nat_le, Option, Some, None, List, [], ◌∷◌, ◌++◌, length, refl, ap, subst, arith}
use Rattle.std.specs.List.{list_any, list_all, filter, find}
use Rattle.std.specs.Option.{option_map}
use Rattle.std.proofs.lemmas.Grind.{common_steps}
use Rattle.handle_model.specs.declared.entry.Home.{Home}
use Rattle.handle_model.specs.declared.entry.Slot.{Slot}
use Rattle.handle_model.specs.declared.entry.Slot.TheVariants.{Opens}
use Rattle.handle_model.specs.declared.entry.Asked.{Asked}
use Rattle.handle_model.specs.declared.entry.Entry.{Entry}
use Rattle.handle_model.specs.declared.entry.Entry.TheVariants.{Join, Accept, Take, Leave}
use Rattle.handle_model.specs.declared.base.BaseCall.{BaseCall}
use Rattle.handle_model.specs.declared.base.Base.{Base}
use Rattle.handle_model.specs.Slots.{opens}
use Rattle.handle_model.specs.Bases.{is_number, has_conn, is_call, is_taken_call, asked_before, taken_before, taken_calls, numbers_of}
use Rattle.handle_model.specs.Sound.{is_fresh, is_within, IsSoundBase}
use Rattle.handle_model.specs.History.{History, since}
use Rattle.handle_model.specs.Journal.{leaves, join_count, has_joined, joined, accept_count, is_open, conns, asked, slots_in, is_decided, is_taken, waits, runs, taken, running, due, is_empty, slots, fault, fault_from, opened, follow, filled, next_serial, Legal}
pub use Rattle.handle_model.proofs.Tests.{and_left, and_right, or_right, or_cases}
use Rattle.handle_model.proofs.Tests.{all_of, reversed_some}

-- A SOUND BASE

-- a call that is found passes what all pass
pub found_passes : (p : BaseCall → Bool) (cs : List BaseCall) (k : ℕ) (c : BaseCall) → list_all p cs ≡ true → find (is_call k) cs ≡ Some c → p c ≡ true
found_passes p [] k c a f = absurd (cc)
found_passes p (d ∷ cs) k c a f = grind (arith, common_steps, and_left (p d) (list_all p cs) a, found_passes p cs k c (and_right (p d) (list_all p cs) a))

-- one that is found, where none of its number was taken
pub found_untaken : (cs : List BaseCall) (k : ℕ) (c : BaseCall) → find (is_call k) cs ≡ Some c → list_any (is_taken_call k) cs ≡ false → c.taken ≡ false
found_untaken [] k c f u = absurd (cc)
found_untaken (d ∷ cs) k c f u = grind (arith, common_steps, found_untaken cs k c)

-- what a base says that call k asked is what one of its calls asked
pub record FoundCall (base : Base) (k : ℕ) (a : Asked) : Type 0 where
  pub call : BaseCall
  pub found : find (is_call k) base.calls ≡ Some call
  pub asks : call.asked ≡ a

found_as : (base : Base) (k : ℕ) (a : Asked) (o : Option BaseCall) → find (is_call k) base.calls ≡ o → option_map (λ (c : BaseCall). c.asked) o ≡ Some a → FoundCall base k a
found_as base k a None f e = absurd (cc)
found_as base k a (Some c) f e = record { call = c; found = f; asks = cc }

pub found_call : (base : Base) (k : ℕ) (a : Asked) → asked_before base k ≡ Some a → FoundCall base k a
found_call base k a e = found_as base k a (find (is_call k) base.calls) refl e

-- the connection of a call that isn't taken is open, and no call has another than one that joined
fresh_conn : (base : Base) (c : BaseCall) → is_fresh base c ≡ true → c.taken ≡ false → has_conn base c.asked.conn ≡ true
fresh_conn base c f u = grind (arith, common_steps)

pub base_open : (home : Home) (base : Base) (k : ℕ) (a : Asked) → IsSoundBase home base → asked_before base k ≡ Some a → taken_before base k ≡ false → has_conn base a.conn ≡ true
base_open home base k a s e u =
    let w = found_call base k a e in
    let f = found_passes (is_fresh base) base.calls k w.call s.fresh w.found in
    let t = found_untaken base.calls k w.call w.found u in
    subst (λ (b : Asked). has_conn base b.conn ≡ true) w.asks (fresh_conn base w.call f t)

pub conn_within : (home : Home) (base : Base) (c : ℕ) → IsSoundBase home base → has_conn base c ≡ true → c ≤ base.joins
conn_within home base c s i = let w = all_of (λ m. nat_le m base.joins) base.conns c s.conns_within i in grind (arith, common_steps)

-- a base's calls have few slots
few_of : (base : Base) (c : BaseCall) → is_within base c ≡ true → length c.asked.slots ≤ 4
few_of base c w = grind (arith, common_steps)

few_before : (home : Home) (base : Base) (k : ℕ) (o : Option BaseCall) → IsSoundBase home base → find (is_call k) base.calls ≡ o → length (slots_in (option_map (λ (c : BaseCall). c.asked) o)) ≤ 4
few_before home base k None s e = omega arith
few_before home base k (Some c) s e = few_of base c (found_passes (is_within base) base.calls k c s.within e)

-- CONNECTIONS

-- who left had joined
pub left_joined : (home : Home) (base : Base) (past : List Entry) (c : ℕ) → Legal (since home base past) → list_any (leaves c) past ≡ true → has_joined (since home base past) c ≡ true
left_joined home base [] c l h = absurd (cc)
left_joined home base (Leave d ∷ past) c l h = grind (arith, common_steps, and_left, left_joined home base past c l.1)
left_joined home base (Join d ∷ past) c l h = or_right _ _ (left_joined home base past c l.1 h)
left_joined home base (_ ∷ past) c l h = left_joined home base past c l.1 h

-- numbers of connections go up to how many joined
pub joined_within : (home : Home) (base : Base) (past : List Entry) (c : ℕ) → Legal (since home base past) → has_joined (since home base past) c ≡ true → c ≤ join_count (since home base past)
joined_within home base [] c l h = conn_within home base c l h
joined_within home base (Join d ∷ past) c l h = grind (arith, common_steps, joined_within home base past c l.1)
joined_within home base (_ ∷ past) c l h = joined_within home base past c l.1 h

-- the connection of a call that isn't decided had joined
pub asked_joined : (home : Home) (base : Base) (past : List Entry) (k : ℕ) (a : Asked) → Legal (since home base past) → asked (since home base past) k ≡ Some a → is_decided (since home base past) k ≡ false → has_joined (since home base past) a.conn ≡ true
asked_joined home base [] k a l h u = base_open home base k a l h u
asked_joined home base (Join d ∷ past) k a l h u = or_right _ _ (asked_joined home base past k a l.1 h u)
asked_joined home base (Accept m b ∷ past) k a l h u = grind (arith, common_steps, and_left, asked_joined home base past k a l.1)
asked_joined home base (_ ∷ past) k a l h u = grind (arith, common_steps, asked_joined home base past k a l.1)

-- a connection that joined is listed
pub filter_joined : (home : Home) (base : Base) (p : ℕ → Bool) (past : List Entry) (c : ℕ) → p c ≡ true → has_joined (since home base past) c ≡ true → is_empty (filter p (joined (since home base past))) ≡ false
filter_joined home base p [] c q h = reversed_some p base.conns c q h
filter_joined home base p (Join d ∷ past) c q h = grind (arith, common_steps, filter_joined home base p past c q)
filter_joined home base p (_ ∷ past) c q h = filter_joined home base p past c q h

-- and so is a call that was taken
numbered_taken : (cs : List BaseCall) (k : ℕ) → list_any (is_taken_call k) cs ≡ true → list_any (is_number k) (numbers_of (filter (λ (c : BaseCall). c.taken) cs)) ≡ true
numbered_taken [] k h = absurd (cc)
numbered_taken (d ∷ cs) k h = grind (arith, common_steps, numbered_taken cs k)

pub filter_taken : (home : Home) (base : Base) (p : ℕ → Bool) (past : List Entry) (k : ℕ) → p k ≡ true → is_taken (since home base past) k ≡ true → is_empty (filter p (taken (since home base past))) ≡ false
filter_taken home base p [] k q h = reversed_some p (numbers_of (taken_calls base)) k q (numbered_taken base.calls k h)
filter_taken home base p (Take m cookies ∷ past) k q h = grind (arith, common_steps, filter_taken home base p past k q)
filter_taken home base p (_ ∷ past) k q h = filter_taken home base p past k q h

-- an open connection is among the open ones, and a running call among the running ones
pub open_among : (j : History) (c : ℕ) → is_open j c ≡ true → is_empty (conns j) ≡ false
open_among j c h = filter_joined j.home j.base (is_open j) j.past c h (and_left _ _ h)

pub runs_among : (j : History) (k : ℕ) → runs j k ≡ true → is_empty (running j) ≡ false
runs_among j k h = filter_taken j.home j.base (runs j) j.past k h (and_left _ _ h)

-- while a connection is open, or a call runs, the end is not due
pub open_not_due : (j : History) (c : ℕ) → is_open j c ≡ true → due j ≡ false
open_not_due j c h = let e = open_among j c h in grind (arith, common_steps)

pub runs_not_due : (j : History) (k : ℕ) → runs j k ≡ true → due j ≡ false
runs_not_due j k h = let e = runs_among j k h in grind (arith, common_steps)

-- the connection of a waiting call is open
pub waits_open : (j : History) (k : ℕ) (a : Asked) → Legal j → asked j k ≡ Some a → waits j k ≡ true → is_open j a.conn ≡ true
waits_open j k a l e h =
    let u : is_decided j k ≡ false = grind (arith, common_steps) in
    let i = asked_joined j.home j.base j.past k a l e u in grind (arith, common_steps)

-- NUMBERS

-- the serials have 32 bits
pub opened_small : (home : Home) (base : Base) (past : List Entry) → Legal (since home base past) → opened (since home base past) < 2 ^ 32
opened_small home base [] l = l.opens_small
opened_small home base (Accept k a ∷ past) l = omega (arith, l.0.fits.4)
opened_small home base (_ ∷ past) l = omega (arith, opened_small home base past l.1)

-- and so have the numbers of connections and calls
pub joined_small : (home : Home) (base : Base) (past : List Entry) → Legal (since home base past) → join_count (since home base past) < 2 ^ 32
joined_small home base [] l = l.joins_small
joined_small home base (Join c ∷ past) l = let e = l.0.fits.0 in let f = l.0.fits.1 in grind (arith, common_steps)
joined_small home base (_ ∷ past) l = joined_small home base past l.1

pub accepted_small : (home : Home) (base : Base) (past : List Entry) → Legal (since home base past) → accept_count (since home base past) < 2 ^ 32
accepted_small home base [] l = l.accepts_small
accepted_small home base (Accept k a ∷ past) l = let e = l.0.fits.0 in let f = l.0.fits.5 in grind (arith, common_steps)
accepted_small home base (_ ∷ past) l = accepted_small home base past l.1

-- serials that are filled in go on
pub follow-filled : (n : ℕ) (ss : List Slot) → follow n (filled n ss) ≡ true
follow-filled n [] = refl
follow-filled n (Opens t serial ∷ later) = rw (follow-filled (n + 1) later) (grind (arith, common_steps))
follow-filled n (_ ∷ later) = follow-filled n later

pub count-filled : (n : ℕ) (ss : List Slot) → length (filter opens (filled n ss)) ≡ length (filter opens ss)
count-filled n [] = refl
count-filled n (Opens t serial ∷ later) = ap (λ m. suc m) (count-filled (n + 1) later)
count-filled n (_ ∷ later) = count-filled n later

pub length-filled : (n : ℕ) (ss : List Slot) → length (filled n ss) ≡ length ss
length-filled n [] = refl
length-filled n (s ∷ later) = ap (λ n. suc n) (length-filled (next_serial n s) later)

-- a call has at most four slots
pub slots_few : (home : Home) (base : Base) (past : List Entry) (k : ℕ) → Legal (since home base past) → length (slots (since home base past) k) ≤ 4
slots_few home base [] k l = few_before home base k (find (is_call k) base.calls) l refl
slots_few home base (Accept m a ∷ past) k l = let few = l.0.fits.2 in grind (arith, common_steps, slots_few home base past k l.1)
slots_few home base (_ ∷ past) k l = slots_few home base past k l.1

pub fault_within : (j : History) (all earlier later : List Slot) (n : ℕ) → fault_from j all earlier later ≡ Some n → n < length earlier + length later
fault_within j all earlier [] n h = cc
fault_within j all earlier (s ∷ later) n h =
    let more = fault_within j all (earlier ++ s ∷ []) later n in grind (arith, common_steps, more)

pub fault_small : (j : History) (k n : ℕ) → Legal j → fault j k ≡ Some n → n < 4
fault_small j k n l h =
    let few = slots_few j.home j.base j.past k l in
    let within = fault_within j (slots j k) [] (slots j k) n h in
    grind (arith, common_steps)
