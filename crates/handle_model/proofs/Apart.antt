-- Two running calls don't conflict.
use Rattle.std.proofs.Common.{◌≡◌, ◌≢◌, ℕ, ◌+◌, ◌≤◌, ◌<◌, Bool, true, false, ◌&&◌, ◌||◌, not, Option, Some, None, List, [], ◌∷◌, refl, sym, ◌∙◌, subst, arith, ◌⊎◌, inl, inr, reverse}
use Rattle.std.specs.List.{list_any, filter}
use Rattle.std.specs.Option.{option_or}
use Rattle.std.proofs.lemmas.Grind.{common_steps}
use Rattle.rpc_base.specs.declared.identifiers.WireHandle.{WireHandle}
use Rattle.handle_model.specs.declared.entry.Home.{Home}
use Rattle.handle_model.specs.declared.entry.Slot.{Slot}
use Rattle.handle_model.specs.declared.entry.Asked.{Asked}
use Rattle.handle_model.specs.declared.entry.Outcome.{Outcome}
use Rattle.handle_model.specs.declared.entry.Said.{Said}
use Rattle.std.proofs.lemmas.Bool.Decides.{eqb_tells}
use Rattle.handle_model.specs.declared.entry.Entry.{Entry}
use Rattle.handle_model.specs.declared.entry.Entry.TheVariants.{Accept, Take, End}
use Rattle.handle_model.specs.declared.base.BaseCall.{BaseCall}
use Rattle.handle_model.specs.declared.base.Base.{Base}
use Rattle.handle_model.specs.Bases.{is_number, is_taken_call, taken_calls, numbers_of}
use Rattle.handle_model.specs.History.{History, since, with_entry}
use Rattle.handle_model.specs.Slots.{clash, same_handle, same_wire, is_null, named, is_exclusive}
use Rattle.handle_model.specs.Journal.{taken, is_taken, runs, running, slots, asked, conflict, any_clash, least, lesser, ends, waiting_blocker, running_blocker, blocker, accept_count, waits, Legal}
use Rattle.handle_model.proofs.Reversed.{list_any-reverse}
use Rattle.handle_model.proofs.Held.{and_left, and_right}
use Rattle.handle_model.proofs.BaseFacts.{asked_before_within, taken_before_within, apart_before}

-- a list with no least number has no number
least_some : (n : ℕ) (o : Option ℕ) → lesser n o ≢ None
least_some n None h = cc
least_some n (Some m) h = cc

pub least_none : (ns : List ℕ) → least ns ≡ None → ns ≡ []
least_none [] h = refl
least_none (n ∷ ns) h = absurd (least_some n (least ns) h)

-- what passes both tests is left by both
both_left : (p q : ℕ → Bool) (ns : List ℕ) (m : ℕ) → filter q (filter p ns) ≡ [] → p m ≡ true → list_any (is_number m) ns ≡ true → q m ≡ false
both_left p q [] m h e t = absurd (cc)
both_left p q (n ∷ ns) m h e t = grind (arith, common_steps, both_left p q ns m)

numbered_taken : (cs : List BaseCall) (k : ℕ) → list_any (is_taken_call k) cs ≡ true → list_any (is_number k) (numbers_of (filter (λ (c : BaseCall). c.taken) cs)) ≡ true
numbered_taken [] k h = absurd (cc)
numbered_taken (d ∷ cs) k h = grind (arith, common_steps, numbered_taken cs k)

-- no running call conflicts with a call that has no blocker
pub running_free : (home : Home) (base : Base) (p q : ℕ → Bool) (past : List Entry) (m : ℕ) → filter q (filter p (taken (since home base past))) ≡ [] → p m ≡ true → is_taken (since home base past) m ≡ true → q m ≡ false
running_free home base p q [] m h e t =
    let ns : List ℕ = numbers_of (taken_calls base) in
    both_left p q (reverse ns) m h e (list_any-reverse (is_number m) ns ∙ numbered_taken base.calls m t)
running_free home base p q (Take k cookies ∷ past) m h e t = grind (arith, common_steps, running_free home base p q past m)
running_free home base p q (_ ∷ past) m h e t = running_free home base p q past m h e t

-- CLASHES GO BOTH WAYS

pub same_wire_is : (a b : WireHandle) → same_wire a b ≡ true → (a.attributes ≡ b.attributes) × (a.id ≡ b.id)
same_wire_is a b h = grind (arith, common_steps, and_left, and_right)

pub same_wire_from : (a b : WireHandle) → a.attributes ≡ b.attributes → a.id ≡ b.id → same_wire a b ≡ true
same_wire_from a b x y = grind (arith, common_steps)

both_true : (a b : Bool) → (a ≡ true → b ≡ true) → (b ≡ true → a ≡ true) → a ≡ b
both_true true b f g = sym (f refl)
both_true false false f g = refl
both_true false true f g = g refl

same_handle_turned : (v w : Option WireHandle) → same_handle v w ≡ true → same_handle w v ≡ true
same_handle_turned None w h = cc
same_handle_turned (Some a) None h = cc
same_handle_turned (Some a) (Some b) h =
    let e = same_wire_is a b (and_right (not (is_null a)) (same_wire a b) h) in
    let s = same_wire_from b a (sym e.0) (sym e.1) in
    let n = and_left (not (is_null a)) (same_wire a b) h in grind (arith, common_steps)

or_comm : (a b : Bool) → (a || b) ≡ (b || a)
or_comm true true = refl
or_comm true false = refl
or_comm false true = refl
or_comm false false = refl

clash_turned : (x y : Slot) → clash x y ≡ true → clash y x ≡ true
clash_turned x y h =
    let c = same_handle (named x) (named y) in
    let d = is_exclusive x || is_exclusive y in
    let s = same_handle_turned (named x) (named y) (and_left c d h) in
    let e = or_comm (is_exclusive x) (is_exclusive y) in
    let f = and_right c d h in rw s (sym e ∙ f)

any_false : {X : Type 0} (xs : List X) → list_any (λ (x : X). false) xs ≡ false
any_false [] = refl
any_false (x ∷ xs) = any_false xs

any_or : {X : Type 0} (p q : X → Bool) (xs : List X) → list_any (λ x. p x || q x) xs ≡ (list_any p xs || list_any q xs)
any_or p q [] = refl
any_or p q (x ∷ xs) = rw (any_or p q xs) (grind (arith, common_steps))

any_swapped : {X Y : Type 0} (f : X → Y → Bool) (xs : List X) (ys : List Y) → list_any (λ x. list_any (f x) ys) xs ≡ list_any (λ y. list_any (λ x. f x y) xs) ys
any_swapped f [] ys = sym (any_false ys)
any_swapped f (x ∷ xs) ys = rw (any_swapped f xs ys) (sym (any_or (f x) (λ y. list_any (λ x. f x y) xs) ys))

any_alike : {X : Type 0} (p q : X → Bool) → ((x : X) → p x ≡ q x) → (xs : List X) → list_any p xs ≡ list_any q xs
any_alike p q e [] = refl
any_alike p q e (x ∷ xs) = rw (e x, any_alike p q e xs) refl

pub clash_comm : (x y : Slot) → clash x y ≡ clash y x
clash_comm x y = both_true _ _ (clash_turned x y) (clash_turned y x)

pub any_clash_comm : (xs ys : List Slot) → any_clash xs ys ≡ any_clash ys xs
any_clash_comm xs ys =
    any_swapped clash xs ys ∙ any_alike (λ y. list_any (λ x. clash x y) xs) (λ y. list_any (clash y) xs) (λ y. any_alike (λ x. clash x y) (clash y) (λ x. clash_comm x y) xs) ys

-- where one of the two directions is false, both are
one_way : (a b : Bool) → a ≡ b → (a && b) ≡ false → a ≡ false
one_way true b e f = e ∙ f
one_way false b e f = refl

-- CALLS

-- a call that was accepted has a number up to how many were
pub asked_within : (home : Home) (base : Base) (past : List Entry) (k : ℕ) (a : Asked) → Legal (since home base past) → asked (since home base past) k ≡ Some a → k ≤ accept_count (since home base past)
asked_within home base [] k a l h = asked_before_within home base k a l h
asked_within home base (Accept m b ∷ past) k a l h = let e = l.0.fits.0 in grind (arith, common_steps, asked_within home base past k a l.1)
asked_within home base (_ ∷ past) k a l h = asked_within home base past k a l.1 h

waits_asked : (j : History) (k : ℕ) (o : Option Asked) → Legal j → asked j k ≡ o → waits j k ≡ true → k ≤ accept_count j
waits_asked j k None l e h = grind (arith, common_steps)
waits_asked j k (Some a) l e h = asked_within j.home j.base j.past k a l e

-- a call that was taken has such a number too
pub taken_within : (home : Home) (base : Base) (past : List Entry) (k : ℕ) → Legal (since home base past) → is_taken (since home base past) k ≡ true → k ≤ accept_count (since home base past)
taken_within home base [] k l h = taken_before_within home base k l h
taken_within home base (Take m cookies ∷ past) k l h =
    let w = waits_asked (since home base past) m (asked (since home base past) m) l.1 refl l.0.fits.0 in grind (arith, common_steps, taken_within home base past k l.1)
taken_within home base (Accept m a ∷ past) k l h = let w = taken_within home base past k l.1 h in omega arith
taken_within home base (_ ∷ past) k l h = taken_within home base past k l.1 h

option_or_none : (o p : Option ℕ) → option_or o p ≡ None → o ≡ None
option_or_none None p h = refl
option_or_none (Some n) p h = h

pub runs_taken_before : (j : History) (k : ℕ) → runs j k ≡ true → is_taken j k ≡ true
runs_taken_before j k r = and_left (is_taken j k) (not (list_any (ends k) j.past)) r

-- a call that may be taken is in conflict with no running call
pub free_of : (j : History) (k m : ℕ) → blocker j k ≡ None → runs j m ≡ true → conflict j k m ≡ false
free_of j k m b r =
    let none = least_none (filter (conflict j k) (running j)) (option_or_none (running_blocker j k) (waiting_blocker j k) b) in
    running_free j.home j.base (runs j) (conflict j k) j.past m none r (runs_taken_before j m r)

-- runs before an End of another call, and before a Take of another call
pub runs_ended : (j : History) (m k : ℕ) (results : List Outcome) (said : Said) → runs (with_entry j (End m results said)) k ≡ true → runs j k ≡ true
runs_ended j m k results said h = grind (arith, common_steps)

pub runs_taken : (j : History) (m k : ℕ) (cookies : List (Option ℕ)) → runs (with_entry j (Take m cookies)) k ≡ true → (m ≡ k) ⊎ (runs j k ≡ true)
runs_taken j m k cookies h = elim (eqb_tells m k) [ inl e ↦ inl e.1 | inr e ↦ inr (rw e.0 at h) ]

taken_cases : (j : History) (i k m : ℕ) → blocker j i ≡ None → k ≢ m → (runs j k ≡ true → runs j m ≡ true → conflict j k m ≡ false) → (i ≡ k) ⊎ (runs j k ≡ true) → (i ≡ m) ⊎ (runs j m ≡ true) → conflict j k m ≡ false
taken_cases j i k m b d f (inl e) (inl g) = absurd (d (sym e ∙ g))
taken_cases j i k m b d f (inl e) (inr s) = subst (λ (n : ℕ). conflict j n m ≡ false) e (free_of j i m b s)
taken_cases j i k m b d f (inr r) (inl g) =
    subst (λ (n : ℕ). conflict j k n ≡ false) g (any_clash_comm (slots j k) (slots j i) ∙ free_of j i k b r)
taken_cases j i k m b d f (inr r) (inr s) = f r s

-- what a call of an earlier number asks stays
pub slots_kept : (j : History) (m k : ℕ) (a : Asked) → k < m → slots (with_entry j (Accept m a)) k ≡ slots j k
slots_kept j m k a h = grind (arith, common_steps)

-- a running call has a lesser number than one that is accepted next
pub runs_below : (j : History) (m k : ℕ) → Legal j → m ≡ accept_count j + 1 → runs j k ≡ true → k < m
runs_below j m k l e r = let low = taken_within j.home j.base j.past k l (runs_taken_before j k r) in omega arith

-- two running calls don't conflict
pub apart : (home : Home) (base : Base) (past : List Entry) (k m : ℕ) → Legal (since home base past) → runs (since home base past) k ≡ true → runs (since home base past) m ≡ true → k ≢ m → conflict (since home base past) k m ≡ false
apart home base [] k m l r s d =
    let j : History = since home base [] in
    one_way (conflict j k m) (conflict j m k) (any_clash_comm (slots j k) (slots j m)) (apart_before home base k m l (runs_taken_before j k r) (runs_taken_before j m s) d)
apart home base (Take i cookies ∷ past) k m l r s d =
    let j : History = since home base past in
    taken_cases j i k m l.0.fits.1 d (λ x y. apart home base past k m l.1 x y d) (runs_taken j i k cookies r) (runs_taken j i m cookies s)
apart home base (Accept i a ∷ past) k m l r s d =
    let j : History = since home base past in
    rw (slots_kept j i k a (runs_below j i k l.1 l.0.fits.0 r), slots_kept j i m a (runs_below j i m l.1 l.0.fits.0 s)) (apart home base past k m l.1 r s d)
apart home base (End i results said ∷ past) k m l r s d =
    let j : History = since home base past in
    apart home base past k m l.1 (runs_ended j i k results said r) (runs_ended j i m results said s) d
apart home base (_ ∷ past) k m l r s d = apart home base past k m l.1 r s d

pub running_apart : (j : History) (k m : ℕ) → Legal j → runs j k ≡ true → runs j m ≡ true → k ≢ m → conflict j k m ≡ false
running_apart j k m l r s d = apart j.home j.base j.past k m l r s d
