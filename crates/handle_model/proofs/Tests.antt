-- Truth values, and tests over lists.
use Rattle.std.proofs.Common.{◌≡◌, ℕ, Bool, true, false, ◌&&◌, ◌||◌, List, [], ◌∷◌, refl, ◌∙◌, ◌⊎◌, inl, inr, arith, reverse}
use Rattle.std.specs.List.{list_any, list_all, filter}
use Rattle.std.proofs.lemmas.Grind.{common_steps}
use Rattle.handle_model.specs.Bases.{is_number}
use Rattle.handle_model.specs.Rules.{is_empty}
use Rattle.handle_model.proofs.Reversed.{list_any-reverse}

pub and_left : (a b : Bool) → (a && b) ≡ true → a ≡ true
and_left true b h = refl
and_left false b h = h

pub and_right : (a b : Bool) → (a && b) ≡ true → b ≡ true
and_right true b h = h
and_right false b h = absurd (cc)

pub or_right : (a b : Bool) → b ≡ true → (a || b) ≡ true
or_right true b h = refl
or_right false b h = h

pub or_cases : (a b : Bool) → (a || b) ≡ true → (a ≡ true) ⊎ (b ≡ true)
or_cases true b h = inl refl
or_cases false b h = inr h

-- what holds of all holds of the number that is among them
pub all_of : (p : ℕ → Bool) (ns : List ℕ) (n : ℕ) → list_all p ns ≡ true → list_any (is_number n) ns ≡ true → p n ≡ true
all_of p [] n a i = absurd (cc)
all_of p (m ∷ ns) n a i = grind (arith, common_steps, and_left (p m) (list_all p ns) a, all_of p ns n (and_right (p m) (list_all p ns) a))

-- a number that passes is left by a filter
pub filtered_some : (p : ℕ → Bool) (ns : List ℕ) (n : ℕ) → p n ≡ true → list_any (is_number n) ns ≡ true → is_empty (filter p ns) ≡ false
filtered_some p [] n h i = absurd (cc)
filtered_some p (m ∷ ns) n h i = grind (arith, common_steps, filtered_some p ns n h)

pub reversed_some : (p : ℕ → Bool) (ns : List ℕ) (n : ℕ) → p n ≡ true → list_any (is_number n) ns ≡ true → is_empty (filter p (reverse ns)) ≡ false
reversed_some p ns n h i = filtered_some p (reverse ns) n h (list_any-reverse (is_number n) ns ∙ i)
