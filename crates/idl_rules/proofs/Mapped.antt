-- What stands again among the forms of some items stands again among the items.
use Rattle.std.proofs.Common.{◌≡◌, ◌||◌, ℕ, Bool, true, false, List, [], ◌∷◌, ◌++◌, map, refl, ap}
use Rattle.std.specs.Prelude.{if◌then◌else◌}
use Rattle.std.specs.List.{list_any, filter}
use Rattle.idl_rules.specs.Places.{repeats}

module _ {X Y : Type 0} (h : X → Y) where
  one_more : (at : Y → ℕ) (b : Bool) (x : X) (ys : List Y) (xs : List X) → map at ys ≡ map (λ a. at (h a)) xs
      → map at (if b then h x ∷ ys else ys) ≡ map (λ a. at (h a)) (if b then x ∷ xs else xs)
  one_more at true x ys xs e = ap (λ zs. at (h x) ∷ zs) e
  one_more at false x ys xs e = e

  filtered : (p : Y → Bool) (at : Y → ℕ) (xs : List X) → map at (filter p (map h xs)) ≡ map (λ a. at (h a)) (filter (λ a. p (h a)) xs)
  filtered p at [] = refl
  filtered p at (x ∷ xs) = one_more at (p (h x)) x (filter p (map h xs)) (filter (λ a. p (h a)) xs) (filtered p at xs)

  pub repeats_mapped : (same : Y → Y → Bool) (at : Y → ℕ) (xs : List X) → repeats same at (map h xs) ≡ repeats (λ a b. same (h a) (h b)) (λ a. at (h a)) xs
  repeats_mapped same at [] = refl
  repeats_mapped same at (x ∷ xs) = λ j. filtered (same (h x)) at xs j ++ repeats_mapped same at xs j

  pub any_mapped : (p : Y → Bool) (xs : List X) → list_any p (map h xs) ≡ list_any (λ a. p (h a)) xs
  any_mapped p [] = refl
  any_mapped p (x ∷ xs) = ap (λ b. p (h x) || b) (any_mapped p xs)
