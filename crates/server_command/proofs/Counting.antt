-- How many numbers stand in a rising list.
use Rattle.std.proofs.Common.{◌≡◌, ◌==◌, ◌<◌, ◌≤◌, ◌+◌, ◌∙◌, ℕ, zero, suc, Bool, true, false, ◌||◌, List, [], ◌∷◌, refl, sym, ap, subst, arith, inl, inr, length, true≢false}
use Rattle.std.specs.List.{list_any, AllByRecursion}
use Rattle.std.proofs.lemmas.Bool.{eqb-true}
use Rattle.std.proofs.lemmas.Bool.Decides.{nat_tests}
use mathlib.Core.Logic.{dite}
use native.Mathlib.Decide.{dec_lt}
use Rattle.handle_model.proofs.Held.{or_cases}
use Rattle.server_command.specs.Logs.{AreRising}

abbrev pub Among : ℕ → List ℕ → Type 0
Among g xs = list_any (λ h. h == g) xs ≡ true

above : (x g : ℕ) (xs : List ℕ) → AllByRecursion (λ h. x < h) xs → Among g xs → x < g
above x g [] all has = absurd (true≢false (sym has))
above x g (y ∷ ys) all has = elim (or_cases (y == g) (list_any (λ h. h == g) ys) has) [
  | inl e ↦ let same = eqb-true y g e in let low = all.0 in omega (arith, same, low)
  | inr r ↦ above x g ys all.1 r
]

-- behind the first, where that is another
behind : (x g : ℕ) (xs : List ℕ) → Among g (x ∷ xs) → x < g → Among g xs
behind x g xs has low = elim (or_cases (x == g) (list_any (λ h. h == g) xs) has) [
  | inl e ↦ let same = eqb-true x g e in absurd (omega (arith, same, low))
  | inr r ↦ r
]

-- a rising list that has so many numbers, one by one, is as long
pub as_many : (xs : List ℕ) (n low : ℕ) → AreRising xs → ((g : ℕ) → low < g → g ≤ low + n → Among g xs) → n ≤ length xs
as_many xs zero low rising has = omega arith
as_many [] (suc n) low rising has = absurd (true≢false (sym (has (suc low) (omega arith) (omega arith))))
as_many (x ∷ xs) (suc n) low rising has =
    dite (dec_lt low x) (λ high. elim (or_cases (x == suc low) (list_any (λ h. h == suc low) xs) (has (suc low) (omega arith) (omega arith))) [
      | inl e ↦ let same : x ≡ suc low = eqb-true x (suc low) e in
          let r = as_many xs n (suc low) rising.1 (λ g up most. behind x g xs (has g (omega (arith, up)) (omega (arith, most))) (omega (arith, same, up))) in omega (arith, r)
      | inr there ↦ let over = above x (suc low) xs rising.0 there in absurd (omega (arith, over, high))
    ]) (λ under. let r = as_many xs (suc n) low rising.1 (λ g up most. behind x g xs (has g up most) (omega (arith, under, up))) in omega (arith, r))
