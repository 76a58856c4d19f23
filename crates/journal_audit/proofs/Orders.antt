-- Sets of numbers.
use Rattle.std.proofs.Common.{◌≡◌, ℕ, ◌+◌, ◌<◌, Bool, true, false, ◌||◌, ◌==◌, cond, List, length, drop, get_or, refl, sym, ◌∙◌, ap, arith, inl, inr}
use Rattle.std.specs.List.{list_any}
use Rattle.std.specs.Ordering.{nat_cmp}
use Rattle.std.specs.BTreeMap.{is_at}
use Rattle.std.proofs.lemmas.Bool.Decides.{nat_tests}
use Rattle.std.proofs.lemmas.Grind.{common_steps}
use Rattle.handle_model.specs.Bases.{is_number}
use Rattle.handle_model.proofs.Rest.{rest_more}

-- the order of numbers finds a number alone
pub at_number : (k n : ℕ) (old : Bool) → cond (is_at (nat_cmp k) n) true old ≡ (is_number n k || old)
at_number k n old = grind (arith, nat_tests, common_steps)

moved : (a b c : Bool) → ((a || b) || c) ≡ (b || (a || c))
moved true true c = refl
moved true false c = refl
moved false b c = refl

-- the next number of a list is added
pub added_more : (new old : ℕ → Bool) (xs : List ℕ) (i x : ℕ) → i < length xs → get_or xs i x ≡ x → ((n : ℕ) → new n ≡ (is_number n x || old n)) → ((n : ℕ) → (old n || list_any (is_number n) (drop i xs)) ≡ list_any (is_number n) xs) → (n : ℕ) → (new n || list_any (is_number n) (drop (i + 1) xs)) ≡ list_any (is_number n) xs
added_more new old xs i x lt e more before n =
    let left : list_any (is_number n) (drop i xs) ≡ (is_number n x || list_any (is_number n) (drop (i + 1) xs)) = ap (list_any (is_number n)) (rest_more xs i x lt) ∙ ap (λ y. is_number n y || list_any (is_number n) (drop (i + 1) xs)) e in
    ap (λ b. b || list_any (is_number n) (drop (i + 1) xs)) (more n) ∙ (moved (is_number n x) (old n) (list_any (is_number n) (drop (i + 1) xs)) ∙ (ap (λ b. old n || b) (sym left) ∙ before n))
