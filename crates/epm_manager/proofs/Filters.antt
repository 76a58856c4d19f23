-- What a pass over entries has come to.
use Rattle.std.proofs.Common.{◌≡◌, ℕ, zero, suc, ◌+◌, ◌<◌, ◌≤◌, Bool, true, false, List, [], ◌∷◌, ◌++◌, length, take, filter, get_or, length-append, refl, sym, ap, subst, ◌∙◌, arith, if◌then◌else◌}
use Rattle.std.specs.Prelude.{nat_lt}
use Rattle.std.proofs.lemmas.List.{take_more, length-take, append-nil}
use Rattle.std.proofs.lemmas.List.Elements.{filter-append}
use Rattle.std.proofs.lemmas.Bool.Decides.{nat_tests}
use Rattle.epm_manager.specs.declared.entry.Numbered.{Numbered}
use Rattle.epm_manager.specs.Found.{last_number}

one_of : (p : Numbered → Bool) (x : Numbered) (b : Bool) → p x ≡ b → filter p (x ∷ []) ≡ (if b then x ∷ [] else [])
one_of p x b e = ap (λ (c : Bool). if c then x ∷ [] else []) e

-- one more item is looked at
pub filter_kept : (p : Numbered → Bool) (xs : List Numbered) (i : ℕ) (x : Numbered) → i < length xs → x ≡ get_or xs i x → p x ≡ true → filter p (take (i + 1) xs) ≡ filter p (take i xs) ++ x ∷ []
filter_kept p xs i x lt at e =
    ap (filter p) (take_more xs i x lt ∙ ap (λ (y : Numbered). take i xs ++ y ∷ []) (sym at)) ∙ filter-append p (take i xs) (x ∷ []) ∙ ap (λ (ys : List Numbered). filter p (take i xs) ++ ys) (one_of p x true e)

pub filter_left : (p : Numbered → Bool) (xs : List Numbered) (i : ℕ) (x : Numbered) → i < length xs → x ≡ get_or xs i x → p x ≡ false → filter p (take (i + 1) xs) ≡ filter p (take i xs)
filter_left p xs i x lt at e =
    ap (filter p) (take_more xs i x lt ∙ ap (λ (y : Numbered). take i xs ++ y ∷ []) (sym at)) ∙ filter-append p (take i xs) (x ∷ []) ∙ ap (λ (ys : List Numbered). filter p (take i xs) ++ ys) (one_of p x false e)
    ∙ append-nil (filter p (take i xs))

-- ---- at most so many of those that are found

pub record Picked (all given : List Numbered) (most : ℕ) (more : Bool) : Type 0 where
  pub given_is : given ≡ take most all
  pub more_is : more ≡ nat_lt most (length all)

take_none : (m : ℕ) → take {A = Numbered} m [] ≡ []
take_none zero = refl
take_none (suc m) = refl

take_push : (m : ℕ) (xs : List Numbered) (x : Numbered) → length xs < m → take m (xs ++ x ∷ []) ≡ take m xs ++ x ∷ []
take_push zero xs x lt = absurd (omega arith)
take_push (suc m) [] x lt = ap (λ (ys : List Numbered). x ∷ ys) (take_none m)
take_push (suc m) (y ∷ xs) x lt = ap (λ (ys : List Numbered). y ∷ ys) (take_push m xs x (omega arith))

take_full : (m : ℕ) (xs : List Numbered) (x : Numbered) → m ≤ length xs → take m (xs ++ x ∷ []) ≡ take m xs
take_full zero xs x le = refl
take_full (suc m) [] x le = absurd (omega arith)
take_full (suc m) (y ∷ xs) x le = ap (λ (ys : List Numbered). y ∷ ys) (take_full m xs x (omega arith))

lt_false : (m n : ℕ) → n ≤ m → nat_lt m n ≡ false
lt_false m n le = grind (arith, nat_tests)

lt_true : (m n : ℕ) → m < n → nat_lt m n ≡ true
lt_true m n lt = grind (arith, nat_tests)

pub picked_push : (all given : List Numbered) (most : ℕ) (more : Bool) (x : Numbered) → Picked all given most more → length given < most → Picked (all ++ x ∷ []) (given ++ x ∷ []) most more
picked_push all given most more x p lt =
    let size = ap length p.given_is in
    let few : length all < most = omega (arith, size, length-take most all) in
    record {
      given_is = ap (λ (ys : List Numbered). ys ++ x ∷ []) p.given_is ∙ sym (take_push most all x few);
      more_is = p.more_is ∙ lt_false most (length all) (omega arith) ∙ sym (lt_false most (length (all ++ x ∷ [])) (omega (arith, length-append all (x ∷ []))));
    }

pub picked_more : (all given : List Numbered) (most : ℕ) (more : Bool) (x : Numbered) → Picked all given most more → most ≤ length given → Picked (all ++ x ∷ []) given most true
picked_more all given most more x p le =
    let size = ap length p.given_is in
    let full : most ≤ length all = omega (arith, size, length-take most all) in
    record {
      given_is = p.given_is ∙ sym (take_full most all x full);
      more_is = sym (lt_true most (length (all ++ x ∷ [])) (omega (arith, length-append all (x ∷ []))));
    }

-- ---- the number of the last one

last_push : (n : ℕ) (xs : List Numbered) (x : Numbered) → last_number n (xs ++ x ∷ []) ≡ x.number
last_push n [] x = refl
last_push n (y ∷ xs) x = last_push y.number xs x

pub last_more : (n : ℕ) (xs : List Numbered) (i : ℕ) (x : Numbered) → i < length xs → x ≡ get_or xs i x → x.number ≡ last_number n (take (i + 1) xs)
last_more n xs i x lt at = sym (ap (last_number n) (take_more xs i x lt ∙ ap (λ (y : Numbered). take i xs ++ y ∷ []) (sym at)) ∙ last_push n (take i xs) x)
