-- One item of a list changes.
use Rattle.std.proofs.Common.{◌≡◌, ◌≢◌, ℕ, zero, suc, ◌<◌, List, [], ◌∷◌, ◌++◌, length, slice_index_or, slice_set, refl, sym, ap, ◌∙◌, arith}

module _ {A : Type 0} where
  pub index_same : (xs : List A) (s : ℕ) (d x : A) → s < length xs → x ≡ slice_index_or xs s x → slice_index_or xs s d ≡ x
  index_same [] s d x low e = absurd (omega arith)
  index_same (y ∷ xs) zero d x low e = sym e
  index_same (y ∷ xs) (suc s) d x low e = index_same xs s d x (omega arith) e

  pub index_set_same : (xs : List A) (s : ℕ) (d x : A) → s < length xs → slice_index_or (slice_set xs s x) s d ≡ x
  index_set_same [] s d x low = absurd (omega arith)
  index_set_same (y ∷ xs) zero d x low = refl
  index_set_same (y ∷ xs) (suc s) d x low = index_set_same xs s d x (omega arith)

  pub index_set_other : (xs : List A) (s t : ℕ) (d x : A) → t ≢ s → slice_index_or (slice_set xs s x) t d ≡ slice_index_or xs t d
  index_set_other [] s t d x h = refl
  index_set_other (y ∷ xs) zero zero d x h = absurd (h refl)
  index_set_other (y ∷ xs) zero (suc t) d x h = refl
  index_set_other (y ∷ xs) (suc s) zero d x h = refl
  index_set_other (y ∷ xs) (suc s) (suc t) d x h = index_set_other xs s t d x (λ e. h (ap suc e))

  pub length_set : (xs : List A) (s : ℕ) (x : A) → length (slice_set xs s x) ≡ length xs
  length_set [] s x = refl
  length_set (y ∷ xs) zero x = refl
  length_set (y ∷ xs) (suc s) x = let r = length_set xs s x in omega arith

  -- an item that is set to what it was
  pub set_same : (xs : List A) (s : ℕ) (x : A) → s < length xs → x ≡ slice_index_or xs s x → slice_set xs s x ≡ xs
  set_same [] s x low e = absurd (omega arith)
  set_same (y ∷ xs) zero x low e = ap (λ z. z ∷ xs) e
  set_same (y ∷ xs) (suc s) x low e = ap (λ l. y ∷ l) (set_same xs s x (omega arith) e)

  pub one_item : (xs : List A) (s : ℕ) (x y : A) → s < length xs → x ≡ slice_index_or xs s x → y ≡ slice_index_or xs s y → x ≡ y
  one_item [] s x y low a b = absurd (omega arith)
  one_item (z ∷ xs) zero x y low a b = a ∙ sym b
  one_item (z ∷ xs) (suc s) x y low a b = one_item xs s x y (omega arith) a b

  pub some_item : (xs : List A) (s : ℕ) → s < length xs → (x : A) × (x ≡ slice_index_or xs s x)
  some_item [] s low = absurd (omega arith)
  some_item (x ∷ xs) zero low = (x, refl)
  some_item (x ∷ xs) (suc s) low = some_item xs s (omega arith)

  -- of a list with one item more
  pub index_front : (xs : List A) (x : A) (s : ℕ) (d : A) → s < length xs → slice_index_or (xs ++ x ∷ []) s d ≡ slice_index_or xs s d
  index_front [] x s d low = absurd (omega arith)
  index_front (y ∷ xs) x zero d low = refl
  index_front (y ∷ xs) x (suc s) d low = index_front xs x s d (omega arith)

  pub index_last : (xs : List A) (x d : A) → slice_index_or (xs ++ x ∷ []) (length xs) d ≡ x
  index_last [] x d = refl
  index_last (y ∷ xs) x d = index_last xs x d
