-- Lists, place by place.
use Rattle.std.proofs.Common.{◌≡◌, ◌≢◌, ℕ, zero, suc, ◌+◌, ◌<◌, List, [], ◌∷◌, ◌++◌, length, Some, refl, sym, ap, arith}
use Rattle.std.specs.Prelude.{slice_get, slice_set}

pub some_is : {A : Type 0} (x y : A) → Some x ≡ Some y → x ≡ y
some_is x y e = cc

pub set_same : {A : Type 0} (xs : List A) (i : ℕ) (x : A) → i < length xs → slice_get (slice_set xs i x) i ≡ Some x
set_same [] i x lt = absurd (omega (arith, lt))
set_same (y ∷ ys) zero x lt = refl
set_same (y ∷ ys) (suc i) x lt = set_same ys i x (omega (arith, lt))

pub set_other : {A : Type 0} (xs : List A) (i j : ℕ) (x : A) → j ≢ i → slice_get (slice_set xs i x) j ≡ slice_get xs j
set_other [] i j x ne = refl
set_other (y ∷ ys) zero zero x ne = absurd (ne refl)
set_other (y ∷ ys) zero (suc j) x ne = refl
set_other (y ∷ ys) (suc i) zero x ne = refl
set_other (y ∷ ys) (suc i) (suc j) x ne = set_other ys i j x (λ e. ne (ap suc e))

-- what stands there already is set
pub set_there : {A : Type 0} (xs : List A) (i : ℕ) (x : A) → slice_get xs i ≡ Some x → slice_set xs i x ≡ xs
set_there [] i x at = refl
set_there (y ∷ ys) zero x at = ap (λ z. z ∷ ys) (sym (some_is y x at))
set_there (y ∷ ys) (suc i) x at = ap (λ zs. y ∷ zs) (set_there ys i x at)

pub within : {A : Type 0} (xs : List A) (i : ℕ) (x : A) → slice_get xs i ≡ Some x → i < length xs
within [] i x at = absurd (cc (at))
within (y ∷ ys) zero x at = omega arith
within (y ∷ ys) (suc i) x at = omega (arith, within ys i x at)

-- within a list there is something
pub there : {A : Type 0} (xs : List A) (i : ℕ) → i < length xs → (x : A) × (slice_get xs i ≡ Some x)
there [] i lt = absurd (omega (arith, lt))
there (y ∷ ys) zero lt = (y, refl)
there (y ∷ ys) (suc i) lt = there ys i (omega (arith, lt))

-- of a list with one more: what was there, or the new one
pub data OfMore {A : Type 0} (xs : List A) (x : A) (i : ℕ) (y : A) : Type 0 where
  before : slice_get xs i ≡ Some y → OfMore xs x i y
  last : i ≡ length xs → y ≡ x → OfMore xs x i y

pub of_more : {A : Type 0} (xs : List A) (x : A) (i : ℕ) (y : A) → slice_get (xs ++ x ∷ []) i ≡ Some y → OfMore xs x i y
of_more [] x zero y at = last refl (sym (some_is x y at))
of_more [] x (suc i) y at = absurd (cc (at))
of_more (z ∷ zs) x zero y at = before at
of_more (z ∷ zs) x (suc i) y at = next (of_more zs x i y at)
  where
    next : OfMore zs x i y → OfMore (z ∷ zs) x (suc i) y
    next (before found) = before found
    next (last is same) = last (ap suc is) same

pub more_before : {A : Type 0} (xs : List A) (x : A) (i : ℕ) (y : A) → slice_get xs i ≡ Some y → slice_get (xs ++ x ∷ []) i ≡ Some y
more_before [] x i y at = absurd (cc (at))
more_before (z ∷ zs) x zero y at = at
more_before (z ∷ zs) x (suc i) y at = more_before zs x i y at

pub more_last : {A : Type 0} (xs : List A) (x : A) → slice_get (xs ++ x ∷ []) (length xs) ≡ Some x
more_last [] x = refl
more_last (z ∷ zs) x = more_last zs x

pub length_more : {A : Type 0} (xs : List A) (x : A) → length (xs ++ x ∷ []) ≡ length xs + 1
length_more [] x = refl
length_more (z ∷ zs) x = omega (arith, length_more zs x)

-- a place that is set twice
pub set_twice : {A : Type 0} (xs : List A) (i : ℕ) (x y : A) → slice_set (slice_set xs i x) i y ≡ slice_set xs i y
set_twice [] i x y = refl
set_twice (z ∷ zs) zero x y = refl
set_twice (z ∷ zs) (suc i) x y = ap (λ ws. z ∷ ws) (set_twice zs i x y)
