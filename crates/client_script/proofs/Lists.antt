-- Two lists, place by place.
use Rattle.std.proofs.Common.{◌≡◌, ℕ, zero, suc, ◌<◌, Some, List, [], ◌∷◌, ◌++◌, length, refl, sym, ap, ◌∙◌, subst, arith}
use Rattle.std.specs.Prelude.{slice_get, slice_index_or, slice_set}
use Rattle.std.specs.List.{AllZip}
use Rattle.std.proofs.lemmas.List.{length-append}
use Rattle.std.proofs.lemmas.Option.{slice_get-get_or, slice_get_read}
use Rattle.std.proofs.Math.Seq.{get_or-append_seam}

module _ {A : Type 0} where
  pub one_there : (xs : List A) (n : ℕ) (x y : A) → slice_get xs n ≡ Some x → slice_get xs n ≡ Some y → x ≡ y
  one_there xs n x y h k = let same : Some x ≡ Some y = sym h ∙ k in cc

  pub set_there : (xs : List A) (n : ℕ) (x z : A) → slice_get xs n ≡ Some z → slice_get (slice_set xs n x) n ≡ Some x
  set_there [] n x z h = absurd (cc)
  set_there (y ∷ xs) zero x z h = refl
  set_there (y ∷ xs) (suc n) x z h = set_there xs n x z h

  pub set_itself : (xs : List A) (n : ℕ) (x : A) → slice_get xs n ≡ Some x → slice_set xs n x ≡ xs
  set_itself [] n x h = refl
  set_itself (y ∷ xs) zero x h = let same : Some y ≡ Some x = h in let is : x ≡ y = cc in ap (λ z. z ∷ xs) is
  set_itself (y ∷ xs) (suc n) x h = ap (λ zs. y ∷ zs) (set_itself xs n x h)

  pub set_long : (xs : List A) (n : ℕ) (x : A) → length (slice_set xs n x) ≡ length xs
  set_long [] n x = refl
  set_long (y ∷ xs) zero x = refl
  set_long (y ∷ xs) (suc n) x = let r = set_long xs n x in omega arith

  pub last_there : (xs : List A) (x : A) → slice_get (xs ++ x ∷ []) (length xs) ≡ Some x
  last_there xs x =
      let longer = length-append xs (x ∷ []) in
      slice_get-get_or (xs ++ x ∷ []) (length xs) x (omega (arith, longer)) ∙ ap (λ y. Some y) (get_or-append_seam xs x [] x)

  pub is_within : (xs : List A) (n : ℕ) (x : A) → slice_get xs n ≡ Some x → n < length xs
  is_within [] n x h = absurd (cc)
  is_within (y ∷ xs) zero x h = omega arith
  is_within (y ∷ xs) (suc n) x h = let r = is_within xs n x h in omega arith

module _ {A : Type 0} where
  -- an item that was read at its place
  pub read_there : (xs : List A) (n : ℕ) (x : A) → n < length xs → x ≡ slice_index_or xs n x → slice_get xs n ≡ Some x
  read_there xs n x low e = slice_get_read xs (length xs) n x refl low e

  pub read_at : (xs : List A) (n : ℕ) (x y : A) → slice_get xs n ≡ Some y → x ≡ slice_index_or xs n x → slice_get xs n ≡ Some x
  read_at xs n x y h e = read_there xs n x (is_within xs n y h) e

module _ {A B : Type 0} (R : A → B → Type 0) where
  pub zip_at : (xs : List A) (ys : List B) (n : ℕ) (x : A) → AllZip R xs ys → slice_get xs n ≡ Some x → (y : B) × (slice_get ys n ≡ Some y) × R x y
  zip_at [] ys n x h e = absurd (cc)
  zip_at (z ∷ xs) [] n x h e = absurd h
  zip_at (z ∷ xs) (y ∷ ys) zero x h e = let same : Some z ≡ Some x = e in let is : z ≡ x = cc in (y, refl, subst (λ (a : A). R a y) is h.0)
  zip_at (z ∷ xs) (y ∷ ys) (suc n) x h e = zip_at xs ys n x h.1 e

  pub zip_from : (xs : List A) (ys : List B) (n : ℕ) (y : B) → AllZip R xs ys → slice_get ys n ≡ Some y → (x : A) × (slice_get xs n ≡ Some x) × R x y
  zip_from xs [] n y h e = absurd (cc)
  zip_from [] (z ∷ ys) n y h e = absurd h
  zip_from (x ∷ xs) (z ∷ ys) zero y h e = let same : Some z ≡ Some y = e in let is : z ≡ y = cc in (x, refl, subst (λ (b : B). R x b) is h.0)
  zip_from (x ∷ xs) (z ∷ ys) (suc n) y h e = zip_from xs ys n y h.1 e

  pub zip_set : (xs : List A) (ys : List B) (n : ℕ) (x : A) (y : B) → AllZip R xs ys → R x y → AllZip R (slice_set xs n x) (slice_set ys n y)
  zip_set [] [] n x y h r = tt
  zip_set [] (b ∷ ys) n x y h r = absurd h
  zip_set (a ∷ xs) [] n x y h r = absurd h
  zip_set (a ∷ xs) (b ∷ ys) zero x y h r = (r, h.1)
  zip_set (a ∷ xs) (b ∷ ys) (suc n) x y h r = (h.0, zip_set xs ys n x y h.1 r)

  pub zip_push : (xs : List A) (ys : List B) (x : A) (y : B) → AllZip R xs ys → R x y → AllZip R (xs ++ x ∷ []) (ys ++ y ∷ [])
  zip_push [] [] x y h r = (r, tt)
  zip_push [] (b ∷ ys) x y h r = absurd h
  zip_push (a ∷ xs) [] x y h r = absurd h
  zip_push (a ∷ xs) (b ∷ ys) x y h r = (h.0, zip_push xs ys x y h.1 r)

  pub zip_long : (xs : List A) (ys : List B) → AllZip R xs ys → length xs ≡ length ys
  zip_long [] [] h = refl
  zip_long [] (b ∷ ys) h = absurd h
  zip_long (a ∷ xs) [] h = absurd h
  zip_long (a ∷ xs) (b ∷ ys) h = let r = zip_long xs ys h.1 in omega arith
