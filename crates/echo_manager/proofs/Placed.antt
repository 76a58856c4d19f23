-- Where items stand in the order in which they were met.
use Rattle.std.proofs.Common.{◌≡◌, ℕ, zero, suc, ◌+◌, Bool, true, false, List, [], ◌∷◌, ◌++◌, length, Option, Some, None, refl, sym, ap, ◌∙◌, arith, inl, inr}
use Rattle.std.specs.Prelude.{◌==◌, replicate, slice_get, slice_set, is_some, is_none, if◌then◌else◌}
use Rattle.std.proofs.lemmas.Bool.{eqb-true, eq-eqb}
use Rattle.echo_manager.specs.Met.{place_from, place_in, with_met}
use Rattle.echo_manager.specs.Views.{IsPlaced}

not_first : (b : Bool) (k : ℕ) (o : Option ℕ) → (if b then Some k else o) ≡ None → (b ≡ false) × (o ≡ None)
not_first true k o e = absurd (cc)
not_first false k o e = (refl, e)

self_is : (n : ℕ) → (n == n) ≡ true
self_is n = eq-eqb n n refl

-- the new one stands at the end, and others where they stood
pub place_new : (k n : ℕ) (ms : List ℕ) → place_from k n ms ≡ None → place_from k n (ms ++ n ∷ []) ≡ Some (k + length ms)
place_new k n [] none = ap (λ (b : Bool). if b then Some k else None) (self_is n) ∙ (let z : k ≡ k + 0 = omega arith in ap Some z)
place_new k n (m ∷ ms) none =
    let h = not_first (m == n) k (place_from (k + 1) n ms) none in
    let z : k + 1 + length ms ≡ k + suc (length ms) = omega arith in
    ap (λ (b : Bool). if b then Some k else place_from (k + 1) n (ms ++ n ∷ [])) h.0 ∙ place_new (k + 1) n ms h.1 ∙ ap Some z

pub place_other : (k n m : ℕ) (ms : List ℕ) → (m == n) ≡ false → place_from k n (ms ++ m ∷ []) ≡ place_from k n ms
place_other k n m [] e = ap (λ (b : Bool). if b then Some k else None) e
place_other k n m (x ∷ ms) e = ap (λ (o : Option ℕ). if x == n then Some k else o) (place_other (k + 1) n m ms e)

-- none was met yet
pub none_placed : (count : ℕ) → IsPlaced [] (replicate count None)
none_placed zero n place e = absurd (cc)
none_placed (suc c) zero place e = let f : None ≡ place = cc in sym f
none_placed (suc c) (suc n) place e = none_placed c n place e

-- ---- one more

set_here : {A : Type 0} (xs : List A) (n : ℕ) (x y : A) → slice_get (slice_set xs n x) n ≡ Some y → x ≡ y
set_here [] n x y e = absurd (cc)
set_here (z ∷ xs) zero x y e = cc
set_here (z ∷ xs) (suc n) x y e = set_here xs n x y e

set_there : {A : Type 0} (xs : List A) (n m : ℕ) (x : A) → (n ≡ m → ⊥) → slice_get (slice_set xs n x) m ≡ slice_get xs m
set_there [] n m x h = refl
set_there (z ∷ xs) zero zero x h = absurd (h refl)
set_there (z ∷ xs) zero (suc m) x h = refl
set_there (z ∷ xs) (suc n) zero x h = refl
set_there (z ∷ xs) (suc n) (suc m) x h = set_there xs n m x (λ e. h (ap suc e))

differ : (n m : ℕ) → (n == m) ≡ false → n ≡ m → ⊥
differ n m f e = let t : (n == m) ≡ true = eq-eqb n m e in let z : false ≡ true = sym f ∙ t in absurd (cc)

placed_at : (met : List ℕ) (places : List (Option ℕ)) (n m : ℕ) (place : Option ℕ) (b : Bool) → (n == m) ≡ b → IsPlaced met places → place_in n met ≡ None
    → slice_get (slice_set places n (Some (length met))) m ≡ Some place → place ≡ place_in m (met ++ n ∷ [])
placed_at met places n m place true eq is none e =
    let same : n ≡ m = eqb-true n m eq in
    let here : Some (length met) ≡ place = set_here places n (Some (length met)) place (ap (λ (i : ℕ). slice_get (slice_set places n (Some (length met))) i) same ∙ e) in
    let z : 0 + length met ≡ length met = omega arith in
    sym here ∙ sym (ap (λ (i : ℕ). place_in i (met ++ n ∷ [])) (sym same) ∙ place_new 0 n met none ∙ ap Some z)
placed_at met places n m place false eq is none e =
    is m place (sym (set_there places n m (Some (length met)) (differ n m eq)) ∙ e) ∙ sym (place_other 0 m n met eq)

pub one_placed : (met : List ℕ) (places : List (Option ℕ)) (n : ℕ) → IsPlaced met places → place_in n met ≡ None → IsPlaced (met ++ n ∷ []) (slice_set places n (Some (length met)))
one_placed met places n is none = λ m place e. placed_at met places n m place (n == m) refl is none e

-- ---- whether it was met

pub again : (met : List ℕ) (n m : ℕ) → Some m ≡ place_in n met → met ≡ with_met met n
again met n m e = ap (λ (o : Option ℕ). if is_some o then met else met ++ n ∷ []) e

pub fresh : (met : List ℕ) (n : ℕ) → None ≡ place_in n met → met ++ n ∷ [] ≡ with_met met n
fresh met n e = ap (λ (o : Option ℕ). if is_some o then met else met ++ n ∷ []) e

pub is_old : (met : List ℕ) (n m : ℕ) → Some m ≡ place_in n met → false ≡ is_none (place_in n met)
is_old met n m e = ap (λ (o : Option ℕ). is_none o) e

pub is_new : (met : List ℕ) (n : ℕ) → None ≡ place_in n met → true ≡ is_none (place_in n met)
is_new met n e = ap (λ (o : Option ℕ). is_none o) e

pub ruleset placed = (none_placed, one_placed, again, fresh, is_old, is_new)
