-- Small facts that the others share.
use Rattle.std.proofs.Common.{◌≡◌, ℕ, zero, suc, Bool, true, false, Some, List, [], ◌∷◌, slice_get, subst}
use Rattle.std.specs.List.{AllByRecursion}

pub some_is : {A : Type 0} (x y : A) → Some x ≡ Some y → x ≡ y
some_is x y e = cc

pub true_false : (b : Bool) → b ≡ true → b ≡ false → ⊥
true_false b t f = absurd (cc (t, f))

pub at_index : {A : Type 0} (P : A → Type 0) (xs : List A) (i : ℕ) (x : A) → AllByRecursion P xs → slice_get xs i ≡ Some x → P x
at_index P [] i x all e = absurd (cc e)
at_index P (y ∷ ys) zero x all e = subst P (some_is y x e) all.0
at_index P (y ∷ ys) (suc i) x all e = at_index P ys i x all.1 e
