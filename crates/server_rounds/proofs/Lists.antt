-- Facts of each item of a list.
use Rattle.std.proofs.Common.{List, [], ◌∷◌, ◌++◌}
use Rattle.std.specs.List.{AllByRecursion}

module _ {A : Type 0} where
  pub all_snoc : (P : A → Type 0) (xs : List A) (x : A) → AllByRecursion P xs → P x → AllByRecursion P (xs ++ x ∷ [])
  all_snoc P [] x h p = (p, tt)
  all_snoc P (y ∷ ys) x h p = (h.0, all_snoc P ys x h.1 p)

  pub all_more : (P Q : A → Type 0) (xs : List A) → ((x : A) → P x → Q x) → AllByRecursion P xs → AllByRecursion Q xs
  all_more P Q [] f h = tt
  all_more P Q (x ∷ xs) f h = (f x h.0, all_more P Q xs f h.1)
