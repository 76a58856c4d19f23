-- What `==` of octets answered.
use Rattle.std.proofs.Common.{◌≡◌, ℕ, List, Bool, true, false, nat_eq, sym, ◌∙◌}
use Rattle.std.specs.Cmp.Lexicographic.{pointwise}
use Rattle.std.proofs.lemmas.Bool.{false≢true}
use Rattle.std.proofs.lemmas.Slice.Eq.{bytes_eq-Decides}

pub differ : (xs ys : List ℕ) (r : Bool) → r ≡ pointwise nat_eq xs ys → r ≡ false → xs ≡ ys → ⊥
differ xs ys r e f same = let yes = (bytes_eq-Decides xs ys).1 same in false≢true (sym f ∙ (e ∙ yes))

pub agree : (xs ys : List ℕ) (r : Bool) → r ≡ pointwise nat_eq xs ys → r ≡ true → xs ≡ ys
agree xs ys r e t = (bytes_eq-Decides xs ys).0 (sym e ∙ t)
