-- The least of a list of places.
use Rattle.std.specs.Prelude.{ℕ, min, List, [], ◌∷◌, Option, Some, None}

abbrev pub lesser : Option ℕ → Option ℕ → Option ℕ
lesser None y = y
lesser (Some x) None = Some x
lesser (Some x) (Some y) = Some (min x y)

abbrev pub least : List ℕ → Option ℕ
least [] = None
least (x ∷ xs) = lesser (Some x) (least xs)
