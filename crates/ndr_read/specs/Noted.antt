-- Marks that are kept in the value, or all in an allocation.
use Rattle.std.specs.Prelude.{ℕ, List, [], ◌∷◌, take}
use Rattle.ndr_model.specs.declared.mark.Mark.{Mark}

-- so many of a few, unless all stand elsewhere
abbrev pub noted : List Mark → ℕ → List Mark → List Mark
noted few n [] = take n few
noted few n (m ∷ ms) = m ∷ ms
