-- What always holds of the live handles.
use Rattle.std.specs.Prelude.{ℕ, ◌+◌, ◌<◌, ◌≤◌, ◌^◌, List, [], ◌∷◌}
use Rattle.handle_model.specs.declared.entry.DueItem.{DueItem}

-- the serials rise, from this one on, and have 32 bits
abbrev pub Rises : ℕ → List DueItem → Type 0
Rises low [] = Unit {0}
Rises low (i ∷ items) = (low ≤ i.serial) × (i.serial < 2 ^ 32) × Rises (i.serial + 1) items
