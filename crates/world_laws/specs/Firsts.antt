-- Which moves may come first.
use Rattle.std.specs.Prelude.{ℕ, List, ◌∷◌}
use Rattle.ndr_table.specs.Tables.{TableForm}
use Rattle.world_laws.specs.Moves.{Move}
use Rattle.world_laws.specs.Moves.{Move as moves}
use Rattle.world_laws.specs.Worlds.{World, empty, Plays, StopsAt}

-- A connection may be opened, by asking for a new group; and no call can be taken.
abbrev pub OpensFirst : Type 0
OpensFirst = (table : TableForm) (c : ℕ) → (v : World) × Plays table empty (moves.Open c 0) v

abbrev pub TakesNoneFirst : Type 0
TakesNoneFirst = (table : TableForm) (k : ℕ) (more : List Move) → StopsAt table (moves.Take k ∷ more) 0
