use Rattle.std.proofs.Common.{◌≡◌, ◌+◌, ◌≤◌, ◌++◌, length, drop}
use Rattle.std.specs.Prelude.{vec_len, vec_capacity}
use Rattle.handle_table.specs.Cells.{living}
use Rattle.handle_table.specs.Places.{cells_in}
use Rattle.handle_table.proofs.places.put_living.Given as goal

-- what is added, and what is left
abbrev pub invariant-loop-place : goal.invariant-loop-place
invariant-loop-place l =
    (l.into.items ++ living (cells_in l.handles (drop l.place-index l.places)) ≡ l.initial.into.items ++ living (cells_in l.handles l.places))
    × (vec_len l.into + length (living (cells_in l.handles (drop l.place-index l.places))) ≤ vec_capacity l.into)
