use Rattle.std.proofs.Common.{◌≡◌, ◌≤◌, ◌++◌, length, drop}
use Rattle.handle_table.specs.Cells.{fresh}
use Rattle.handle_table.proofs.cells.index_of.Given as goal

-- what is made and what is left, for which there is room
abbrev pub invariant-loop-item : goal.invariant-loop-item
invariant-loop-item l = (l.index.cells ++ fresh (drop l.item-index l.items) ≡ fresh l.items) × (length (drop l.item-index l.items) ≤ l.index.room)
