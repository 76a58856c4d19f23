use Rattle.std.proofs.Common.{◌≡◌, ◌+◌, ◌≤◌, ◌*◌, drop}
use Rattle.call_table.specs.Rows.{owed_of}
use Rattle.call_table.proofs.rows.owed_of.Given as goal

-- what is counted, and what is left
abbrev pub invariant-loop-at : goal.invariant-loop-at
invariant-loop-at l = (l.total + owed_of (drop l.at l.rows.items) ≡ owed_of l.rows.items) × (l.total ≤ 4 * l.at)
