use Rattle.std.proofs.Common.{◌≡◌, ℕ, ◌+◌, ◌≤◌, drop, length}
use Rattle.call_table.specs.Tally.{total_of}
use Rattle.call_table.specs.Sorted.{held}
use Rattle.call_table.specs.Waits.{waits_under}
use Rattle.call_table.proofs.rows.waiting_rows.Given as goal

-- what is listed, and what is left
abbrev pub invariant-loop-at : goal.invariant-loop-at
invariant-loop-at l =
    ((n : ℕ) → held n l.waiting.keys + total_of (waits_under n) (drop l.at l.rows.items) ≡ total_of (waits_under n) l.rows.items)
    × (length (drop l.at l.rows.items) ≤ l.waiting.room)
