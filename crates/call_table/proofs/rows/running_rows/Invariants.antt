use Rattle.std.proofs.Common.{◌≡◌, ℕ, ◌+◌, ◌≤◌, drop}
use Rattle.call_table.specs.Tally.{total_of, runs_of}
use Rattle.call_table.specs.Sorted.{held}
use Rattle.call_table.specs.Places.{runs_at_place, waits_of}
use Rattle.call_table.proofs.rows.running_rows.Given as goal

-- what stands there, and what is left
abbrev pub invariant-loop-at : goal.invariant-loop-at
invariant-loop-at l =
    ((n : ℕ) → held n l.running.keys + total_of (runs_at_place n) (drop l.at l.rows.items) ≡ total_of (runs_at_place n) l.rows.items)
    × (total_of waits_of l.rows.items + total_of runs_of (drop l.at l.rows.items) ≤ l.running.room)
