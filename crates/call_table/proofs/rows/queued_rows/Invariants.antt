use Rattle.std.proofs.Common.{◌≡◌, ◌++◌, ◌≤◌, drop, map, length}
use Rattle.call_table.specs.Kept.{AllFew}
use Rattle.call_table.specs.Queues.{queued}
use Rattle.call_table.proofs.rows.queued_rows.Given as goal

-- what stands in the queues, and what is left
abbrev pub invariant-loop-at : goal.invariant-loop-at
invariant-loop-at l =
    (l.queues.calls ++ map queued (drop l.at l.rows.items) ≡ map queued l.rows.items)
    × (length (drop l.at l.rows.items) ≤ l.queues.room)
    × AllFew (drop l.at l.rows.items)
