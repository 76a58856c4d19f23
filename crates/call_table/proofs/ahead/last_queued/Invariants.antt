use Rattle.std.proofs.Common.{◌≡◌, ℕ, IfSome, length, ◌-◌}
use Rattle.call_table.specs.Queues.{after_place, IsIn}
use Rattle.call_table.proofs.Later.{greatest_first, is_queued_ahead}
use Rattle.call_table.proofs.ahead.last_queued.Given as goal

-- the last of those passed
abbrev pub invariant-loop-found : goal.invariant-loop-found
invariant-loop-found l =
    (greatest_first (is_queued_ahead l.queue l.slots l.call) l.rows.items (after_place l.after) ≡ l.last)
    × IfSome l.after (λ i. (k : ℕ) × IsIn l.queue l.queues.calls k i)

abbrev pub decreases-loop-found : goal.decreases-loop-found
decreases-loop-found l = length l.rows.items - after_place l.after
