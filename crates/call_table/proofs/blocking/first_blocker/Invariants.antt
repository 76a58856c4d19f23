use Rattle.std.proofs.Common.{ℕ, IfSome, length, ◌-◌}
use Rattle.call_table.specs.Queues.{after_place, IsIn}
use Rattle.call_table.proofs.Nearest.{NoneBefore, is_rival}
use Rattle.call_table.proofs.blocking.first_blocker.Given as goal

-- none of those passed is in the way
abbrev pub invariant-loop-call : goal.invariant-loop-call
invariant-loop-call l =
    NoneBefore (is_rival l.queue l.kind l.slots) l.rows.items (after_place l.after)
    × IfSome l.after (λ i. (k : ℕ) × IsIn l.queue l.queues.calls k i)

abbrev pub decreases-loop-call : goal.decreases-loop-call
decreases-loop-call l = length l.rows.items - after_place l.after
