use Rattle.std.proofs.Common.{◌≡◌, ◌≤◌, ◌-◌, vec_len}
use Rattle.std.specs.List.{All}
use Rattle.call_table.specs.Kept.{blank}
use Rattle.call_table.proofs.lists.fill.Given as goal

abbrev pub invariant-loop-alloc : goal.invariant-loop-alloc
invariant-loop-alloc l = (vec_len l.initial.lists ≤ vec_len l.lists) × All (λ b. b ≡ blank) l.lists.items

abbrev pub decreases-loop-alloc : goal.decreases-loop-alloc
decreases-loop-alloc l = l.wanted - vec_len l.lists
