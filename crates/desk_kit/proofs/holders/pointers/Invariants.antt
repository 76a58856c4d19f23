use Rattle.std.proofs.Common.{◌≡◌, ◌+◌, ◌-◌}
use Rattle.desk_kit.specs.Rows.{vals_then}
use Rattle.desk_kit.specs.MessageParts as spec
use Rattle.desk_kit.proofs.holders.pointers.Given as goal

-- with the pointers that are left they are all of them
abbrev pub invariant-loop-at : goal.invariant-loop-at
invariant-loop-at l = vals_then l.pointers.items (spec.pointers (l.first + l.at) (l.count - l.at)) ≡ spec.pointers l.first l.count
