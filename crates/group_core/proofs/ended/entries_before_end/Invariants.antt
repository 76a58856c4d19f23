use Rattle.std.proofs.Common.{◌≡◌, None, take, reverse}
use Rattle.group_core.specs.Ended.{ended_since, was_taken}
use Rattle.group_core.proofs.ended.entries_before_end.Given as goal

-- no entry so far ended the call, and it is known whether one took it
abbrev pub invariant-loop-at : goal.invariant-loop-at
invariant-loop-at l =
    (ended_since l.base (reverse (take l.at l.entries)) l.call ≡ None) × (l.taken ≡ was_taken l.base (reverse (take l.at l.entries)) l.call)
