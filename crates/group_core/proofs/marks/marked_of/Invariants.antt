use Rattle.std.proofs.Common.{◌≡◌, ◌++◌, drop}
use Rattle.group_core.specs.Marks.{marked_of}
use Rattle.group_core.proofs.marks.marked_of.Given as goal

-- what is listed, and what is left
abbrev pub invariant-loop-call : goal.invariant-loop-call
invariant-loop-call l = l.numbers.items ++ marked_of l.marks (drop l.call-index l.calls) ≡ marked_of l.marks l.calls
