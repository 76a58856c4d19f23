use Rattle.std.proofs.Common.{◌≤◌}
use Rattle.cases_journal.proofs.groups.waits.filled.Given as goal

abbrev pub invariant-loop-before : goal.invariant-loop-before
invariant-loop-before l = 4 ≤ l.list.queues
