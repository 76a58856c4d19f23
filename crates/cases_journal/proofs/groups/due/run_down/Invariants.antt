use Rattle.std.proofs.Common.{length}
use Rattle.cases_journal.proofs.groups.due.run_down.Given as goal

abbrev pub decreases-loop-due : goal.decreases-loop-due
decreases-loop-due l = length l.list
