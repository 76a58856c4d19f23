use Rattle.std.proofs.Common.{length}
use Rattle.journal_audit.proofs.looks.+all_may_open.Given as goal

abbrev pub decreases-all_may_open : goal.decreases-all_may_open
decreases-all_may_open l = length l.slots.now
