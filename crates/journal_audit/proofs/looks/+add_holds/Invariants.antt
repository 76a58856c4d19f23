use Rattle.std.proofs.Common.{length}
use Rattle.journal_audit.proofs.looks.+add_holds.Given as goal

abbrev pub decreases-add_holds : goal.decreases-add_holds
decreases-add_holds l = length l.slots.now
