use Rattle.std.proofs.Common.{length}
use Rattle.journal_audit.proofs.looks.+add_serials.Given as goal

abbrev pub decreases-add_serials : goal.decreases-add_serials
decreases-add_serials l = length l.slots.now
