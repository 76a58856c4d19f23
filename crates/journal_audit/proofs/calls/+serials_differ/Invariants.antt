use Rattle.std.proofs.Common.{length}
use Rattle.journal_audit.proofs.calls.+serials_differ.Given as goal

abbrev pub decreases-serials_differ : goal.decreases-serials_differ
decreases-serials_differ l = length l.slots.now
