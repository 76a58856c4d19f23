use Rattle.std.proofs.Common.{length}
use Rattle.journal_audit.proofs.calls.+opens_serial.Given as goal

abbrev pub decreases-opens_serial : goal.decreases-opens_serial
decreases-opens_serial l = length l.slots.now
