use Rattle.std.proofs.Common.{ap}
use Rattle.journal_reader.proofs.Marks.{second}
use Rattle.journal_reader.proofs.asked.asked_of.Goals as goal

pub returns-in_default-read_operation : goal.returns-in_default-read_operation
returns-in_default-read_operation c = λ a fits e. c.in_default-read_operation.ensures (a.iface, a.op) fits.1 (ap second e)
