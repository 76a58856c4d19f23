use Rattle.std.proofs.Common.{ap}
use Rattle.journal_reader.proofs.Marks.{second}
use Rattle.journal_reader.proofs.bases.call_of.Goals as goal

pub returns-in_default-2 : goal.returns-in_default-2
returns-in_default-2 c = λ x fits e.
    let none = rw c.in_default-2.is at c.in_ok-asked.ensures in
    none (x.asked, (x.taken, x.cancelled, x.orphaned)) fits.1 (ap second e)
