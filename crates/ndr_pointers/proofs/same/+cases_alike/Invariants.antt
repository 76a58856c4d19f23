use Rattle.std.proofs.Common.{length}
use Rattle.ndr_pointers.proofs.same.+cases_alike.Given as goal

abbrev pub decreases-cases_alike : goal.decreases-cases_alike
decreases-cases_alike l = length l.cases.now
