use Rattle.std.proofs.Common.{length}
use Rattle.manager_api.proofs.cookies.+are_none.Given as goal

abbrev pub decreases-are_none : goal.decreases-are_none
decreases-are_none l = length l.cookies.now
