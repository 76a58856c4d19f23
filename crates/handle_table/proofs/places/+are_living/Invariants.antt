use Rattle.std.proofs.Common.{length}
use Rattle.handle_table.proofs.places.+are_living.Given as goal

abbrev pub decreases-are_living : goal.decreases-are_living
decreases-are_living l = length l.places.now
