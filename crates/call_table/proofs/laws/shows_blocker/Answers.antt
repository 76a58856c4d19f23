use Rattle.call_table.proofs.Found.{conflict_shown}
use Rattle.call_table.proofs.laws.shows_blocker.Goals as goal

pub returns : goal.returns
returns c = conflict_shown
