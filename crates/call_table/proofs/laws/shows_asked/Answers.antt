use Rattle.call_table.proofs.Stored.{asked_shown}
use Rattle.call_table.proofs.laws.shows_asked.Goals as goal

pub returns : goal.returns
returns c = asked_shown
