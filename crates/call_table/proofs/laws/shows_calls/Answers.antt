use Rattle.call_table.proofs.Stored.{calls_shown}
use Rattle.call_table.proofs.laws.shows_calls.Goals as goal

pub returns : goal.returns
returns c = calls_shown
