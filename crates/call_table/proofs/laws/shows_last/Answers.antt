use Rattle.call_table.proofs.Lasting.{last_shown}
use Rattle.call_table.proofs.laws.shows_last.Goals as goal

pub returns : goal.returns
returns c = last_shown
