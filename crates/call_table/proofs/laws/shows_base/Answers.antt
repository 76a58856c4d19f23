use Rattle.call_table.proofs.Started.{base_shown}
use Rattle.call_table.proofs.laws.shows_base.Goals as goal

pub returns : goal.returns
returns c = base_shown
