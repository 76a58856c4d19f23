use Rattle.handle_table.proofs.Started.{base_shown}
use Rattle.handle_table.proofs.laws.shows_base.Goals as goal

pub returns : goal.returns
returns c = base_shown
