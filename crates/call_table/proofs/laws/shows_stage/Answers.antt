use Rattle.call_table.proofs.Follows.{stage_shown}
use Rattle.call_table.proofs.laws.shows_stage.Goals as goal

pub returns : goal.returns
returns c = stage_shown
