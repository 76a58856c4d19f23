use Rattle.call_table.proofs.Found.{over_shown}
use Rattle.call_table.proofs.laws.numbers_rise.Goals as goal

pub returns : goal.returns
returns c = over_shown
