use Rattle.call_table.proofs.Lasting.{free_shown}
use Rattle.call_table.proofs.laws.none_ahead_of_free.Goals as goal

pub returns : goal.returns
returns c = free_shown
