use Rattle.call_table.proofs.Found.{slots_shown}
use Rattle.call_table.proofs.laws.shows_slots.Goals as goal

pub returns : goal.returns
returns c = slots_shown
