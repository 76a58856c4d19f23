use Rattle.handle_table.proofs.Named.{fault_shown}
use Rattle.handle_table.proofs.laws.shows_faults.Goals as goal

pub returns : goal.returns
returns c = fault_shown
