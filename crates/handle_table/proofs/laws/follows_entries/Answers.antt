use Rattle.handle_table.proofs.Steps.{follows}
use Rattle.handle_table.proofs.laws.follows_entries.Goals as goal

pub returns : goal.returns
returns c = follows
