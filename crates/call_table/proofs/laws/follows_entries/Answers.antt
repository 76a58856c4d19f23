use Rattle.call_table.proofs.Follows.{follows}
use Rattle.call_table.proofs.laws.follows_entries.Goals as goal

pub returns : goal.returns
returns c = follows
