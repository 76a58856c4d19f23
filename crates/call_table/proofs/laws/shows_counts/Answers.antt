use Rattle.call_table.proofs.Follows.{counts_shown}
use Rattle.call_table.proofs.laws.shows_counts.Goals as goal

pub returns : goal.returns
returns c = counts_shown
