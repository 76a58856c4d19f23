use Rattle.handle_table.proofs.Steps.{end_within}
use Rattle.handle_table.proofs.laws.grows_within.Goals as goal

pub returns : goal.returns
returns c = end_within
