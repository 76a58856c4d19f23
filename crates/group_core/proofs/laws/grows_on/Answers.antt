use Rattle.group_core.proofs.Growing.{grows_on}
use Rattle.group_core.proofs.laws.grows_on.Goals as goal

pub returns : goal.returns
returns c = grows_on
