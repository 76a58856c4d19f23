use Rattle.group_core.proofs.Growing.{takes_grow}
use Rattle.group_core.proofs.laws.takes_grow.Goals as goal

pub returns : goal.returns
returns c = takes_grow
