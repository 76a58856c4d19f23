use Rattle.group_core.proofs.Growing.{joins_grow}
use Rattle.group_core.proofs.laws.joins_grow.Goals as goal

pub returns : goal.returns
returns c = joins_grow
