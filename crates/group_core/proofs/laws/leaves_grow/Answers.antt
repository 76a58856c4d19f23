use Rattle.group_core.proofs.Growing.{leaves_grow}
use Rattle.group_core.proofs.laws.leaves_grow.Goals as goal

pub returns : goal.returns
returns c = leaves_grow
