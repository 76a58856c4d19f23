use Rattle.group_core.proofs.Growing.{ends_grow}
use Rattle.group_core.proofs.laws.ends_grow.Goals as goal

pub returns : goal.returns
returns c = ends_grow
