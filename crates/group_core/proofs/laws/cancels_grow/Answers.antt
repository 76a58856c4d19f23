use Rattle.group_core.proofs.Growing.{cancels_grow}
use Rattle.group_core.proofs.laws.cancels_grow.Goals as goal

pub returns : goal.returns
returns c = cancels_grow
