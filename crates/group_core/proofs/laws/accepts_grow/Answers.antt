use Rattle.group_core.proofs.Growing.{accepts_grow}
use Rattle.group_core.proofs.laws.accepts_grow.Goals as goal

pub returns : goal.returns
returns c = accepts_grow
