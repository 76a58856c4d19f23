use Rattle.group_core.proofs.Growing.{orphans_grow}
use Rattle.group_core.proofs.laws.orphans_grow.Goals as goal

pub returns : goal.returns
returns c = orphans_grow
