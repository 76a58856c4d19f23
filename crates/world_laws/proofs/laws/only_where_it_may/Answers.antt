use Rattle.world_laws.proofs.Leading.{only_where_it_may}
use Rattle.world_laws.proofs.laws.only_where_it_may.Goals as goal

pub returns : goal.returns
returns c = only_where_it_may
