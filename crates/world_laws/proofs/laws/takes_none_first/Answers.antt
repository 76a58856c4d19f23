use Rattle.world_laws.proofs.Firsts.{takes_none_first}
use Rattle.world_laws.proofs.laws.takes_none_first.Goals as goal

pub returns : goal.returns
returns c = takes_none_first
