use Rattle.world_laws.proofs.Firsts.{opens_first}
use Rattle.world_laws.proofs.laws.opens_first.Goals as goal

pub returns : goal.returns
returns c = opens_first
