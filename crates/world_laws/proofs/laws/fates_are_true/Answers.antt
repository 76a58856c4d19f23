use Rattle.world_laws.proofs.Fates.{fates_are_true}
use Rattle.world_laws.proofs.laws.fates_are_true.Goals as goal

pub returns : goal.returns
returns c = fates_are_true
