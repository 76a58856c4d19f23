use Rattle.world_laws.proofs.TellFates.{fates_are_told}
use Rattle.world_laws.proofs.laws.fates_are_told.Goals as goal

pub returns : goal.returns
returns c = fates_are_told
