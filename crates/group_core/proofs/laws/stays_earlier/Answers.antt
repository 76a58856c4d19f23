use Rattle.group_core.proofs.Growing.{stays_earlier}
use Rattle.group_core.proofs.laws.stays_earlier.Goals as goal

pub returns : goal.returns
returns c = stays_earlier
