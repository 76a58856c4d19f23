use Rattle.world_laws.proofs.Leading.{losses_lead}
use Rattle.world_laws.proofs.laws.losses_lead.Goals as goal

pub returns : goal.returns
returns c = losses_lead
