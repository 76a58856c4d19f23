use Rattle.world_laws.proofs.Leading.{opens_lead}
use Rattle.world_laws.proofs.laws.opens_lead.Goals as goal

pub returns : goal.returns
returns c = opens_lead
