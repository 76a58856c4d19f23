use Rattle.world_laws.proofs.Leading.{takes_lead}
use Rattle.world_laws.proofs.laws.takes_lead.Goals as goal

pub returns : goal.returns
returns c = takes_lead
