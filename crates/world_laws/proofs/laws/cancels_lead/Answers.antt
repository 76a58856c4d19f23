use Rattle.world_laws.proofs.Leading.{cancels_lead}
use Rattle.world_laws.proofs.laws.cancels_lead.Goals as goal

pub returns : goal.returns
returns c = cancels_lead
