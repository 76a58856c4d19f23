use Rattle.world_laws.proofs.Restarting.{restarts_lead}
use Rattle.world_laws.proofs.laws.restarts_lead.Goals as goal

pub returns : goal.returns
returns c = restarts_lead
