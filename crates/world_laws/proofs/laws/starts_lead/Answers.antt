use Rattle.world_laws.proofs.StartLeads.{starts_lead}
use Rattle.world_laws.proofs.laws.starts_lead.Goals as goal

pub returns : goal.returns
returns c = starts_lead
