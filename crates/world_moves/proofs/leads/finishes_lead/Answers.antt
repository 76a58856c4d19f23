use Rattle.world_moves.proofs.leads.Ending.{finishes_lead}
use Rattle.world_moves.proofs.leads.finishes_lead.Goals as goal

pub returns : goal.returns
returns c = finishes_lead c.read_is_stub.ensures
