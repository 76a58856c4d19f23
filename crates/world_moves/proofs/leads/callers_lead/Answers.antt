use Rattle.world_moves.proofs.leads.Callers.{callers_lead}
use Rattle.world_moves.proofs.leads.callers_lead.Goals as goal

pub returns : goal.returns
returns c = callers_lead c.read_is_stub.ensures
