use Rattle.world_moves.proofs.leads.Ending.{takes_all_lead}
use Rattle.world_moves.proofs.leads.takes_all_lead.Goals as goal

pub returns : goal.returns
returns c = takes_all_lead c.read_is_stub.ensures
