use Rattle.world_moves.proofs.leads.Servers.{servers_lead}
use Rattle.world_moves.proofs.leads.servers_lead.Goals as goal

pub returns : goal.returns
returns c = servers_lead c.read_is_stub.ensures
