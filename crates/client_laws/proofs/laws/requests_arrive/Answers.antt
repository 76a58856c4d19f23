use Rattle.client_laws.proofs.Ending.{requests_arrive}
use Rattle.client_laws.proofs.laws.requests_arrive.Goals as goal

pub returns : goal.returns
returns c = requests_arrive c.written_is_stub.ensures c.one_message.ensures
