use Rattle.client_laws.proofs.Sending.{asks_are_sent}
use Rattle.client_laws.proofs.laws.asks_are_sent.Goals as goal

pub returns : goal.returns
returns c = asks_are_sent
