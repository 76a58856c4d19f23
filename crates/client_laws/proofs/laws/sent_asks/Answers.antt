use Rattle.client_laws.proofs.Sending.{sent_asks}
use Rattle.client_laws.proofs.laws.sent_asks.Goals as goal

pub returns : goal.returns
returns c = sent_asks
