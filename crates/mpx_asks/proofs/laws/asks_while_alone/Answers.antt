use Rattle.mpx_asks.proofs.Alone.{while_alone}
use Rattle.mpx_asks.proofs.laws.asks_while_alone.Goals as goal

pub returns : goal.returns
returns c = while_alone
