use Rattle.mpx_asks.proofs.Alone.{by_id}
use Rattle.mpx_asks.proofs.laws.asks_by_id.Goals as goal

pub returns : goal.returns
returns c = by_id
