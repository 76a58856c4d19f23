use Rattle.conn_histories.proofs.Asking.{each_asks}
use Rattle.conn_histories.proofs.laws.each_asks.Goals as goal

pub returns : goal.returns
returns c = each_asks
