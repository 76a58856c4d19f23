use Rattle.conn_histories.proofs.Onward.{asks_go_on}
use Rattle.conn_histories.proofs.laws.asks_go_on.Goals as goal

pub returns : goal.returns
returns c = asks_go_on
