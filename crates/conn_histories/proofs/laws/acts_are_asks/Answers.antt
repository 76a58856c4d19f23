use Rattle.conn_histories.proofs.Done.{acts_are_asks}
use Rattle.conn_histories.proofs.laws.acts_are_asks.Goals as goal

pub returns : goal.returns
returns c = acts_are_asks
