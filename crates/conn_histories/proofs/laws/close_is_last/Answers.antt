use Rattle.conn_histories.proofs.Closing.{close_is_last}
use Rattle.conn_histories.proofs.laws.close_is_last.Goals as goal

pub returns : goal.returns
returns c = close_is_last
