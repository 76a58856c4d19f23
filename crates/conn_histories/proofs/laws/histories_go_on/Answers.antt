use Rattle.conn_histories.proofs.Along.{go_on}
use Rattle.conn_histories.proofs.laws.histories_go_on.Goals as goal

pub returns : goal.returns
returns c = go_on
