use Rattle.conn_histories.proofs.Goes.{come_all}
use Rattle.conn_histories.proofs.laws.all_has_come.Goals as goal

pub returns : goal.returns
returns c = come_all
