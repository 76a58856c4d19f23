use Rattle.conn_histories.proofs.More.{act_stays}
use Rattle.conn_histories.proofs.laws.act_stays.Goals as goal

pub returns : goal.returns
returns c = act_stays
