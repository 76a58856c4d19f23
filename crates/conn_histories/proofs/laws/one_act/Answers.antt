use Rattle.conn_histories.proofs.OneAct.{one_act}
use Rattle.conn_histories.proofs.laws.one_act.Goals as goal

pub returns : goal.returns
returns c = one_act
