use Rattle.conn_histories.proofs.Wide.{each_call_answered}
use Rattle.conn_histories.proofs.laws.each_call_answered.Goals as goal

pub returns : goal.returns
returns c = each_call_answered
