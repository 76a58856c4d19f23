use Rattle.conn_histories.proofs.Rests.{each_rests}
use Rattle.conn_histories.proofs.laws.each_rests.Goals as goal

pub returns : goal.returns
returns c = each_rests
