use Rattle.conn_histories.proofs.Goes.{each_goes}
use Rattle.conn_histories.proofs.laws.each_goes.Goals as goal

pub returns : goal.returns
returns c = each_goes
