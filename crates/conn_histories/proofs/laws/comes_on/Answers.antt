use Rattle.conn_histories.proofs.Comes.{comes_on}
use Rattle.conn_histories.proofs.laws.comes_on.Goals as goal

pub returns : goal.returns
returns c = comes_on
