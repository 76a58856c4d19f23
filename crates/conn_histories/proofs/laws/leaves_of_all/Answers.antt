use Rattle.conn_histories.proofs.Comes.{leaves_all}
use Rattle.conn_histories.proofs.laws.leaves_of_all.Goals as goal

pub returns : goal.returns
returns c = leaves_all
