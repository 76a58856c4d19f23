use Rattle.conn_histories.proofs.Called.{others_free}
use Rattle.conn_histories.proofs.laws.others_while_free.Goals as goal

pub returns : goal.returns
returns c = others_free
