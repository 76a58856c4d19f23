use Rattle.conn_histories.proofs.Asking.{one_asking}
use Rattle.conn_histories.proofs.laws.one_asking.Goals as goal

pub returns : goal.returns
returns c = one_asking
