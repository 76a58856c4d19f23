use Rattle.conn_histories.proofs.Along.{one_more}
use Rattle.conn_histories.proofs.laws.one_event_more.Goals as goal

pub returns : goal.returns
returns c = one_more
