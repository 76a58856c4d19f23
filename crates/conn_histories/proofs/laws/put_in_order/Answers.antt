use Rattle.conn_histories.proofs.Along.{put_in_order}
use Rattle.conn_histories.proofs.laws.put_in_order.Goals as goal

pub returns : goal.returns
returns c = put_in_order
