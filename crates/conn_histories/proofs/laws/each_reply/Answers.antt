use Rattle.conn_histories.proofs.Saying.{each_reply}
use Rattle.conn_histories.proofs.laws.each_reply.Goals as goal

pub returns : goal.returns
returns c = each_reply
