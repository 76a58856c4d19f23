use Rattle.conn_histories.proofs.Decided.{one_answer}
use Rattle.conn_histories.proofs.laws.one_answer.Goals as goal

pub returns : goal.returns
returns c = one_answer
