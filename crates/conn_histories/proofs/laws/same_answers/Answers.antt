use Rattle.conn_histories.proofs.Late.{same_answers}
use Rattle.conn_histories.proofs.laws.same_answers.Goals as goal

pub returns : goal.returns
returns c = same_answers
