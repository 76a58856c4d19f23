use Rattle.conn_histories.proofs.Early.{same_acts}
use Rattle.conn_histories.proofs.laws.same_acts.Goals as goal

pub returns : goal.returns
returns c = same_acts
