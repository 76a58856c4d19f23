use Rattle.conn_histories.proofs.Called.{calls_stay}
use Rattle.conn_histories.proofs.laws.calls_stay_unanswered.Goals as goal

pub returns : goal.returns
returns c = calls_stay
