use Rattle.conn_histories.proofs.Calls.{whole_runs_are_runs}
use Rattle.conn_histories.proofs.laws.whole_runs_are_runs.Goals as goal

pub returns : goal.returns
returns c = whole_runs_are_runs
