use Rattle.conn_histories.proofs.Calls.{calls_are_whole_runs}
use Rattle.conn_histories.proofs.laws.calls_are_whole_runs.Goals as goal

pub returns : goal.returns
returns c = calls_are_whole_runs
