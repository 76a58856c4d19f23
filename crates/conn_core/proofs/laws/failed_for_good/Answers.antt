use Rattle.conn_core.proofs.Ending.{failed}
use Rattle.conn_core.proofs.laws.failed_for_good.Goals as goal

pub returns : goal.returns
returns c = failed
