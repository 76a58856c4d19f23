use Rattle.conn_core.proofs.Ending.{closed}
use Rattle.conn_core.proofs.laws.closed_for_good.Goals as goal

pub returns : goal.returns
returns c = closed
