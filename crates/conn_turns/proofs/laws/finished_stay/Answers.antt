use Rattle.conn_turns.proofs.Keeping.{finished_stay}
use Rattle.conn_turns.proofs.laws.finished_stay.Goals as goal

pub returns : goal.returns
returns g c = finished_stay g.S.Serving.server
