use Rattle.conn_turns.proofs.Keeping.{dues_stay}
use Rattle.conn_turns.proofs.laws.dues_stay.Goals as goal

pub returns : goal.returns
returns g c = dues_stay g.S.Serving.server
