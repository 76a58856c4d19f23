use Rattle.conn_turns.proofs.Keeping.{stories_stay}
use Rattle.conn_turns.proofs.laws.stories_stay.Goals as goal

pub returns : goal.returns
returns g c = stories_stay g.S.Serving.server
