use Rattle.conn_turns.proofs.Kept.{stories_are_kept}
use Rattle.conn_turns.proofs.pass_laws.stories_are_kept.Goals as goal

pub returns : goal.returns
returns g c = stories_are_kept g.S.Serving.server
