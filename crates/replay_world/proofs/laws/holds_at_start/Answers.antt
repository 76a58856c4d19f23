use Rattle.replay_world.proofs.Lines.{starts}
use Rattle.replay_world.proofs.laws.holds_at_start.Goals as goal

pub returns : goal.returns
returns g c = λ echo. starts (g.D.Serves.service echo)
