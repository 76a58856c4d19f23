use Rattle.replay_world.proofs.Coming.{only_these}
use Rattle.replay_world.proofs.replay_laws.only_these.Goals as goal

pub returns : goal.returns
returns g c = λ echo. only_these (g.D.Serves.service echo)
