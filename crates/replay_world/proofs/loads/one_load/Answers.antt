use Rattle.replay_world.proofs.LoadsOnce.{one_load}
use Rattle.replay_world.proofs.loads.one_load.Goals as goal

pub returns : goal.returns
returns g c = λ echo. one_load (g.D.Serves.service echo)
