use Rattle.replay_world.proofs.Replays.{loads_are_replays}
use Rattle.replay_world.proofs.loads.loads_are_replays.Goals as goal

pub returns : goal.returns
returns g c = λ echo. loads_are_replays (g.D.Serves.service echo)
