use Rattle.replay_world.proofs.Once.{one_replay}
use Rattle.replay_world.proofs.replay_laws.one_replay.Goals as goal

pub returns : goal.returns
returns g c = λ echo. one_replay (g.D.Serves.service echo)
