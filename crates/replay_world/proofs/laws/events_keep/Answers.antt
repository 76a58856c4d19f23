use Rattle.replay_world.proofs.Events.{events_keep}
use Rattle.replay_world.proofs.laws.events_keep.Goals as goal

pub returns : goal.returns
returns g c = λ echo. events_keep (g.D.Serves.service echo)
