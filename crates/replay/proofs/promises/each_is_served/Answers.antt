use Rattle.replay.proofs.Serving.{each_is_served}
use Rattle.replay.proofs.promises.each_is_served.Goals as goal

pub returns : goal.returns
returns g c = λ echo. each_is_served (g.D.Serves.service echo)
