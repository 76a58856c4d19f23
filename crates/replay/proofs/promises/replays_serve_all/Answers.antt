use Rattle.replay.proofs.Serving.{replays_serve_all}
use Rattle.replay.proofs.promises.replays_serve_all.Goals as goal

pub returns : goal.returns
returns g c = λ echo. replays_serve_all (g.D.Serves.service echo)
