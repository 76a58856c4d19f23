use Rattle.replay_world.proofs.Lines.{opens_keep, takes_keep, ends_keep, loses_keep}
use Rattle.replay_world.proofs.laws.lines_keep.Goals as goal

pub returns : goal.returns
returns g c =
    λ echo. record {
      opens = opens_keep (g.D.Serves.service echo);
      takes = takes_keep (g.D.Serves.service echo);
      ends = ends_keep (g.D.Serves.service echo);
      loses = loses_keep (g.D.Serves.service echo);
    }
