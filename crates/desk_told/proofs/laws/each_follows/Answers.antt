use Rattle.desk_told.proofs.DeedLemmas.{each_follows}
use Rattle.desk_told.proofs.laws.each_follows.Goals as goal

pub returns : goal.returns
returns g c = each_follows g.D.Desk.may g.D.Rundown.runs_down
