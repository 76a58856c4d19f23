use Rattle.served_desks.proofs.Once.{each_deed_stands_once}
use Rattle.served_desks.proofs.each_deed_stands_once.Goals as goal

pub returns : goal.returns
returns g c = each_deed_stands_once g.K.Link.shows
