use Rattle.server_rounds.proofs.Groups.{groups_end}
use Rattle.server_rounds.proofs.laws.groups_end.Goals as goal

pub returns : goal.returns
returns g c = groups_end g.K.Link.shows g.S.Manager.may g.S.Manager.tables
