use Rattle.server_command.proofs.Lasting.{members_last}
use Rattle.server_command.proofs.laws.members_last.Goals as goal

pub returns : goal.returns
returns g c = λ m. members_last g.K.Link.shows (g.M.Manager.may m) (g.M.Manager.tables m)
