use Rattle.server_command.proofs.Behind.{others_follow}
use Rattle.server_command.proofs.laws.others_follow.Goals as goal

pub returns : goal.returns
returns c = others_follow
