use Rattle.server_command.proofs.Staying.{answers_stay}
use Rattle.server_command.proofs.laws.answers_stay.Goals as goal

pub returns : goal.returns
returns c = answers_stay
