use Rattle.server_command.proofs.Limits.{joins_are_taken}
use Rattle.server_command.proofs.laws.joins_are_taken.Goals as goal

pub returns : goal.returns
returns c = joins_are_taken
