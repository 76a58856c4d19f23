use Rattle.server_command.proofs.Limits.{room_is_taken}
use Rattle.server_command.proofs.laws.room_is_taken.Goals as goal

pub returns : goal.returns
returns c = room_is_taken
