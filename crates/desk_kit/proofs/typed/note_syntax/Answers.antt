use Rattle.std.proofs.Common.{arith}
use Rattle.desk_kit.proofs.typed.note_syntax.Goals as goal

pub returns : goal.returns
returns c = record { id = c.note_uuid.ensures; major = omega arith; minor = omega arith }
