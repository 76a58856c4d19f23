use Rattle.std.proofs.Common.{refl}
use Rattle.marshal_table.specs.Interfaces.{tabled}
use Rattle.marshal_table.proofs.Listed.{has_handles}
use Rattle.marshal_table.proofs.laws.each_handle_is_listed.Goals as goal

pub returns : goal.returns
returns c = λ tree. has_handles tree (tabled tree) refl
