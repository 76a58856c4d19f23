use Rattle.std.proofs.Common.{refl}
use Rattle.marshal_table.specs.Interfaces.{tabled}
use Rattle.marshal_table.proofs.Listed.{has_each}
use Rattle.marshal_table.proofs.laws.each_operation_is_listed.Goals as goal

pub returns : goal.returns
returns c = λ tree. has_each tree (tabled tree) refl
