use Rattle.std.proofs.Common.{◌≡◌, ◌++◌, drop}
use Rattle.marshal_table.specs.Interfaces.{names_listed}
use Rattle.marshal_table.proofs.operations.names_of.Given as goal

abbrev pub invariant-loop-field : goal.invariant-loop-field
invariant-loop-field l = l.names.items ++ names_listed (drop l.field-index l.fields) ≡ names_listed l.fields
