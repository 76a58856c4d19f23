use Rattle.std.proofs.Common.{◌≡◌, ◌++◌, drop}
use Rattle.marshal_table.specs.Bodies.{names_of}
use Rattle.marshal_table.proofs.bodies.names_of.Given as goal

abbrev pub invariant-loop-field : goal.invariant-loop-field
invariant-loop-field l = l.names.items ++ names_of (drop l.field-index l.fields) ≡ names_of l.fields
