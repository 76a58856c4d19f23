use Rattle.std.proofs.Common.{◌≡◌, ◌++◌, map, drop}
use Rattle.ndr_value.specs.Forms.{face}
use Rattle.marshal_table.specs.Bodies as spec
use Rattle.marshal_table.specs.Bodies.{names_in, names_of, field_forms, case_in}
use Rattle.marshal_table.proofs.bodies.arms.Given as goal

abbrev pub invariant-loop-field : goal.invariant-loop-field
invariant-loop-field l = map face l.all.items ++ map (spec.face l.names) (drop l.field-index l.fields) ≡ map (spec.face l.names) l.fields
