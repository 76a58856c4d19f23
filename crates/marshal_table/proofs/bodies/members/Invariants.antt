use Rattle.std.proofs.Common.{◌≡◌, ◌++◌, map, drop}
use Rattle.std.specs.List.{flat_map}
use Rattle.ndr_value.specs.Forms.{form}
use Rattle.marshal_table.specs.Bodies.{field_forms}
use Rattle.marshal_table.proofs.bodies.members.Given as goal

abbrev pub invariant-loop-field : goal.invariant-loop-field
invariant-loop-field l = map form l.all.items ++ flat_map (field_forms l.names) (drop l.field-index l.fields) ≡ flat_map (field_forms l.names) l.fields
