use Rattle.std.proofs.Common.{◌≡◌, ◌++◌, map, drop}
use Rattle.std.specs.List.{flat_map}
use Rattle.ndr_table.specs.Tables.{param_form}
use Rattle.marshal_table.specs.Interfaces.{params_listed}
use Rattle.marshal_table.proofs.operations.params.Given as goal

abbrev pub invariant-loop-field : goal.invariant-loop-field
invariant-loop-field l = map param_form l.all.items ++ flat_map (params_listed l.names) (drop l.field-index l.fields) ≡ flat_map (params_listed l.names) l.fields
