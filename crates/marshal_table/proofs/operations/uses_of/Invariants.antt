use Rattle.std.proofs.Common.{◌≡◌, ◌++◌, drop}
use Rattle.std.specs.List.{flat_map}
use Rattle.marshal_table.specs.Interfaces.{use_in}
use Rattle.marshal_table.proofs.operations.uses_of.Given as goal

abbrev pub invariant-loop-field : goal.invariant-loop-field
invariant-loop-field l = l.uses ++ flat_map use_in (drop l.field-index l.fields) ≡ flat_map use_in l.fields
