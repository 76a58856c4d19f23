use Rattle.std.proofs.Common.{◌≡◌, ◌++◌, map, drop}
use Rattle.ndr_table.specs.Tables.{param_form}
use Rattle.marshal_table.specs.Interfaces.{one_param}
use Rattle.marshal_table.proofs.operations.add_params.Given as goal

abbrev pub invariant-loop-declared : goal.invariant-loop-declared
invariant-loop-declared l = map param_form l.into.items ++ map (one_param l.names l.field) (drop l.declared-index l.field.declared) ≡ map param_form l.initial.into.items ++ map (one_param l.names l.field) l.field.declared
