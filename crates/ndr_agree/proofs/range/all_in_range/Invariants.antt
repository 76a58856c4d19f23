use Rattle.std.proofs.Common.{◌≡◌, map, drop}
use Rattle.ndr_value.specs.Values.{vals}
use Rattle.ndr_table.specs.Tables.{param_form, result_form}
use Rattle.ndr_model.specs.Stub as stub
use Rattle.ndr_agree.specs.Ranges as spec
use Rattle.ndr_agree.proofs.range.all_in_range.Given as goal

abbrev pub invariant-loop-param : goal.invariant-loop-param
invariant-loop-param l =
    spec.all_in_range (stub.entries_of l.way (map param_form (drop l.param-index l.params)) (result_form l.op.result)) (vals l.rest)
    ≡ spec.all_in_range (stub.entries_of l.way (map param_form l.params) (result_form l.op.result)) (vals l.values)
