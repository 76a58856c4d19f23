use Rattle.std.proofs.Common.{◌≡◌, map, drop}
use Rattle.ndr_value.specs.Values.{vals}
use Rattle.ndr_table.specs.Tables.{param_form, result_form}
use Rattle.ndr_model.specs.Stub as stub
use Rattle.ndr_model.specs.Compare as spec
use Rattle.ndr_model.specs.Message.{enough}
use Rattle.ndr_agree.specs.Views.{types_in, call_of, check_of}
use Rattle.ndr_agree.proofs.entries.compare_params.Given as goal

abbrev pub invariant-loop-param : goal.invariant-loop-param
invariant-loop-param l =
    spec.compare_entries (types_in l.call) (call_of l.call) enough (stub.entries_of l.call.way (map param_form (drop l.param-index l.params)) (result_form l.call.op.now.result)) (vals l.rest) (check_of l.check)
    ≡ spec.compare_entries (types_in l.call) (call_of l.call) enough (stub.entries_of l.call.way (map param_form l.params) (result_form l.call.op.now.result)) (vals l.values) (check_of l.initial.check)
