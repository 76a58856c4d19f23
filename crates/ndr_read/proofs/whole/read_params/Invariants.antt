use Rattle.std.proofs.Common.{◌≡◌, map, drop}
use Rattle.ndr_value.specs.Values.{vals}
use Rattle.ndr_table.specs.Tables.{param_form, result_form}
use Rattle.ndr_model.specs.Stub.{entries_of}
use Rattle.ndr_model.specs.Build.{follows}
use Rattle.ndr_model.specs.Message.{enough}
use Rattle.ndr_pointers.specs.Views.{types_in}
use Rattle.ndr_read.specs.Views.{last_of}
use Rattle.ndr_read.specs.Readings.{before}
use Rattle.ndr_read.proofs.whole.read_params.Given as goal

abbrev pub invariant-loop-param : goal.invariant-loop-param
invariant-loop-param l =
    before (vals l.values.items) (follows (types_in l.reader) l.reader.order l.reader.octets.now enough (entries_of l.way (map param_form (drop l.param-index l.params)) (result_form l.result_shape)) (last_of l.tail))
    ≡ follows (types_in l.reader) l.reader.order l.reader.octets.now enough (entries_of l.way (map param_form l.params) (result_form l.result_shape)) (last_of l.initial.tail)
