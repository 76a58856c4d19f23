use Rattle.std.proofs.Common.{◌≡◌, [], map, drop}
use Rattle.ndr_value.specs.Values.{vals}
use Rattle.ndr_table.specs.Tables.{param_form, result_form}
use Rattle.ndr_model.specs.Stub as stub
use Rattle.ndr_agree.specs.Views.{types_in, call_of}
use Rattle.ndr_model.specs.Written as spec
use Rattle.ndr_write.specs.Views.{followed, piece_of}
use Rattle.ndr_write.proofs.entries.put_params.Given as goal

-- what is left, behind what is written, is what all is behind what was written before
abbrev pub invariant-loop-param : goal.invariant-loop-param
invariant-loop-param l =
    let call = l.writer.call in
    let all = spec.each_entry (types_in call) l.writer.order (call_of call) in
    followed (piece_of l.out []) (all (stub.entries_of call.way (map param_form (drop l.param-index l.params)) (result_form call.op.now.result)) (vals l.rest))
    ≡ followed (piece_of l.initial.out []) (all (stub.entries_of call.way (map param_form l.params) (result_form call.op.now.result)) (vals l.values))
