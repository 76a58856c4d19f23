use Rattle.std.proofs.Common.{◌≡◌, drop, map}
use Rattle.ndr_value.specs.Forms.{types_of}
use Rattle.ndr_value.specs.Values.{vals}
use Rattle.ndr_table.specs.Tables.{param_form}
use Rattle.echo_manager.specs.Met as spec
use Rattle.echo_manager.proofs.walk.met_in.Given as goal

abbrev pub invariant-loop-param : goal.invariant-loop-param
invariant-loop-param l =
    let all = spec.met_in (types_of l.walk.types.now) (vals l.walk.heap.now) in
    all (map param_form (drop l.param-index l.params)) (vals l.rest) l.met ≡ all (map param_form l.params) (vals l.values) l.initial.met
