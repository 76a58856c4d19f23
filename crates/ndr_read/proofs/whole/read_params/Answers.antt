use Rattle.std.proofs.Common.{subst}
use Rattle.std.proofs.lemmas.Result.{err_from_is_err_and}
use Rattle.ndr_value.specs.Values.{vals}
use Rattle.ndr_table.specs.Tables.{result_form}
use Rattle.ndr_model.specs.Message.{enough}
use Rattle.ndr_pointers.specs.Gives.{Gives}
use Rattle.ndr_read.specs.Readings.{Followed}
use Rattle.ndr_pointers.specs.Views.{types_in}
use Rattle.ndr_read.specs.Views.{last_of}
use Rattle.ndr_read.proofs.Follows.{param_next, param_fails, last_is}
use Rattle.ndr_read.proofs.whole.read_params.Goals as goal

pub loop-param-preserved : goal.loop-param-preserved
loop-param-preserved c =
    param_next (types_in c.args.reader.now) c.args.reader.now.order c.args.reader.now.octets.now enough c.args.way c.args.params.now (result_form c.args.result_shape.now) c.loop-param.param-index c.param-item.result c.loop-param-test.true c.param-item.is
    (vals c.loop-param.values.items) (vals c.read_param.new.values.items) (last_of c.loop-param.tail) (last_of c.read_param.new.tail) _ c.in_ok-read_param.ensures c.loop-param.invariant

pub returns-in_err-read_param : goal.returns-in_err-read_param
returns-in_err-read_param c =
    let p = err_from_is_err_and c.from_residual.result c.from_residual.ensures.1 in
    rw (p.1, p.2) (param_fails (types_in c.args.reader.now) c.args.reader.now.order c.args.reader.now.octets.now enough c.args.way c.args.params.now (result_form c.args.result_shape.now) c.loop-param.param-index c.param-item.result c.loop-param-test.true c.param-item.is
    c.in_err-read_param.field-0.0 (vals c.loop-param.values.items) (last_of c.loop-param.tail) _ c.in_err-read_param.ensures c.loop-param.invariant)

pub returns : goal.returns
returns c =
    subst (λ (f : Followed). Gives (λ vs. (vals vs.items, last_of c.read_result.new.tail)) c.read_result.result f)
    (last_is (types_in c.args.reader.now) c.args.reader.now.order c.args.reader.now.octets.now enough c.args.way c.args.params.now (result_form c.args.result_shape.now) c.loop-param.param-index (vals c.loop-param.values.items) (last_of c.loop-param.tail) _ c.loop-param-test.false c.loop-param.invariant)
    c.read_result.ensures
