use Rattle.std.proofs.Common.{◌≡◌, List, true, false, Some, sym, ap, ◌∙◌}
use Rattle.std.specs.Prelude.{slice_get}
use Rattle.ndr_value.specs.Values.{msg}
use Rattle.ndr_table.specs.declared.operation.HandleUse.{HandleUse}
use Rattle.ndr_table.specs.Shown.{shown}
use Rattle.ndr_table.specs.Tables.{op_form}
use Rattle.manager_api.specs.Answers.{ans}
use Rattle.manager_api.specs.Calls.{uses_or, uses_at}
use Rattle.echo_manager.specs.Steps.{is_echoed}
use Rattle.echo_manager.proofs.Said.{echoes_said, echoes_not, if_so}
use Rattle.echo_manager.proofs.desk.answered.Goals as goal

pub returns-then-is_echoed : goal.returns-then-is_echoed
returns-then-is_echoed c =
    let t = shown c.args.table.now in
    let op = c.args.op in
    let asked = msg c.args.message.now in
    let o = op_form c.in-Some-op.form.now in
    let at : slice_get t.ops op ≡ Some o = c.in-Some-op.ensures in
    let uses : uses_at t op ≡ c.as_slice.result.now = ap uses_or c.in-Some.ensures ∙ sym c.as_slice.ensures in
    let can : is_echoed (uses_at t op) o ≡ true = ap (λ (us : List HandleUse). is_echoed us o) uses ∙ sym c.is_echoed.ensures ∙ c.if-is_echoed.true in
    if_so c.echoed.result (λ a said. echoes_said t op asked o (ans a) at can said) c.echoed.ensures

pub returns-else-is_echoed : goal.returns-else-is_echoed
returns-else-is_echoed c =
    let t = shown c.args.table.now in
    let op = c.args.op in
    let asked = msg c.args.message.now in
    let o = op_form c.in-Some-op.form.now in
    let at : slice_get t.ops op ≡ Some o = c.in-Some-op.ensures in
    let uses : uses_at t op ≡ c.as_slice.result.now = ap uses_or c.in-Some.ensures ∙ sym c.as_slice.ensures in
    let off : is_echoed (uses_at t op) o ≡ false = ap (λ (us : List HandleUse). is_echoed us o) uses ∙ sym c.is_echoed.ensures ∙ c.if-is_echoed.false in
    echoes_not t op asked o (ans c.unspecified.result) at off c.unspecified.ensures
