use Rattle.std.proofs.Common.{true≢false, sym, subst, ◌∙◌}
use Rattle.ndr_value.specs.Forms.{types_of}
use Rattle.ndr_value.specs.Values.{msg}
use Rattle.ndr_table.specs.Shown.{shown}
use Rattle.ndr_table.specs.Tables.{TableForm}
use Rattle.client_script.specs.Steps.{IsRequestOf, IsNoMessage}
use Rattle.client_script.specs.Steps.IsNoMessage.{not_of}
use Rattle.client_script.proofs.Asking.{row_is, no_row}
use Rattle.client_script.proofs.player.message_of.Goals as goal

pub returns-in_default-2 : goal.returns-in_default-2
returns-in_default-2 c =
    let none = rw c.in_default-2.is at c.in_ok-message.ensures in
    subst (λ (t : TableForm). IsNoMessage t c.args.op c.args.known.now c.args.text.now) c.table-table.ensures
    (no_row (shown c.table-table.result.now) c.args.op c.args.known.now c.args.text.now c.in-Some.form.now (types_of c.types.result.now.items) c.deref.result.now c.in-Some.ensures c.types.ensures.types c.deref.ensures.value none)

pub returns-else-branch : goal.returns-else-branch
returns-else-branch c =
    let x = rw c.in-Some-2.is at c.in_ok-message.ensures in
    let m = msg c.in-Some-2.message in
    not_of m (subst (λ (t : TableForm). IsRequestOf t c.args.op c.args.known.now m c.args.text.now) c.table-table.ensures
    (row_is (shown c.table-table.result.now) c.args.op c.args.known.now c.args.text.now c.in-Some.form.now (types_of c.types.result.now.items) c.deref.result.now c.in-Some.ensures c.types.ensures.types c.deref.ensures.value m x))
    (λ is. true≢false (sym (c.in_ok-takes.ensures.1 is) ∙ c.if-branch.false))
