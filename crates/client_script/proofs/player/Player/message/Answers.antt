use Rattle.std.proofs.Common.{ℕ, sym, subst, ◌∙◌}
use Rattle.ndr_table.specs.Tables.{TableForm}
use Rattle.client_script.specs.Steps.{HasOp}
use Rattle.client_script.specs.Steps.BarsCall.{calling, no_op, no_message}
use Rattle.client_script.proofs.Finding.{can_start, bars_at}
use Rattle.client_script.proofs.player.Player.message.Goals as goal

pub returns-then-is_calling : goal.returns-then-is_calling
returns-then-is_calling g c =
    bars_at c.args.self.now c.args.at c.args.name.now c.args.text.now c.index.result.now c.requires c.index.ensures (calling (sym c.is_calling.ensures ∙ c.if-is_calling.true))

pub returns-in_default : goal.returns-in_default
returns-in_default g c =
    bars_at c.args.self.now c.args.at c.args.name.now c.args.text.now c.index.result.now c.requires c.index.ensures
    (no_op (subst (λ (t : TableForm). (op : ℕ) → HasOp t op c.args.name.now → ⊥) c.table.ensures (rw c.in_default.is at c.op_of.ensures)))

pub returns-in-None : goal.returns-in-None
returns-in-None g c =
    let none = rw c.in-None.is at c.in_ok-message.ensures in
    bars_at c.args.self.now c.args.at c.args.name.now c.args.text.now c.index.result.now c.requires c.index.ensures
    (no_message c.in-Some.number (subst (λ (t : TableForm). HasOp t c.in-Some.number c.args.name.now) c.table.ensures c.in-Some.ensures) none)

pub returns-in-Some-2 : goal.returns-in-Some-2
returns-in-Some-2 g c =
    let x = rw c.in-Some-2.is at c.in_ok-message.ensures in
    can_start c.args.self.now c.args.at c.args.name.now c.args.text.now c.in-Some.number c.in-Some-2.message c.index.result.now c.requires c.index.ensures (sym c.if-is_calling.false ∙ c.is_calling.ensures)
    (subst (λ (t : TableForm). HasOp t c.in-Some.number c.args.name.now) c.table.ensures c.in-Some.ensures)
    x
