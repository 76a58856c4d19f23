use Rattle.std.proofs.Common.{ℕ, ◌≤◌, subst}
use Rattle.ndr_table.specs.Shown.{shown}
use Rattle.client_script.specs.Steps.{HasOp}
use Rattle.client_script.proofs.Asking.{none_more, none_at_all, is_not}
use Rattle.client_script.proofs.player.op_of.Goals as goal

pub loop-op-preserved : goal.loop-op-preserved
loop-op-preserved c =
    none_more (shown c.args.table.now) c.args.name.now c.loop-op.op c.loop-op.invariant
    (is_not c.is_named.result (HasOp (shown c.args.table.now) c.loop-op.op c.args.name.now) c.if-is_named.false c.is_named.ensures)

pub returns : goal.returns
returns c = none_at_all (shown c.args.table.now) c.args.name.now c.loop-op.op c.loop-op.invariant (subst (λ (n : ℕ). n ≤ c.loop-op.op) c.op_count-op-end.ensures c.loop-op-test.false)
