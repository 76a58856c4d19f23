use Rattle.std.proofs.Common.{sym, ◌∙◌}
use Rattle.std.specs.Map.{values_of}
use Rattle.audit_tables.proofs.Held.{sides_more, sides_differ, sides_short, sides_end}
use Rattle.audit_tables.proofs.handles.lists.Goals as goal

pub returns-in_default : goal.returns-in_default
returns-in_default c = (
  λ t. absurd (cc),
  λ e. absurd (sides_differ c.args.items.now (values_of c.args.live.now.entries) c.loop-item.rest.now c.loop-item.item-iterator c.in-Some-split_first.first.now c.in-Some.item.now c.in-Some-split_first.later.now c.next.new.self c.loop-item.invariant c.in-Some-split_first.ensures.cases.0 c.in-Some.ensures.steps (sym c.eq.ensures ∙ c.if-eq.false) e),
)

pub returns-in_default-2 : goal.returns-in_default-2
returns-in_default-2 c = (
  λ t. absurd (cc),
  λ e. absurd (sides_short c.args.items.now (values_of c.args.live.now.entries) c.loop-item.rest.now c.loop-item.item-iterator c.in-Some.item.now c.next.new.self c.loop-item.invariant (rw c.in_default.is at c.split_first.ensures.cases) c.in-Some.ensures.steps e),
)

pub loop-item-preserved : goal.loop-item-preserved
loop-item-preserved c =
    sides_more c.args.items.now (values_of c.args.live.now.entries) c.loop-item.rest.now c.loop-item.item-iterator c.in-Some-split_first.first.now c.in-Some.item.now c.in-Some-split_first.later.now c.next.new.self c.loop-item.invariant c.in-Some-split_first.ensures.cases.0 c.in-Some.ensures.steps (sym c.eq.ensures ∙ c.if-eq.true)

pub returns : goal.returns
returns c = sides_end c.args.items.now (values_of c.args.live.now.entries) c.loop-item.rest.now c.loop-item.item-iterator c.is_empty.result c.loop-item.invariant c.in-None.ensures.steps.0 c.is_empty.ensures
