use Rattle.std.proofs.Common.{◌≡◌, ◌++◌, List, [], drop, ◌∙◌, ap, sym, subst}
use Rattle.std.proofs.lemmas.List.{append-nil}
use Rattle.handle_model.specs.declared.entry.Home.{Home}
use Rattle.handle_model.specs.declared.entry.DueItem.{DueItem}
use Rattle.handle_model.proofs.Rest.{rest_none}
use Rattle.audit_tables.specs.Handles.{Live}
use Rattle.audit_tables.proofs.Started.{item_step}
use Rattle.audit_tables.proofs.handles.HandleMap.of.Goals as goal

pub loop-item-preserved : goal.loop-item-preserved
loop-item-preserved c = (
  c.in_ok-put.ensures.home ∙ c.loop-item.invariant.0,
  item_step c.args.home c.args.base.now c.loop-item.live.items c.put.new.self.items c.as_slice-item-items.result.now c.loop-item.item-index _ c.requires c.as_slice-item-items.ensures c.loop-item-test.true c.loop-item.invariant.1 c.in_ok-put.ensures.items,
)

pub returns : goal.returns
returns c =
    let made : Home → List DueItem → Live = λ h items. record { home = h; items = items } in
    let none : drop c.loop-item.item-index c.args.base.now.handles ≡ [] = subst (λ xs. drop c.loop-item.item-index xs ≡ []) c.as_slice-item-items.ensures (rest_none c.as_slice-item-items.result.now c.loop-item.item-index c.loop-item-test.false) in
    let all : c.loop-item.live.items ≡ c.args.base.now.handles = sym (append-nil c.loop-item.live.items) ∙ (ap (λ xs. c.loop-item.live.items ++ xs) (sym none) ∙ c.loop-item.invariant.1) in
    ap (λ h. made h c.loop-item.live.items) c.loop-item.invariant.0 ∙ ap (made c.args.home) all
