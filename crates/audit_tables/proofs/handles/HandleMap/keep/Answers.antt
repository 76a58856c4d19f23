use Rattle.std.proofs.Common.{◌≡◌, Some, ◌∙◌, ap, sym, subst}
use Rattle.std.specs.Prelude.{OnOk}
use Rattle.handle_table.specs.Kept.{Rises}
use Rattle.handle_table.specs.Ended.{kept}
use Rattle.handle_table.specs.Uses.{item_named}
use Rattle.audit_tables.specs.Handles.{Live}
use Rattle.audit_tables.proofs.Held.{table_rises, kept_cookie}
use Rattle.audit_tables.proofs.handles.HandleMap.keep.Goals as goal

pub returns-in-Some-clause-items : goal.returns-in-Some-clause-items
returns-in-Some-clause-items c =
    let items = c.args.self.now.items in
    let named : item_named c.args.self.now.home items c.args.slot.now ≡ Some c.in-Some.item = sym c.named.ensures ∙ c.in-Some.is in
    let rises = subst (λ (l : Live). Rises 0 l.items) c.self.view_is (table_rises c.self.inside.items.entries c.self.invariant) in
    let same = kept_cookie c.args.self.now.home items c.args.slot.now c.args.cookie c.in-Some.item rises named ∙ ap (λ o. kept c.args.cookie o items) (sym named) in
    subst (λ l. OnOk c.put.result (c.put.new.self.items ≡ l)) same c.put.ensures.items
