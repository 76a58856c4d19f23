use Rattle.std.proofs.Common.{◌≡◌, Some, ◌∙◌, ap, sym, subst}
use Rattle.std.specs.Map.{values_of}
use Rattle.std.specs.BTreeMap.{is_at}
use Rattle.std.specs.Ordering.{nat_cmp}
use Rattle.handle_table.specs.Handles.{without}
use Rattle.handle_table.specs.Ended.{closed}
use Rattle.handle_table.specs.Uses.{item_named}
use Rattle.audit_tables.specs.Handles.{Live, serial_of}
use Rattle.audit_tables.specs.Keyed.{IsTable}
use Rattle.audit_tables.proofs.Keyed.{removed, table_removed}
use Rattle.audit_tables.proofs.handles.HandleMap.close.Goals as goal

pub invariant_of-self : goal.invariant_of-self
invariant_of-self c =
    subst (λ es. IsTable serial_of es) (sym c.remove.ensures.entries) (table_removed serial_of (is_at (nat_cmp c.in-Some.item.serial)) c.self.inside.items.entries c.self.invariant)

pub returns-in-Some-clause-items : goal.returns-in-Some-clause-items
returns-in-Some-clause-items c =
    let named : item_named c.args.self.now.home c.args.self.now.items c.args.slot.now ≡ Some c.in-Some.item = sym c.named.ensures ∙ c.in-Some.is in
    ap values_of c.remove.ensures.entries ∙ (removed serial_of c.in-Some.item.serial c.self.inside.items.entries c.self.invariant ∙ (ap (λ (l : Live). without c.in-Some.item.serial l.items) c.self.view_is ∙ ap (λ o. closed o c.args.self.now.items) (sym named)))
