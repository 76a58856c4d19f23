use Rattle.std.proofs.Common.{◌∙◌, ap, sym, subst, refl, rules}
use Rattle.std.specs.Map.{values_of}
use Rattle.handle_table.specs.Handles.{with_item}
use Rattle.audit_tables.specs.Handles.{Live, serial_of}
use Rattle.audit_tables.specs.Keyed.{IsTable}
use Rattle.audit_tables.proofs.Keyed.{put_is, table_put}
use Rattle.audit_tables.proofs.handles.HandleMap.put.Goals as goal

pub invariant_of-self-2 : goal.invariant_of-self-2
invariant_of-self-2 c =
    subst (λ es. IsTable serial_of es) (sym c.in_ok-insert.ensures.entries) (table_put serial_of c.args.item.serial c.args.item c.self.inside.items.entries c.self.invariant refl (search rules))

pub returns-clause-items : goal.returns-clause-items
returns-clause-items c =
    ap values_of c.in_ok-insert.ensures.entries ∙ (put_is serial_of c.args.item.serial c.args.item c.self.inside.items.entries c.self.invariant ∙ ap (λ (l : Live). with_item c.args.item l.items) c.self.view_is)
