use Rattle.std.proofs.Common.{◌∙◌, ap}
use Rattle.handle_table.specs.Handles.{item_at}
use Rattle.audit_tables.specs.Handles.{Live, serial_of}
use Rattle.audit_tables.proofs.Keyed.{found}
use Rattle.audit_tables.proofs.handles.HandleMap.item_at.Goals as goal

pub returns : goal.returns
returns c =
    c.copied.ensures ∙ (c.get.ensures.value ∙ (found serial_of c.args.serial c.self.inside.items.entries c.self.invariant.keyed ∙ ap (λ (l : Live). item_at l.items c.args.serial) c.self.view_is))
