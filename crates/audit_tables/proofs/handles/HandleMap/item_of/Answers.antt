use Rattle.std.proofs.Common.{◌≡◌, ◌%◌, ◌^◌, ◌∙◌, ap, sym, subst}
use Rattle.handle_model.specs.declared.entry.Home.{Home}
use Rattle.handle_model.specs.Slots.{wire_of}
use Rattle.handle_table.specs.Kept.{Rises}
use Rattle.audit_tables.specs.Handles.{Live}
use Rattle.audit_tables.proofs.Held.{table_rises, by_wire, not_wire}
use Rattle.audit_tables.proofs.handles.HandleMap.item_of.Goals as goal

pub returns-then-eq : goal.returns-then-eq
returns-then-eq c =
    let home = ap (λ (l : Live). l.home) c.self.view_is in
    let made : c.wire.result ≡ wire_of c.args.self.now.home (c.args.wire.now.id % 2 ^ 32) = c.wire.ensures ∙ ap (λ (h : Home). wire_of h (c.args.wire.now.id % 2 ^ 32)) home in
    c.item_at.ensures ∙ by_wire c.args.self.now.home c.args.self.now.items c.args.wire.now c.wire.result made (sym c.eq.ensures ∙ c.if-eq.true)

pub returns-else-eq : goal.returns-else-eq
returns-else-eq c =
    let home = ap (λ (l : Live). l.home) c.self.view_is in
    let made : c.wire.result ≡ wire_of c.args.self.now.home (c.args.wire.now.id % 2 ^ 32) = c.wire.ensures ∙ ap (λ (h : Home). wire_of h (c.args.wire.now.id % 2 ^ 32)) home in
    let rises = subst (λ (l : Live). Rises 0 l.items) c.self.view_is (table_rises c.self.inside.items.entries c.self.invariant) in
    not_wire c.args.self.now.home c.args.self.now.items c.args.wire.now c.wire.result rises made (sym c.eq.ensures ∙ c.if-eq.false)
