use Rattle.std.proofs.Common.{◌≡◌, ◌+◌, true, ◌∙◌, ap, sym, subst}
use Rattle.journal_tables.specs.Tables.{Tables}
use Rattle.audit_tables.specs.Conns.{over}
use Rattle.audit_tables.proofs.Held.{joined_over}
use Rattle.audit_tables.proofs.tables.AuditTables.join.Goals as goal

pub invariant_of-tables : goal.invariant_of-tables
invariant_of-tables c =
    let next : c.args.conn ≡ c.tables.inside.joins + 1 = c.requires ∙ ap (λ (t : Tables). t.joins + 1) (sym c.tables.view_is) in
    subst (λ all. over (c.args.conn + 1) all ≡ true) (sym c.in_ok-join.ensures) (joined_over c.args.conn c.args.place c.tables.inside.conns (subst (λ n. over n c.tables.inside.conns ≡ true) (sym next) c.tables.invariant))
