use Rattle.std.proofs.Common.{◌≡◌, ◌+◌, true, sym, subst}
use Rattle.audit_tables.specs.Conns.{over}
use Rattle.audit_tables.proofs.Held.{left_over}
use Rattle.audit_tables.proofs.tables.AuditTables.leave.Goals as goal

pub invariant_of-tables : goal.invariant_of-tables
invariant_of-tables c =
    subst (λ all. over (c.tables.inside.joins + 1) all ≡ true) (sym c.leave.ensures) (left_over (c.tables.inside.joins + 1) c.args.conn c.tables.inside.conns c.tables.invariant)
