use Rattle.std.proofs.Common.{◌≡◌, ◌+◌, true, sym, subst}
use Rattle.audit_tables.specs.Conns.{over}
use Rattle.audit_tables.proofs.Held.{base_over}
use Rattle.audit_tables.proofs.tables.AuditTables.of.Goals as goal

pub invariant_of-result : goal.invariant_of-result
invariant_of-result c =
    subst (λ all. over (c.args.base.now.joins + 1) all ≡ true) (sym c.in_ok-of-3.ensures) (base_over c.args.base.now.count c.args.base.now.joins c.args.base.now.conns c.requires.conns_within)
