use Rattle.std.proofs.Common.{◌∙◌, ap, sym, subst}
use Rattle.std.specs.Map.{values_of}
use Rattle.std.specs.BTreeMap.{is_at}
use Rattle.std.specs.Ordering.{nat_cmp}
use Rattle.journal_tables.specs.Conns.{without}
use Rattle.audit_tables.specs.Conns.{number_of}
use Rattle.audit_tables.specs.Keyed.{IsTable}
use Rattle.audit_tables.proofs.Keyed.{removed, table_removed}
use Rattle.audit_tables.proofs.conns.ConnMap.leave.Goals as goal

pub invariant_of-self : goal.invariant_of-self
invariant_of-self c =
    subst (λ es. IsTable number_of es) (sym c.remove.ensures.entries) (table_removed number_of (is_at (nat_cmp c.args.conn)) c.self.inside.conns.entries c.self.invariant)

pub returns : goal.returns
returns c =
    ap values_of c.remove.ensures.entries ∙ (removed number_of c.args.conn c.self.inside.conns.entries c.self.invariant ∙ ap (without c.args.conn) c.self.view_is)
