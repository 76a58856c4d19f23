use Rattle.std.proofs.Common.{sym, subst}
use Rattle.std.specs.Map.{values_of}
use Rattle.call_table.specs.Kept.{Rises}
use Rattle.audit_tables.specs.Calls.{IsFirstWaiting}
use Rattle.audit_tables.proofs.Rows.{table_rises}
use Rattle.audit_tables.proofs.Indexed.{first_is}
use Rattle.audit_tables.proofs.calls.CallMap.first_waiting.Goals as goal

pub returns-clause-first : goal.returns-clause-first
returns-clause-first c =
    subst (λ rows. IsFirstWaiting rows c.args.conn c.first_of.result) c.self.view_is (first_is (values_of c.self.inside.rows.entries) c.self.inside.index c.args.conn c.first_of.result c.self.invariant.index_is (table_rises c.self.inside.rows.entries c.self.invariant.table) c.first_of.ensures)

pub returns-clause-order : goal.returns-clause-order
returns-clause-order c = subst (Rises 0) c.self.view_is (table_rises c.self.inside.rows.entries c.self.invariant.table)
