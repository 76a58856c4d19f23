use Rattle.std.proofs.Common.{◌≡◌, Some, ◌∙◌, ap, sym, subst}
use Rattle.std.specs.Map.{values_of}
use Rattle.std.specs.BTreeMap.{is_at}
use Rattle.std.specs.Ordering.{nat_cmp}
use Rattle.call_table.specs.Kept.{Rises}
use Rattle.call_table.specs.Rows.{row_at, without}
use Rattle.audit_tables.specs.Calls.{call_of}
use Rattle.audit_tables.specs.Keyed.{IsTable}
use Rattle.audit_tables.proofs.Keyed.{found, removed, table_removed}
use Rattle.audit_tables.proofs.Rows.{row_number, table_rises}
use Rattle.audit_tables.proofs.Indexed.{DropsRow, drops_row, index_out}
use Rattle.audit_tables.proofs.calls.CallMap.take_out.Goals as goal

pub invariant_of-calls : goal.invariant_of-calls
invariant_of-calls c =
    let old = c.calls.invariant in
    let rows = values_of c.calls.inside.rows.entries in
    let table : IsTable call_of c.remove.new.self.entries = subst (λ es. IsTable call_of es) (sym c.remove.ensures.entries) (table_removed call_of (is_at (nat_cmp c.args.call)) c.calls.inside.rows.entries old.table) in
    let here : row_at rows c.args.call ≡ Some c.in-Some.row = sym (found call_of c.args.call c.calls.inside.rows.entries old.table.keyed) ∙ (sym c.remove.ensures.value ∙ c.in-Some.is) in
    let number : c.in-Some.row.call ≡ c.args.call = row_number rows c.args.call c.in-Some.row here in
    let drops = drops_row c.calls.inside.rows c.remove.new.self c.args.call old.table table c.remove.ensures.updates.0 in
    record {
      table = table;
      index_is = index_out rows (values_of c.remove.new.self.entries) c.calls.inside.index c.in-Some.row c.leave.new.self old.index_is c.leave.ensures (subst (λ n. DropsRow rows n (values_of c.remove.new.self.entries)) (sym number) drops) (subst (λ n. row_at rows n ≡ Some c.in-Some.row) (sym number) here);
    }

pub returns-in-Some-clause-rows : goal.returns-in-Some-clause-rows
returns-in-Some-clause-rows c =
    ap values_of c.remove.ensures.entries ∙ (removed call_of c.args.call c.calls.inside.rows.entries c.calls.invariant.table ∙ ap (without c.args.call) c.calls.view_is)

pub returns-in-Some-clause-row : goal.returns-in-Some-clause-row
returns-in-Some-clause-row c =
    sym c.in-Some.is ∙ (c.remove.ensures.value ∙ (found call_of c.args.call c.calls.inside.rows.entries c.calls.invariant.table.keyed ∙ ap (λ rows. row_at rows c.args.call) c.calls.view_is))

pub returns-in-Some-clause-order : goal.returns-in-Some-clause-order
returns-in-Some-clause-order c = subst (Rises 0) c.calls.view_is (table_rises c.calls.inside.rows.entries c.calls.invariant.table)

pub returns-in-None-clause-rows : goal.returns-in-None-clause-rows
returns-in-None-clause-rows c =
    ap values_of c.remove.ensures.entries ∙ (removed call_of c.args.call c.calls.inside.rows.entries c.calls.invariant.table ∙ ap (without c.args.call) c.calls.view_is)

pub returns-in-None-clause-row : goal.returns-in-None-clause-row
returns-in-None-clause-row c =
    sym c.in-None.is ∙ (c.remove.ensures.value ∙ (found call_of c.args.call c.calls.inside.rows.entries c.calls.invariant.table.keyed ∙ ap (λ rows. row_at rows c.args.call) c.calls.view_is))

pub returns-in-None-clause-order : goal.returns-in-None-clause-order
returns-in-None-clause-order c = subst (Rises 0) c.calls.view_is (table_rises c.calls.inside.rows.entries c.calls.invariant.table)
