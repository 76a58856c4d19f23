use Rattle.std.proofs.Common.{◌≡◌, None, rules, ◌∙◌, ap, sym, subst, refl}
use Rattle.std.specs.Map.{values_of}
use Rattle.call_table.specs.Rows.{row_at}
use Rattle.audit_tables.specs.Calls.{call_of, with_row}
use Rattle.audit_tables.specs.Keyed.{IsTable}
use Rattle.audit_tables.proofs.Keyed.{put_is, table_put}
use Rattle.audit_tables.proofs.Indexed.{index_put, puts_row}
use Rattle.audit_tables.proofs.calls.CallMap.put.Goals as goal

pub invariant_of-calls : goal.invariant_of-calls
invariant_of-calls c =
    let old = c.calls.invariant in
    let free : row_at (values_of c.calls.inside.rows.entries) c.args.row.call ≡ None = ap (λ rows. row_at rows c.args.row.call) c.calls.view_is ∙ c.requires in
    let table : IsTable call_of c.insert.new.self.entries = subst (λ es. IsTable call_of es) (sym c.in_ok-insert.ensures.entries) (table_put call_of c.args.row.call c.args.row c.calls.inside.rows.entries old.table refl (search rules)) in
    record {
      table = table;
      index_is = index_put (values_of c.calls.inside.rows.entries) (values_of c.insert.new.self.entries) c.calls.inside.index c.args.row c.enter.new.self old.index_is c.in_ok-enter.ensures (puts_row c.calls.inside.rows c.insert.new.self c.args.row old.table table c.in_ok-insert.ensures.updates.0) free;
    }

pub returns : goal.returns
returns c =
    ap values_of c.in_ok-insert.ensures.entries ∙ (put_is call_of c.args.row.call c.args.row c.calls.inside.rows.entries c.calls.invariant.table ∙ ap (with_row c.args.row) c.calls.view_is)
