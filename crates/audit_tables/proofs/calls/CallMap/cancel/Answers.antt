use Rattle.std.proofs.Common.{◌≡◌, Some, None, refl, sym, ◌∙◌, ap, subst}
use Rattle.std.specs.Prelude.{IfOk}
use Rattle.call_table.specs.Rows.{row_at, cancelled, without}
use Rattle.audit_tables.specs.Calls.{with_row}
use Rattle.audit_tables.proofs.Rows.{row_number, none_gone, gone, put_back, none_marked}
use Rattle.audit_tables.proofs.calls.CallMap.cancel.Goals as goal

pub put-requires : goal.put-requires
put-requires c =
    let there : row_at c.args.self c.args.call ≡ Some c.in-Some.row = sym c.take_out-calls.ensures.row ∙ c.in-Some.is in
    let number = row_number c.args.self c.args.call c.in-Some.row there in
    subst (λ rows. row_at rows c.in-Some.row.call ≡ None) (sym c.take_out-calls.ensures.rows) (subst (λ n. row_at (without c.args.call c.args.self) n ≡ None) (sym number) (gone c.args.self c.args.call))

pub returns-in-Some : goal.returns-in-Some
returns-in-Some c =
    let there : row_at c.args.self c.args.call ≡ Some c.in-Some.row = sym c.take_out-calls.ensures.row ∙ c.in-Some.is in
    let back = put_back cancelled c.args.call c.args.self c.in-Some.row (λ r. refl) c.take_out-calls.ensures.order there in
    subst (λ rows. IfOk c.put.result (λ calls. calls ≡ rows)) (ap (with_row (cancelled c.in-Some.row)) c.take_out-calls.ensures.rows ∙ back) c.put.ensures

pub returns-in-None : goal.returns-in-None
returns-in-None c =
    let none : row_at c.args.self c.args.call ≡ None = sym c.take_out-calls.ensures.row ∙ c.in-None.is in
    c.take_out-calls.ensures.rows ∙ (none_gone c.args.self c.args.call none ∙ sym (none_marked cancelled c.args.call c.args.self none))
