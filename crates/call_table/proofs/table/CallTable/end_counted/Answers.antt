use Rattle.std.proofs.Common.{◌∙◌, ap, sym}
use Rattle.std.specs.List.{remove}
use Rattle.call_table.specs.Rows.{without}
use Rattle.call_table.proofs.Search.{remove_row, without_none}
use Rattle.call_table.proofs.table.CallTable.end_counted.Goals as goal

pub returns-in-Some-clause-rows : goal.returns-in-Some-clause-rows
returns-in-Some-clause-rows g c =
    let at = rw c.in-Some.is at c.seek.ensures in
    c.remove.ensures.rows
    ∙ (ap (λ v. remove v.rows c.in-Some.at) (sym c.self.view_is)
    ∙ (remove_row 0 _ _ _ c.self.invariant.0.rises at ∙ ap (λ v. without c.args.call v.rows) c.self.view_is))

pub returns-in-None-clause-rows : goal.returns-in-None-clause-rows
returns-in-None-clause-rows g c =
    let none = rw c.in-None.is at c.seek.ensures in
    sym (without_none _ _ none ∙ ap (λ v. v.rows) c.self.view_is) ∙ ap (λ v. without c.args.call v.rows) c.self.view_is
