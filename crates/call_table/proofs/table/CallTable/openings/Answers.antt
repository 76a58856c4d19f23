use Rattle.std.proofs.Common.{◌∙◌, ap, sym}
use Rattle.call_table.specs.Rows.{openings_of}
use Rattle.call_table.proofs.Tallied.{openings_total}
use Rattle.call_table.proofs.table.CallTable.openings.Goals as goal

pub returns : goal.returns
returns c =
    c.self.invariant.1.openings_is ∙ (sym (openings_total c.self.inside.rows.items) ∙ ap (λ v. openings_of v.rows) c.self.view_is)
