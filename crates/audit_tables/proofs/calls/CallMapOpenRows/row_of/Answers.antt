use Rattle.std.proofs.Common.{◌∙◌, ap}
use Rattle.call_table.specs.Rows.{row_at}
use Rattle.audit_tables.specs.Calls.{call_of}
use Rattle.audit_tables.proofs.Keyed.{found}
use Rattle.audit_tables.proofs.calls.CallMapOpenRows.row_of.Goals as goal

pub returns : goal.returns
returns c =
    c.get.ensures.value ∙ (found call_of c.args.call c.self.inside.rows.entries c.self.invariant.table.keyed ∙ ap (λ rows. row_at rows c.args.call) c.self.view_is)
