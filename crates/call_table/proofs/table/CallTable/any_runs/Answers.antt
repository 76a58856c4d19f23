use Rattle.std.proofs.Common.{◌==◌, not, ◌∙◌, ap, sym}
use Rattle.std.specs.List.{list_any}
use Rattle.call_table.specs.Rows.{is_running}
use Rattle.call_table.proofs.Tallied.{any_total}
use Rattle.call_table.proofs.table.CallTable.any_runs.Goals as goal

pub returns : goal.returns
returns c =
    ap (λ n. not (n == 0)) c.self.invariant.1.running_is ∙ (sym (any_total c.self.inside.rows.items) ∙ ap (λ v. list_any is_running v.rows) c.self.view_is)
