use Rattle.std.proofs.Common.{◌∙◌, ap}
use Rattle.call_table.specs.Rows.{over}
use Rattle.audit_tables.proofs.Indexed.{last_tells}
use Rattle.audit_tables.proofs.calls.CallMap.is_below.Goals as goal

pub returns-in-Some : goal.returns-in-Some
returns-in-Some c =
    last_tells c.self.inside.rows c.in-Some.last.now c.in-Some.field-0-1.now c.args.call c.self.invariant.table c.in-Some.ensures.value c.in-Some.ensures.greatest ∙ ap (over c.args.call) c.self.view_is
