use Rattle.std.proofs.Common.{◌≡◌, None, ap, sym, ◌∙◌}
use Rattle.std.specs.Map.{values_of}
use Rattle.call_table.specs.Rows.{blocker_of}
use Rattle.audit_tables.proofs.Rows.{table_rises}
use Rattle.audit_tables.proofs.Indexed.{free, stopped, untold, untrue}
use Rattle.audit_tables.proofs.calls.CallMapOpenRows.is_free.Goals as goal

pub returns : goal.returns
returns c =
    let rows = values_of c.self.inside.rows.entries in
    let same : blocker_of c.args.slots.now c.args.call rows ≡ blocker_of c.args.slots.now c.args.call c.args.self.now = ap (blocker_of c.args.slots.now c.args.call) c.self.view_is in (
      λ t. sym same ∙ free rows c.self.inside.index c.args.call c.args.slots.now c.self.invariant.index_is (table_rises c.self.inside.rows.entries c.self.invariant.table) (λ b. untold c.any_stands_before.result t (c.any_stands_before.ensures.1 b)),
      λ e. untrue c.any_stands_before.result (λ t. stopped rows c.self.inside.index c.args.call c.args.slots.now c.self.invariant.index_is (c.any_stands_before.ensures.0 t) (same ∙ e)),
    )
