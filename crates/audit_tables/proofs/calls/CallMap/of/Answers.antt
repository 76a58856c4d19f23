use Rattle.std.proofs.Common.{◌≡◌, refl, sym, ◌∙◌, ap}
use Rattle.handle_model.specs.declared.entry.Slot.{Slot}
use Rattle.call_table.specs.declared.row.Row.{Row}
use Rattle.call_table.specs.Shown.{base_row}
use Rattle.audit_tables.proofs.Started.{row_free, row_step, row_like}
use Rattle.audit_tables.proofs.calls.CallMap.of.Goals as goal

pub put-requires : goal.put-requires
put-requires c =
    row_free c.args.home c.args.base.now c.loop-call.calls c.as_slice-call-items.result.now c.loop-call.call-index c.call-item.result c.requires c.as_slice-call-items.ensures c.loop-call-test.true c.call-item.is c.loop-call.invariant

pub loop-call-preserved : goal.loop-call-preserved
loop-call-preserved c =
    row_step c.args.home c.args.base.now c.loop-call.calls c.in_ok-calls.calls c.as_slice-call-items.result.now c.loop-call.call-index c.call-item.result _ c.requires c.as_slice-call-items.ensures c.loop-call-test.true c.call-item.is c.loop-call.invariant (row_like c.args.base.now.count c.from.result c.call-item.result c.of.result c.from.ensures (c.of.ensures ∙ c.as_slice.ensures)) c.in_ok-calls.ensures
