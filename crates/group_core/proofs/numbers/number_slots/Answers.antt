use Rattle.std.proofs.Common.{arith}
use Rattle.group_core.proofs.Numbered.{Step, numbered_more, counted_more, kept_length, next_within}
use Rattle.group_core.proofs.numbers.number_slots.Goals as goal

pub loop-i-preserved : goal.loop-i-preserved
loop-i-preserved c =
    let step : Step c.loop-i.number c.loop-i.i c.loop-i.slots c.slot_at-slot.result c.next_serial-number.result c.with_serial.result c.set.new.self =
    record { at = c.slot_at-slot.ensures; next = c.next_serial-number.ensures; one = c.with_serial.ensures; all = c.set.ensures } in
    (numbered_more _ _ step c.loop-i.invariant.0, counted_more _ step c.loop-i.invariant.1, kept_length _ step c.loop-i.invariant.2)

pub overflow_cast-number : goal.overflow_cast-number
overflow_cast-number c =
    let within = next_within _ _ c.loop-i.i c.loop-i.slots c.slot_at-slot.result c.slot_at-slot.ensures c.next_serial-number.ensures in
    omega (arith, within, c.loop-i.invariant.1)
