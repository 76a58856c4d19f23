use Rattle.std.proofs.Common.{arith}
use Rattle.handle_table.proofs.Placed.{stored_grown, stored_more}
use Rattle.handle_table.proofs.serial_index.SerialIndex.reserve.Goals as goal
use Rattle.handle_table.proofs.serial_index.SerialIndex.reserve.Goals.{then-capacity-len+in_ok-self-inside, else-capacity-len}

pub invariant_of-self-2 : goal.invariant_of-self-2
invariant_of-self-2 c = elim c.if-capacity-len.branch [
  | then-capacity-len+in_ok-self-inside w ↦ rw w.self-inside-is (stored_grown c.self.inside.handles _ c.self.inside.places _ c.self.inside.room c.args.n c.self.invariant w.in_ok-self-inside.ensures c.reserve.ensures.items c.in_ok-reserve.ensures.ok)
  | else-capacity-len w ↦ rw w.self-inside-is (stored_more c.self.inside.handles c.self.inside.places _ c.self.inside.room c.args.n c.self.invariant (omega (arith, c.capacity.ensures.value, c.len.ensures, w.if-capacity-len.false, c.capacity.ensures.holds_all)) c.reserve.ensures.items c.in_ok-reserve.ensures.ok)
]
