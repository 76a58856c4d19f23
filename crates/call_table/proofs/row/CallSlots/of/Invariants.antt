use Rattle.std.proofs.Common.{◌≡◌, length, take}
use Rattle.call_table.proofs.row.CallSlots.of.Given as goal

abbrev pub invariant-loop-i : goal.invariant-loop-i
invariant-loop-i l = (take l.i l.all ≡ take l.i l.slots) × (length l.all ≡ 4)
