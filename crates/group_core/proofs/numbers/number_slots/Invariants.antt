use Rattle.std.proofs.Common.{◌≡◌, ◌+◌, ◌++◌, length, take, drop}
use Rattle.std.specs.List.{filter}
use Rattle.handle_model.specs.Slots.{opens}
use Rattle.handle_model.specs.Journal.{filled}
use Rattle.group_core.proofs.numbers.number_slots.Given as goal

abbrev pub invariant-loop-i : goal.invariant-loop-i
invariant-loop-i l =
    (take l.i l.slots ++ filled l.number (drop l.i l.slots) ≡ filled l.fn.from l.fn.slots)
    × (l.number + length (filter opens (drop l.i l.slots)) ≡ l.fn.from + length (filter opens l.fn.slots))
    × (length l.slots ≡ length l.fn.slots)
