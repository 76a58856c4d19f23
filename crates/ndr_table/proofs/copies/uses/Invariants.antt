use Rattle.std.proofs.Common.{◌≡◌, take}
use Rattle.ndr_table.proofs.copies.uses.Given as goal

abbrev pub invariant-loop-item : goal.invariant-loop-item
invariant-loop-item l = l.copies.items ≡ take l.item-index l.list
