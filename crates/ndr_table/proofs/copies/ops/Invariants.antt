use Rattle.std.proofs.Common.{◌≡◌, map, take}
use Rattle.ndr_table.specs.Tables.{op_form}
use Rattle.ndr_table.proofs.copies.ops.Given as goal

abbrev pub invariant-loop-item : goal.invariant-loop-item
invariant-loop-item l = map op_form l.copies.items ≡ map op_form (take l.item-index l.list)
