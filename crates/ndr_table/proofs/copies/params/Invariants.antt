use Rattle.std.proofs.Common.{◌≡◌, map, take}
use Rattle.ndr_table.specs.Tables.{param_form}
use Rattle.ndr_table.proofs.copies.params.Given as goal

abbrev pub invariant-loop-item : goal.invariant-loop-item
invariant-loop-item l = map param_form l.copies.items ≡ map param_form (take l.item-index l.list)
