use Rattle.std.proofs.Common.{◌≡◌, take}
use Rattle.idl_forms.proofs.copied_leaves.dtors.Given as goal

abbrev pub invariant-loop-item : goal.invariant-loop-item
invariant-loop-item l = l.copies.items ≡ take l.item-index l.list
