use Rattle.std.proofs.Common.{◌≡◌, map, take}
use Rattle.idl_forms.specs.Forms.{param_form}
use Rattle.idl_forms.proofs.copied_tree.params.Given as goal

abbrev pub invariant-loop-item : goal.invariant-loop-item
invariant-loop-item l = map param_form l.copies.items ≡ map param_form (take l.item-index l.list)
