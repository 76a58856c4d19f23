use Rattle.std.proofs.Common.{◌≡◌, map, take}
use Rattle.idl_forms.specs.Forms.{member_form, arm_form, attr_form}
use Rattle.idl_forms.proofs.copied_types.+copy.Given as goal

abbrev pub invariant-members_copied-loop-item : goal.invariant-members_copied-loop-item
invariant-members_copied-loop-item l = map member_form l.copies.items ≡ map member_form (take l.item-index l.list)

abbrev pub invariant-arms_copied-loop-item : goal.invariant-arms_copied-loop-item
invariant-arms_copied-loop-item l = map arm_form l.copies.items ≡ map arm_form (take l.item-index l.list)

abbrev pub invariant-attrs_copied-loop-item : goal.invariant-attrs_copied-loop-item
invariant-attrs_copied-loop-item l = map attr_form l.copies.items ≡ map attr_form (take l.item-index l.list)
