use Rattle.std.proofs.Common.{◌≡◌, ◌+◌, drop}
use Rattle.idl_forms.specs.Forms.{members_form, arms_form, attrs_form}
use Rattle.idl_outline.specs.Within.{members_within, arms_within, attrs_within}
use Rattle.idl_walk.proofs.within.+within.Given as goal

abbrev pub invariant-members_within-loop-member : goal.invariant-members_within-loop-member
invariant-members_within-loop-member l = l.all + members_within (members_form (drop l.member-index l.members)) ≡ members_within (members_form l.members)

abbrev pub invariant-arms_within-loop-arm : goal.invariant-arms_within-loop-arm
invariant-arms_within-loop-arm l = l.all + arms_within (arms_form (drop l.arm-index l.arms)) ≡ arms_within (arms_form l.arms)

abbrev pub invariant-attrs_within-loop-attr : goal.invariant-attrs_within-loop-attr
invariant-attrs_within-loop-attr l = l.all + attrs_within (attrs_form (drop l.attr-index l.attrs)) ≡ attrs_within (attrs_form l.attrs)
