use Rattle.std.proofs.Common.{◌≡◌, drop}
use Rattle.idl_forms.specs.Forms.{members_form, arms_form, attrs_form}
use Rattle.idl_outline.specs.Holding.{members_use, arms_use, attrs_use}
use Rattle.idl_walk.proofs.holding.+uses.Given as goal

-- what is left decides

abbrev pub invariant-members_use-loop-member : goal.invariant-members_use-loop-member
invariant-members_use-loop-member l = members_use l.tag l.direct (members_form (drop l.member-index l.members)) ≡ members_use l.tag l.direct (members_form l.members)

abbrev pub invariant-arms_use-loop-arm : goal.invariant-arms_use-loop-arm
invariant-arms_use-loop-arm l = arms_use l.tag l.direct (arms_form (drop l.arm-index l.arms)) ≡ arms_use l.tag l.direct (arms_form l.arms)

abbrev pub invariant-attrs_use-loop-attr : goal.invariant-attrs_use-loop-attr
invariant-attrs_use-loop-attr l = attrs_use l.tag (attrs_form (drop l.attr-index l.attrs)) ≡ attrs_use l.tag (attrs_form l.attrs)
