use Rattle.std.proofs.Common.{◌≡◌, ◌++◌, drop}
use Rattle.idl_forms.specs.Forms.{members_form, arms_form, attrs_form}
use Rattle.idl_outline.specs.Specs.{member_fields, members_past, arm_fields, arm_labels, arms_past, attributes, attrs_past}
use Rattle.idl_walk.proofs.specs.+walk.Given as goal

-- what is left goes on from what was walked

abbrev pub invariant-members_walked-loop-member : goal.invariant-members_walked-loop-member
invariant-members_walked-loop-member l = record {
  fields : l.fields ++ member_fields l.default (members_form (drop l.member-index l.members)) l.outline ≡ member_fields l.default (members_form l.members) l.initial.outline;
  past : members_past l.default (members_form (drop l.member-index l.members)) l.outline ≡ members_past l.default (members_form l.members) l.initial.outline;
}

abbrev pub invariant-arms_walked-loop-arm : goal.invariant-arms_walked-loop-arm
invariant-arms_walked-loop-arm l = record {
  fields : l.fields ++ arm_fields l.default (arms_form (drop l.arm-index l.arms)) l.outline ≡ l.initial.fields ++ arm_fields l.default (arms_form l.arms) l.initial.outline;
  labels : l.labels ++ arm_labels l.default (arms_form (drop l.arm-index l.arms)) l.outline ≡ l.initial.labels ++ arm_labels l.default (arms_form l.arms) l.initial.outline;
  past : arms_past l.default (arms_form (drop l.arm-index l.arms)) l.outline ≡ arms_past l.default (arms_form l.arms) l.initial.outline;
}

abbrev pub invariant-attributes_walked-loop-attr : goal.invariant-attributes_walked-loop-attr
invariant-attributes_walked-loop-attr l = record {
  found : l.attributes ++ attributes l.default (attrs_form (drop l.attr-index l.attrs)) l.outline ≡ attributes l.default (attrs_form l.attrs) l.initial.outline;
  past : attrs_past l.default (attrs_form (drop l.attr-index l.attrs)) l.outline ≡ attrs_past l.default (attrs_form l.attrs) l.initial.outline;
}
