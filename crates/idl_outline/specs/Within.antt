-- How many structures and unions stand within a spec, so that a structure's number is known where its body begins.
use Rattle.std.specs.Prelude.{ℕ, ◌+◌}
use Rattle.idl_forms.specs.Forms.{SpecForm, a_spec, KindForm, OfStruct, OfUnion, SwitchForm, no_switch, a_switch, MemberForm, a_member, MemberForms, no_member, then_member, ArmForm, member_arm, empty_arm, ArmForms, no_arm, then_arm, AttrKindForm, OfSwitchType, AttrForm, an_attr, AttrForms, no_attr, then_attr}

abbrev mutual
  pub within : SpecForm → ℕ
  within (a_spec at k) = kind_within k

  pub kind_within : KindForm → ℕ
  kind_within (OfStruct tag ms) = members_within ms + 1
  kind_within (OfUnion tag s arms) = switch_within s + arms_within arms + 1
  kind_within _ = 0

  pub switch_within : SwitchForm → ℕ
  switch_within no_switch = 0
  switch_within (a_switch s i body) = within s

  pub member_within : MemberForm → ℕ
  member_within (a_member as' s ds) = attrs_within as' + within s

  pub members_within : MemberForms → ℕ
  members_within no_member = 0
  members_within (then_member m ms) = member_within m + members_within ms

  pub arm_within : ArmForm → ℕ
  arm_within (member_arm ls m) = member_within m
  arm_within (empty_arm ls) = 0

  pub arms_within : ArmForms → ℕ
  arms_within no_arm = 0
  arms_within (then_arm a rest) = arm_within a + arms_within rest

  pub mark_within : AttrKindForm → ℕ
  mark_within (OfSwitchType s) = within s
  mark_within _ = 0

  pub attr_within : AttrForm → ℕ
  attr_within (an_attr at m) = mark_within m

  pub attrs_within : AttrForms → ℕ
  attrs_within no_attr = 0
  attrs_within (then_attr a rest) = attr_within a + attrs_within rest
