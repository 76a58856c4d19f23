-- A structure that holds itself without a pointer between.
use Rattle.std.specs.Prelude.{ℕ, Bool, true, false, ◌&&◌, List, Option, Some, None, if◌then◌else◌, unwrap_or, bytes_eq}
use Rattle.std.specs.Option.{option_or}
use Rattle.idl_tree.specs.declared.leaf.Ident.{Ident}
use Rattle.idl_forms.specs.Forms.{SpecForm, a_spec, KindForm, OfTag, OfStruct, OfUnion, SwitchForm, no_switch, a_switch, MemberForm, a_member, MemberForms, no_member, then_member, ArmForm, member_arm, empty_arm, ArmForms, no_arm, then_arm, AttrKindForm, OfSwitchType, AttrForm, an_attr, AttrForms, no_attr, then_attr}
use Rattle.idl_names.specs.Declarators.{by_value}

abbrev pub is_tag : Option Ident → List ℕ → Bool
is_tag None tag = false
is_tag (Some i) tag = bytes_eq i.text tag

abbrev mutual
  -- within the body of the structure with that tag: the first place where the tag stands for the structure itself, without a pointer
  -- between (true), or is declared for another structure, for which it stands from there on (false). direct: no pointer so far
  pub spec_use : List ℕ → Bool → SpecForm → Option Bool
  spec_use tag direct (a_spec at k) = kind_use tag direct k

  pub kind_use : List ℕ → Bool → KindForm → Option Bool
  kind_use tag direct (OfTag t) = if direct && is_tag t tag then Some true else None
  kind_use tag direct (OfStruct t ms) = if is_tag t tag then Some false else members_use tag direct ms
  kind_use tag direct (OfUnion t s arms) = option_or (switch_use tag s) (arms_use tag direct arms)
  kind_use tag direct _ = None

  -- what a switch or an attribute says isn't held
  pub switch_use : List ℕ → SwitchForm → Option Bool
  switch_use tag no_switch = None
  switch_use tag (a_switch s i body) = spec_use tag false s

  pub mark_use : List ℕ → AttrKindForm → Option Bool
  mark_use tag (OfSwitchType s) = spec_use tag false s
  mark_use tag _ = None

  pub attr_use : List ℕ → AttrForm → Option Bool
  attr_use tag (an_attr at m) = mark_use tag m

  pub attrs_use : List ℕ → AttrForms → Option Bool
  attrs_use tag no_attr = None
  attrs_use tag (then_attr a as') = option_or (attr_use tag a) (attrs_use tag as')

  pub member_use : List ℕ → Bool → MemberForm → Option Bool
  member_use tag direct (a_member as' s ds) = option_or (attrs_use tag as') (spec_use tag (direct && by_value ds) s)

  pub members_use : List ℕ → Bool → MemberForms → Option Bool
  members_use tag direct no_member = None
  members_use tag direct (then_member m ms) = option_or (member_use tag direct m) (members_use tag direct ms)

  pub arm_use : List ℕ → Bool → ArmForm → Option Bool
  arm_use tag direct (member_arm ls m) = member_use tag direct m
  arm_use tag direct (empty_arm ls) = None

  pub arms_use : List ℕ → Bool → ArmForms → Option Bool
  arms_use tag direct no_arm = None
  arms_use tag direct (then_arm a as') = option_or (arm_use tag direct a) (arms_use tag direct as')

-- a structure with a tag holds itself by value
abbrev pub tag_holds : Option Ident → MemberForms → Bool
tag_holds None ms = false
tag_holds (Some i) ms = unwrap_or (members_use i.text true ms) false
