-- The forms of specs and attributes, by their parts.
use Rattle.std.proofs.Common.{◌≡◌, List, [], ◌∷◌, refl, sym, ◌∙◌, ap, Option, None, Some, Vec, Global, map, Box}
use Rattle.idl_tree.specs.declared.leaf.Ident.{Ident}
use Rattle.idl_tree.specs.declared.spec.AttrKind.{AttrKind}
use Rattle.idl_tree.specs.declared.spec.SpecKind.{SpecKind}
use Rattle.idl_tree.specs.declared.spec.ArmNode.{ArmNode}
use Rattle.idl_tree.specs.declared.spec.Attr.{Attr}
use Rattle.idl_tree.specs.declared.spec.Member.{Member}
use Rattle.idl_tree.specs.declared.spec.Spec.{Spec}
use Rattle.idl_tree.specs.declared.spec.Switch.{Switch}
use Rattle.idl_tree.specs.declared.spec.AttrKind.TheViews as views
use Rattle.idl_tree.specs.declared.spec.SpecKind.TheVariants as spec_kinds
use Rattle.idl_tree.specs.declared.spec.AttrKind.TheOpen as open_
use Rattle.idl_tree.specs.declared.spec.AttrKind.TheFolds.{fold-AttrKind, fold-SpecKind, fold-ArmNode, fold-Attr, fold-Member, fold-Spec, fold-Switch, fold-roll-AttrKind, fold-roll-SpecKind, map-ArmNode, fold_out-ArmNode, fold_out-Attr, fold_out-Member, fold_out-Spec, fold_out-Switch}
use Rattle.idl_forms.specs.Forms.{KindForm, OfTag, OfStruct, OfUnion, OfEnum, SpecForm, MemberForm, a_member, SwitchForm, no_switch, a_switch, ArmForm, member_arm, AttrForm, AttrKindForm, OfSwitchType, member_forms, arm_forms, attr_forms, if_there, arm_of, attr_kind_layer, kind_layer, arm_layer, attr_layer, member_layer, spec_layer, switch_layer, attr_kind_form, kind_form, spec_form, attr_form, attrs_form, member_form, members_form, switch_form, arm_form, arms_form}

each : {A B : Type 0} (f g : A → B) → ((x : A) → f x ≡ g x) → (xs : List A) → map f xs ≡ map g xs
each f g e [] = refl
each f g e (x ∷ xs) = λ j. e x j ∷ each f g e xs j

-- ---- each fold is the form of the part

spec_fold : (s : Spec) → fold-Spec AttrKindForm KindForm ArmForm AttrForm MemberForm SpecForm SwitchForm attr_kind_layer kind_layer arm_layer attr_layer member_layer spec_layer switch_layer s ≡ spec_form s
spec_fold s = fold_out-Spec AttrKindForm KindForm ArmForm AttrForm MemberForm SpecForm SwitchForm attr_kind_layer kind_layer arm_layer attr_layer member_layer spec_layer switch_layer s

attr_fold : (a : Attr) → fold-Attr AttrKindForm KindForm ArmForm AttrForm MemberForm SpecForm SwitchForm attr_kind_layer kind_layer arm_layer attr_layer member_layer spec_layer switch_layer a ≡ attr_form a
attr_fold a = fold_out-Attr AttrKindForm KindForm ArmForm AttrForm MemberForm SpecForm SwitchForm attr_kind_layer kind_layer arm_layer attr_layer member_layer spec_layer switch_layer a

member_fold : (m : Member) → fold-Member AttrKindForm KindForm ArmForm AttrForm MemberForm SpecForm SwitchForm attr_kind_layer kind_layer arm_layer attr_layer member_layer spec_layer switch_layer m ≡ member_form m
member_fold m =
    fold_out-Member AttrKindForm KindForm ArmForm AttrForm MemberForm SpecForm SwitchForm attr_kind_layer kind_layer arm_layer attr_layer member_layer spec_layer switch_layer m
    ∙ (λ j. a_member (attr_forms (each (fold-Attr AttrKindForm KindForm ArmForm AttrForm MemberForm SpecForm SwitchForm attr_kind_layer kind_layer arm_layer attr_layer member_layer spec_layer switch_layer) attr_form attr_fold (views.out-Member m).attrs.items j)) (spec_fold (views.out-Member m).spec j) (views.out-Member m).dtors.items)

switch_fold : (s : Switch) → fold-Switch AttrKindForm KindForm ArmForm AttrForm MemberForm SpecForm SwitchForm attr_kind_layer kind_layer arm_layer attr_layer member_layer spec_layer switch_layer s ≡ switch_form s
switch_fold s = fold_out-Switch AttrKindForm KindForm ArmForm AttrForm MemberForm SpecForm SwitchForm attr_kind_layer kind_layer arm_layer attr_layer member_layer spec_layer switch_layer s ∙ (λ j. a_switch (spec_fold (views.out-Switch s).spec.value j) (views.out-Switch s).name (views.out-Switch s).body)

arm_fold : (a : ArmNode) → fold-ArmNode AttrKindForm KindForm ArmForm AttrForm MemberForm SpecForm SwitchForm attr_kind_layer kind_layer arm_layer attr_layer member_layer spec_layer switch_layer a ≡ arm_form a
arm_fold a =
    fold_out-ArmNode AttrKindForm KindForm ArmForm AttrForm MemberForm SpecForm SwitchForm attr_kind_layer kind_layer arm_layer attr_layer member_layer spec_layer switch_layer a
    ∙ elim (views.out-ArmNode a).member as (λ o. arm_layer (map-ArmNode AttrKind SpecKind ArmNode Attr Member Spec Switch AttrKindForm KindForm ArmForm AttrForm MemberForm SpecForm SwitchForm (fold-AttrKind AttrKindForm KindForm ArmForm AttrForm MemberForm SpecForm SwitchForm attr_kind_layer kind_layer arm_layer attr_layer member_layer spec_layer switch_layer) (fold-SpecKind AttrKindForm KindForm ArmForm AttrForm MemberForm SpecForm SwitchForm attr_kind_layer kind_layer arm_layer attr_layer member_layer spec_layer switch_layer) (fold-ArmNode AttrKindForm KindForm ArmForm AttrForm MemberForm SpecForm SwitchForm attr_kind_layer kind_layer arm_layer attr_layer member_layer spec_layer switch_layer) (fold-Attr AttrKindForm KindForm ArmForm AttrForm MemberForm SpecForm SwitchForm attr_kind_layer kind_layer arm_layer attr_layer member_layer spec_layer switch_layer) (fold-Member AttrKindForm KindForm ArmForm AttrForm MemberForm SpecForm SwitchForm attr_kind_layer kind_layer arm_layer attr_layer member_layer spec_layer switch_layer) (fold-Spec AttrKindForm KindForm ArmForm AttrForm MemberForm SpecForm SwitchForm attr_kind_layer kind_layer arm_layer attr_layer member_layer spec_layer switch_layer) (fold-Switch AttrKindForm KindForm ArmForm AttrForm MemberForm SpecForm SwitchForm attr_kind_layer kind_layer arm_layer attr_layer member_layer spec_layer switch_layer) (record (views.out-ArmNode a) { member = o })) ≡ arm_of (views.out-ArmNode a).labels.items (if_there member_form o)) [
      | None ↦ refl
      | Some m ↦ ap (member_arm (views.out-ArmNode a).labels.items) (member_fold m)
    ]

-- ---- the variants that hold something

pub struct_none : (tag : Option Ident) → kind_form (views.Struct tag None) ≡ OfTag tag
unfolding views.roll-SpecKind denote.Hole.Carrier.roll
struct_none tag = fold-roll-SpecKind AttrKindForm KindForm ArmForm AttrForm MemberForm SpecForm SwitchForm attr_kind_layer kind_layer arm_layer attr_layer member_layer spec_layer switch_layer (open_.Struct tag None)

pub struct_some : (tag : Option Ident) (ms : Vec Member Global) → kind_form (views.Struct tag (Some ms)) ≡ OfStruct tag (members_form ms.items)
unfolding views.roll-SpecKind denote.Hole.Carrier.roll
struct_some tag ms = fold-roll-SpecKind AttrKindForm KindForm ArmForm AttrForm MemberForm SpecForm SwitchForm attr_kind_layer kind_layer arm_layer attr_layer member_layer spec_layer switch_layer (open_.Struct tag (Some ms)) ∙ (λ j. OfStruct tag (member_forms (each (fold-Member AttrKindForm KindForm ArmForm AttrForm MemberForm SpecForm SwitchForm attr_kind_layer kind_layer arm_layer attr_layer member_layer spec_layer switch_layer) member_form member_fold ms.items j)))

arms_are : (arms : Vec ArmNode Global) → arm_forms (map (fold-ArmNode AttrKindForm KindForm ArmForm AttrForm MemberForm SpecForm SwitchForm attr_kind_layer kind_layer arm_layer attr_layer member_layer spec_layer switch_layer) arms.items) ≡ arms_form arms.items
arms_are arms = λ j. arm_forms (each (fold-ArmNode AttrKindForm KindForm ArmForm AttrForm MemberForm SpecForm SwitchForm attr_kind_layer kind_layer arm_layer attr_layer member_layer spec_layer switch_layer) arm_form arm_fold arms.items j)

pub union_none : (tag : Option Ident) (arms : Vec ArmNode Global) → kind_form (views.Union tag None arms) ≡ OfUnion tag no_switch (arms_form arms.items)
unfolding views.roll-SpecKind denote.Hole.Carrier.roll
union_none tag arms = fold-roll-SpecKind AttrKindForm KindForm ArmForm AttrForm MemberForm SpecForm SwitchForm attr_kind_layer kind_layer arm_layer attr_layer member_layer spec_layer switch_layer (open_.Union tag None arms) ∙ ap (OfUnion tag no_switch) (arms_are arms)

pub union_some : (tag : Option Ident) (s : Switch) (arms : Vec ArmNode Global) → kind_form (views.Union tag (Some s) arms) ≡ OfUnion tag (switch_form s) (arms_form arms.items)
unfolding views.roll-SpecKind denote.Hole.Carrier.roll
union_some tag s arms = fold-roll-SpecKind AttrKindForm KindForm ArmForm AttrForm MemberForm SpecForm SwitchForm attr_kind_layer kind_layer arm_layer attr_layer member_layer spec_layer switch_layer (open_.Union tag (Some s) arms) ∙ (λ j. OfUnion tag (switch_fold s j) (arms_are arms j))

pub enum_is : (tag : Option Ident) (names : Vec Ident Global) → kind_form (spec_kinds.Enum tag names) ≡ OfEnum tag names.items
unfolding views.roll-SpecKind denote.Hole.Carrier.roll
enum_is tag names = fold-roll-SpecKind AttrKindForm KindForm ArmForm AttrForm MemberForm SpecForm SwitchForm attr_kind_layer kind_layer arm_layer attr_layer member_layer spec_layer switch_layer (open_.Enum tag names)

pub switch_type_is : (b : Box Spec Global) → attr_kind_form (views.SwitchType b) ≡ OfSwitchType (spec_form b.value)
unfolding views.roll-AttrKind denote.Hole.Carrier.roll
switch_type_is b = fold-roll-AttrKind AttrKindForm KindForm ArmForm AttrForm MemberForm SpecForm SwitchForm attr_kind_layer kind_layer arm_layer attr_layer member_layer spec_layer switch_layer (open_.SwitchType b) ∙ ap OfSwitchType (spec_fold b.value)

pub ruleset kinds = (struct_none, struct_some, union_none, union_some, enum_is)

pub ruleset marks = (switch_type_is)
