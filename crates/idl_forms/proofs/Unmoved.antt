-- Where no place is moved, a form stays what it is.
use Rattle.std.proofs.Common.{◌≡◌, ℕ, List, [], ◌∷◌, map, refl, ap, None, Some, Option}
use Rattle.idl_tree.specs.declared.leaf.Ident.{Ident}
use Rattle.idl_tree.specs.declared.leaf.Num.{Num}
use Rattle.idl_tree.specs.declared.leaf.SizeRef.{SizeRef}
use Rattle.idl_tree.specs.declared.leaf.SizeRef.TheVariants as refs
use Rattle.idl_tree.specs.declared.leaf.ArraySize.{ArraySize}
use Rattle.idl_tree.specs.declared.leaf.ArraySize.TheVariants as sizes
use Rattle.idl_tree.specs.declared.leaf.Dtor.{Dtor}
use Rattle.idl_tree.specs.declared.spec.Label.{Label}
use Rattle.idl_tree.specs.declared.spec.LabelKind.{LabelKind}
use Rattle.idl_tree.specs.declared.spec.LabelKind.TheVariants as labels
use Rattle.idl_forms.specs.Forms.{KindForm, OfBase, OfName, OfVoid, OfHandle, OfStatus, OfTag, OfStruct, OfUnion, OfEnum, SpecForm, a_spec, MemberForm, a_member, MemberForms, no_member, then_member, SwitchForm, no_switch, a_switch, ArmForm, empty_arm, member_arm, ArmForms, no_arm, then_arm, AttrForm, an_attr, AttrForms, no_attr, then_attr, AttrKindForm, OfIn, OfOut, OfPointer, OfText, OfIdempotent, OfMaybe, OfContext, OfSerialize, OfNoserialize, OfSizeIs, OfMaxIs, OfLengthIs, OfSwitchIs, OfSwitchType, OfRange, FileKindForm, OfUuid, OfVersion, OfPointerDefault, OfEndpoint, FileForm, ParamForm, DeclKindForm, OfConst, OfTypedef, OfLone, OfOp, DeclForm, TreeForm, if_there}
use Rattle.idl_forms.specs.Moved.{ident_moved, num_moved, ref_moved, size_moved, dtor_moved, label_kind_moved, label_moved, kind_moved, spec_moved, member_moved, members_moved, switch_moved, arm_moved, arms_moved, attr_moved, attrs_moved, attr_kind_moved, file_kind_moved, file_moved, param_moved, decl_kind_moved, decl_moved, tree_moved}

abbrev pub unmoved : ℕ → ℕ
unmoved at = at

each : {A : Type 0} (g : A → A) → ((x : A) → g x ≡ x) → (xs : List A) → map g xs ≡ xs
each g e [] = refl
each g e (x ∷ xs) = λ j. e x j ∷ each g e xs j

-- ---- leaves

tag_same : (tag : Option Ident) → if_there (ident_moved unmoved) tag ≡ tag
tag_same None = refl
tag_same (Some i) = refl

ref_same : (r : SizeRef) → ref_moved unmoved r ≡ r
ref_same (refs.Named star i) = refl
ref_same (refs.Number n) = refl

array_same : (a : Option ArraySize) → if_there (size_moved unmoved) a ≡ a
array_same None = refl
array_same (Some sizes.Empty) = refl
array_same (Some (sizes.Number n)) = refl
array_same (Some (sizes.Named i)) = refl
array_same (Some sizes.Star) = refl

dtor_same : (d : Dtor) → dtor_moved unmoved d ≡ d
dtor_same d = λ j. record { stars = d.stars; name = d.name; array = array_same d.array j }

label_kind_same : (k : LabelKind) → label_kind_moved unmoved k ≡ k
label_kind_same (labels.Number n) = refl
label_kind_same (labels.Named i) = refl
label_kind_same labels.Default = refl

label_same : (l : Label) → label_moved unmoved l ≡ l
label_same l = λ j. record { at = l.at; what = label_kind_same l.what j }

-- ---- specs and what they hold

mutual
  kind_same : (k : KindForm) → kind_moved unmoved k ≡ k
  kind_same (OfBase b) = refl
  kind_same (OfName i) = refl
  kind_same OfVoid = refl
  kind_same OfHandle = refl
  kind_same OfStatus = refl
  kind_same (OfTag tag) = λ j. OfTag (tag_same tag j)
  kind_same (OfStruct tag ms) = λ j. OfStruct (tag_same tag j) (members_same ms j)
  kind_same (OfUnion tag s as') = λ j. OfUnion (tag_same tag j) (switch_same s j) (arms_same as' j)
  kind_same (OfEnum tag names) = λ j. OfEnum (tag_same tag j) (each (ident_moved unmoved) (λ i. refl) names j)

  spec_same : (s : SpecForm) → spec_moved unmoved s ≡ s
  spec_same (a_spec at k) = λ j. a_spec at (kind_same k j)

  member_same : (m : MemberForm) → member_moved unmoved m ≡ m
  member_same (a_member as' s ds) = λ j. a_member (attrs_same as' j) (spec_same s j) (each (dtor_moved unmoved) dtor_same ds j)

  members_same : (ms : MemberForms) → members_moved unmoved ms ≡ ms
  members_same no_member = refl
  members_same (then_member m ms) = λ j. then_member (member_same m j) (members_same ms j)

  switch_same : (s : SwitchForm) → switch_moved unmoved s ≡ s
  switch_same no_switch = refl
  switch_same (a_switch s i body) = λ j. a_switch (spec_same s j) i (tag_same body j)

  arm_same : (a : ArmForm) → arm_moved unmoved a ≡ a
  arm_same (empty_arm ls) = λ j. empty_arm (each (label_moved unmoved) label_same ls j)
  arm_same (member_arm ls m) = λ j. member_arm (each (label_moved unmoved) label_same ls j) (member_same m j)

  arms_same : (as' : ArmForms) → arms_moved unmoved as' ≡ as'
  arms_same no_arm = refl
  arms_same (then_arm a as') = λ j. then_arm (arm_same a j) (arms_same as' j)

  attr_same : (a : AttrForm) → attr_moved unmoved a ≡ a
  attr_same (an_attr at k) = λ j. an_attr at (attr_kind_same k j)

  attrs_same : (as' : AttrForms) → attrs_moved unmoved as' ≡ as'
  attrs_same no_attr = refl
  attrs_same (then_attr a as') = λ j. then_attr (attr_same a j) (attrs_same as' j)

  attr_kind_same : (k : AttrKindForm) → attr_kind_moved unmoved k ≡ k
  attr_kind_same OfIn = refl
  attr_kind_same OfOut = refl
  attr_kind_same (OfPointer p) = refl
  attr_kind_same OfText = refl
  attr_kind_same OfIdempotent = refl
  attr_kind_same OfMaybe = refl
  attr_kind_same OfContext = refl
  attr_kind_same OfSerialize = refl
  attr_kind_same OfNoserialize = refl
  attr_kind_same (OfSizeIs r) = λ j. OfSizeIs (ref_same r j)
  attr_kind_same (OfMaxIs r) = λ j. OfMaxIs (ref_same r j)
  attr_kind_same (OfLengthIs r) = λ j. OfLengthIs (ref_same r j)
  attr_kind_same (OfSwitchIs star i) = refl
  attr_kind_same (OfSwitchType s) = λ j. OfSwitchType (spec_same s j)
  attr_kind_same (OfRange low high) = refl

-- ---- declarations, and a whole tree

minor_same : (o : Option Num) → if_there (num_moved unmoved) o ≡ o
minor_same None = refl
minor_same (Some n) = refl

file_kind_same : (k : FileKindForm) → file_kind_moved unmoved k ≡ k
file_kind_same (OfUuid id) = refl
file_kind_same (OfVersion major minor) = λ j. OfVersion major (minor_same minor j)
file_kind_same (OfPointerDefault p) = refl
file_kind_same (OfEndpoint texts) = refl

file_same : (a : FileForm) → file_moved unmoved a ≡ a
file_same a = λ j. record { at = a.at; what = file_kind_same a.what j }

param_same : (p : ParamForm) → param_moved unmoved p ≡ p
param_same p = λ j. record { attrs = attrs_same p.attrs j; spec = spec_same p.spec j; dtor = dtor_same p.dtor j }

decl_kind_same : (k : DeclKindForm) → decl_kind_moved unmoved k ≡ k
decl_kind_same (OfConst base name value) = refl
decl_kind_same (OfTypedef as' s ds) = λ j. OfTypedef (attrs_same as' j) (spec_same s j) (each (dtor_moved unmoved) dtor_same ds j)
decl_kind_same (OfLone as' s) = λ j. OfLone (attrs_same as' j) (spec_same s j)
decl_kind_same (OfOp as' s name void_word ps) = λ j. OfOp (attrs_same as' j) (spec_same s j) name void_word (each (param_moved unmoved) param_same ps j)

decl_same : (d : DeclForm) → decl_moved unmoved d ≡ d
decl_same d = λ j. record { at = d.at; what = decl_kind_same d.what j }

pub tree_unmoved : (t : TreeForm) → tree_moved unmoved t ≡ t
tree_unmoved t = λ j. record { attributes = each (file_moved unmoved) file_same t.attributes j; name = t.name; decls = each (decl_moved unmoved) decl_same t.decls j }
