-- Forms with each place moved as given.
use Rattle.std.specs.Prelude.{◌≡◌, ℕ, List, map, Option, Some, None}
use Rattle.idl_tree.specs.declared.leaf.Ident.{Ident}
use Rattle.idl_tree.specs.declared.leaf.Num.{Num}
use Rattle.idl_tree.specs.declared.leaf.SizeRef.{SizeRef}
use Rattle.idl_tree.specs.declared.leaf.SizeRef.TheVariants as refs
use Rattle.idl_tree.specs.declared.leaf.ArraySize.{ArraySize}
use Rattle.idl_tree.specs.declared.leaf.ArraySize.TheVariants as sizes
use Rattle.idl_tree.specs.declared.leaf.Dtor.{Dtor}
use Rattle.idl_tree.specs.declared.spec.Label.{Label}
use Rattle.idl_tree.specs.declared.spec.LabelKind.{LabelKind}
use Rattle.idl_tree.specs.declared.spec.LabelKind.TheVariants as labels
use Rattle.idl_tree.specs.declared.declaration.Ast.{Ast}
use Rattle.idl_forms.specs.Forms.{KindForm, OfBase, OfName, OfVoid, OfHandle, OfStatus, OfTag, OfStruct, OfUnion, OfEnum, SpecForm, a_spec, MemberForm, a_member, MemberForms, no_member, then_member, SwitchForm, no_switch, a_switch, ArmForm, empty_arm, member_arm, ArmForms, no_arm, then_arm, AttrForm, an_attr, AttrForms, no_attr, then_attr, AttrKindForm, OfSizeIs, OfMaxIs, OfLengthIs, OfSwitchIs, OfSwitchType, OfRange, FileKindForm, OfVersion, FileForm, ParamForm, DeclKindForm, OfConst, OfTypedef, OfLone, OfOp, DeclForm, TreeForm, if_there, tree_form}

module _ (f : ℕ → ℕ) where
  abbrev pub ident_moved : Ident → Ident
  ident_moved i = record i { at = f i.at }

  abbrev pub num_moved : Num → Num
  num_moved n = record n { at = f n.at }

  abbrev pub ref_moved : SizeRef → SizeRef
  ref_moved (refs.Named star i) = refs.Named star (ident_moved i)
  ref_moved (refs.Number n) = refs.Number (num_moved n)

  abbrev pub size_moved : ArraySize → ArraySize
  size_moved sizes.Empty = sizes.Empty
  size_moved (sizes.Number n) = sizes.Number (num_moved n)
  size_moved (sizes.Named i) = sizes.Named (ident_moved i)
  size_moved sizes.Star = sizes.Star

  abbrev pub dtor_moved : Dtor → Dtor
  dtor_moved d = record { stars = d.stars; name = ident_moved d.name; array = if_there size_moved d.array }

  abbrev pub label_kind_moved : LabelKind → LabelKind
  label_kind_moved (labels.Number n) = labels.Number (num_moved n)
  label_kind_moved (labels.Named i) = labels.Named (ident_moved i)
  label_kind_moved labels.Default = labels.Default

  abbrev pub label_moved : Label → Label
  label_moved l = record { at = f l.at; what = label_kind_moved l.what }

  -- ---- specs and what they hold

  abbrev mutual
    pub kind_moved : KindForm → KindForm
    kind_moved (OfName i) = OfName (ident_moved i)
    kind_moved (OfTag tag) = OfTag (if_there ident_moved tag)
    kind_moved (OfStruct tag ms) = OfStruct (if_there ident_moved tag) (members_moved ms)
    kind_moved (OfUnion tag s as') = OfUnion (if_there ident_moved tag) (switch_moved s) (arms_moved as')
    kind_moved (OfEnum tag names) = OfEnum (if_there ident_moved tag) (map ident_moved names)
    kind_moved k = k

    pub spec_moved : SpecForm → SpecForm
    spec_moved (a_spec at k) = a_spec (f at) (kind_moved k)

    pub member_moved : MemberForm → MemberForm
    member_moved (a_member as' s ds) = a_member (attrs_moved as') (spec_moved s) (map dtor_moved ds)

    pub members_moved : MemberForms → MemberForms
    members_moved no_member = no_member
    members_moved (then_member m ms) = then_member (member_moved m) (members_moved ms)

    pub switch_moved : SwitchForm → SwitchForm
    switch_moved no_switch = no_switch
    switch_moved (a_switch s i body) = a_switch (spec_moved s) (ident_moved i) (if_there ident_moved body)

    pub arm_moved : ArmForm → ArmForm
    arm_moved (empty_arm ls) = empty_arm (map label_moved ls)
    arm_moved (member_arm ls m) = member_arm (map label_moved ls) (member_moved m)

    pub arms_moved : ArmForms → ArmForms
    arms_moved no_arm = no_arm
    arms_moved (then_arm a as') = then_arm (arm_moved a) (arms_moved as')

    pub attr_moved : AttrForm → AttrForm
    attr_moved (an_attr at k) = an_attr (f at) (attr_kind_moved k)

    pub attrs_moved : AttrForms → AttrForms
    attrs_moved no_attr = no_attr
    attrs_moved (then_attr a as') = then_attr (attr_moved a) (attrs_moved as')

    pub attr_kind_moved : AttrKindForm → AttrKindForm
    attr_kind_moved (OfSizeIs r) = OfSizeIs (ref_moved r)
    attr_kind_moved (OfMaxIs r) = OfMaxIs (ref_moved r)
    attr_kind_moved (OfLengthIs r) = OfLengthIs (ref_moved r)
    attr_kind_moved (OfSwitchIs star i) = OfSwitchIs star (ident_moved i)
    attr_kind_moved (OfSwitchType s) = OfSwitchType (spec_moved s)
    attr_kind_moved (OfRange low high) = OfRange (num_moved low) (num_moved high)
    attr_kind_moved k = k

  -- ---- declarations, and a whole tree

  abbrev pub file_kind_moved : FileKindForm → FileKindForm
  file_kind_moved (OfVersion major minor) = OfVersion (num_moved major) (if_there num_moved minor)
  file_kind_moved k = k

  abbrev pub file_moved : FileForm → FileForm
  file_moved a = record { at = f a.at; what = file_kind_moved a.what }

  abbrev pub param_moved : ParamForm → ParamForm
  param_moved p = record { attrs = attrs_moved p.attrs; spec = spec_moved p.spec; dtor = dtor_moved p.dtor }

  abbrev pub decl_kind_moved : DeclKindForm → DeclKindForm
  decl_kind_moved (OfConst base name value) = OfConst base (ident_moved name) (num_moved value)
  decl_kind_moved (OfTypedef as' s ds) = OfTypedef (attrs_moved as') (spec_moved s) (map dtor_moved ds)
  decl_kind_moved (OfLone as' s) = OfLone (attrs_moved as') (spec_moved s)
  decl_kind_moved (OfOp as' s name void_word ps) = OfOp (attrs_moved as') (spec_moved s) (ident_moved name) void_word (map param_moved ps)

  abbrev pub decl_moved : DeclForm → DeclForm
  decl_moved d = record { at = f d.at; what = decl_kind_moved d.what }

  abbrev pub tree_moved : TreeForm → TreeForm
  tree_moved t = record { attributes = map file_moved t.attributes; name = ident_moved t.name; decls = map decl_moved t.decls }

abbrev pub nowhere : ℕ → ℕ
nowhere at = 0

-- The trees are the same but for their places.
abbrev pub Alike : Ast → Ast → Type 0
Alike t u = tree_moved nowhere (tree_form t) ≡ tree_moved nowhere (tree_form u)
