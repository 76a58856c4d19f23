-- A tree without where its lists lie in memory: two trees whose forms are equal are the same in every item.
use Rattle.std.specs.Prelude.{◌≡◌, ℕ, Bool, List, [], ◌∷◌, map, Option, Some, None}
use Rattle.uuid.specs.declared.Uuid.{Uuid}
use Rattle.idl_tree.specs.declared.leaf.Ident.{Ident}
use Rattle.idl_tree.specs.declared.leaf.Num.{Num}
use Rattle.idl_tree.specs.declared.leaf.Pk.{Pk}
use Rattle.idl_tree.specs.declared.leaf.Base.{Base}
use Rattle.idl_tree.specs.declared.leaf.SizeRef.{SizeRef}
use Rattle.idl_tree.specs.declared.leaf.Dtor.{Dtor}
use Rattle.idl_tree.specs.declared.spec.SpecKind.{SpecKind}
use Rattle.idl_tree.specs.declared.spec.AttrKind.{AttrKind}
use Rattle.idl_tree.specs.declared.spec.ArmNode.{ArmNode}
use Rattle.idl_tree.specs.declared.spec.Attr.{Attr}
use Rattle.idl_tree.specs.declared.spec.Member.{Member}
use Rattle.idl_tree.specs.declared.spec.Spec.{Spec}
use Rattle.idl_tree.specs.declared.spec.Switch.{Switch}
use Rattle.idl_tree.specs.declared.spec.Label.{Label}
use Rattle.idl_tree.specs.declared.spec.AttrKind.TheOpen as open_
use Rattle.idl_tree.specs.declared.spec.AttrKind.TheFolds.{fold-AttrKind, fold-SpecKind}
use Rattle.idl_tree.specs.declared.spec.AttrKind.TheViews.{out-Member, out-Switch, out-ArmNode}
use Rattle.idl_tree.specs.declared.declaration.Ast.{Ast}
use Rattle.idl_tree.specs.declared.declaration.Decl.{Decl}
use Rattle.idl_tree.specs.declared.declaration.DeclKind.{DeclKind}
use Rattle.idl_tree.specs.declared.declaration.DeclKind.TheVariants as decls
use Rattle.idl_tree.specs.declared.declaration.ParamNode.{ParamNode}
use Rattle.idl_tree.specs.declared.file.FileAttr.{FileAttr}
use Rattle.idl_tree.specs.declared.file.FileAttrKind.{FileAttrKind}
use Rattle.idl_tree.specs.declared.file.FileAttrKind.TheVariants as file_attrs

mutual
  pub data KindForm : Type 0 where
    OfBase : Base → KindForm
    OfName : Ident → KindForm
    OfVoid : KindForm
    OfHandle : KindForm
    OfStatus : KindForm
    -- a structure without members, and one with them
    OfTag : Option Ident → KindForm
    OfStruct : Option Ident → MemberForms → KindForm
    OfUnion : Option Ident → SwitchForm → ArmForms → KindForm
    OfEnum : Option Ident → List Ident → KindForm

  pub data SpecForm : Type 0 where
    a_spec : ℕ → KindForm → SpecForm

  pub data MemberForm : Type 0 where
    a_member : AttrForms → SpecForm → List Dtor → MemberForm

  pub data MemberForms : Type 0 where
    no_member : MemberForms
    then_member : MemberForm → MemberForms → MemberForms

  -- a union's switch, if it has one: the type and the name of its tag, and the name of its body
  pub data SwitchForm : Type 0 where
    no_switch : SwitchForm
    a_switch : SpecForm → Ident → Option Ident → SwitchForm

  -- an arm without a member, and with one
  pub data ArmForm : Type 0 where
    empty_arm : List Label → ArmForm
    member_arm : List Label → MemberForm → ArmForm

  pub data ArmForms : Type 0 where
    no_arm : ArmForms
    then_arm : ArmForm → ArmForms → ArmForms

  pub data AttrForm : Type 0 where
    an_attr : ℕ → AttrKindForm → AttrForm

  pub data AttrForms : Type 0 where
    no_attr : AttrForms
    then_attr : AttrForm → AttrForms → AttrForms

  pub data AttrKindForm : Type 0 where
    OfIn : AttrKindForm
    OfOut : AttrKindForm
    OfPointer : Pk → AttrKindForm
    OfText : AttrKindForm
    OfIdempotent : AttrKindForm
    OfMaybe : AttrKindForm
    OfContext : AttrKindForm
    OfSerialize : AttrKindForm
    OfNoserialize : AttrKindForm
    OfSizeIs : SizeRef → AttrKindForm
    OfMaxIs : SizeRef → AttrKindForm
    OfLengthIs : SizeRef → AttrKindForm
    OfSwitchIs : Bool → Ident → AttrKindForm
    OfSwitchType : SpecForm → AttrKindForm
    OfRange : Num → Num → AttrKindForm

abbrev pub member_forms : List MemberForm → MemberForms
member_forms [] = no_member
member_forms (m ∷ ms) = then_member m (member_forms ms)

abbrev pub arm_forms : List ArmForm → ArmForms
arm_forms [] = no_arm
arm_forms (a ∷ as') = then_arm a (arm_forms as')

abbrev pub attr_forms : List AttrForm → AttrForms
attr_forms [] = no_attr
attr_forms (a ∷ as') = then_attr a (attr_forms as')

pub data FileKindForm : Type 0 where
  OfUuid : Uuid → FileKindForm
  OfVersion : Num → Option Num → FileKindForm
  OfPointerDefault : Pk → FileKindForm
  OfEndpoint : List (List ℕ) → FileKindForm

pub record FileForm : Type 0 where
  pub at : ℕ
  pub what : FileKindForm

pub record ParamForm : Type 0 where
  pub attrs : AttrForms
  pub spec : SpecForm
  pub dtor : Dtor

pub data DeclKindForm : Type 0 where
  OfConst : Base → Ident → Num → DeclKindForm
  OfTypedef : AttrForms → SpecForm → List Dtor → DeclKindForm
  OfLone : AttrForms → SpecForm → DeclKindForm
  OfOp : AttrForms → SpecForm → Ident → Bool → List ParamForm → DeclKindForm

pub record DeclForm : Type 0 where
  pub at : ℕ
  pub what : DeclKindForm

pub record TreeForm : Type 0 where
  pub attributes : List FileForm
  pub name : Ident
  pub decls : List DeclForm

-- ---- one layer, with the forms of what it holds

abbrev pub if_there : {A B : Type 0} → (A → B) → Option A → Option B
if_there g None = None
if_there g (Some x) = Some (g x)

abbrev pub struct_form : Option Ident → Option (List MemberForm) → KindForm
struct_form tag None = OfTag tag
struct_form tag (Some ms) = OfStruct tag (member_forms ms)

abbrev pub union_form : Option Ident → Option SwitchForm → List ArmForm → KindForm
union_form tag None as' = OfUnion tag no_switch (arm_forms as')
union_form tag (Some s) as' = OfUnion tag s (arm_forms as')

abbrev pub arm_of : List Label → Option MemberForm → ArmForm
arm_of ls None = empty_arm ls
arm_of ls (Some m) = member_arm ls m

abbrev pub attr_kind_layer : open_.AttrKind-F AttrKindForm KindForm ArmForm AttrForm MemberForm SpecForm SwitchForm → AttrKindForm
attr_kind_layer open_.In = OfIn
attr_kind_layer open_.Out = OfOut
attr_kind_layer (open_.Pointer p) = OfPointer p
attr_kind_layer open_.Text = OfText
attr_kind_layer open_.Idempotent = OfIdempotent
attr_kind_layer open_.Maybe = OfMaybe
attr_kind_layer open_.Handle = OfContext
attr_kind_layer open_.HandleSerialize = OfSerialize
attr_kind_layer open_.HandleNoserialize = OfNoserialize
attr_kind_layer (open_.SizeIs r) = OfSizeIs r
attr_kind_layer (open_.MaxIs r) = OfMaxIs r
attr_kind_layer (open_.LengthIs r) = OfLengthIs r
attr_kind_layer (open_.SwitchIs star i) = OfSwitchIs star i
attr_kind_layer (open_.SwitchType spec) = OfSwitchType spec.value
attr_kind_layer (open_.Range low high) = OfRange low high

abbrev pub kind_layer : open_.SpecKind-F AttrKindForm KindForm ArmForm AttrForm MemberForm SpecForm SwitchForm → KindForm
kind_layer (open_.Base b) = OfBase b
kind_layer (open_.Named i) = OfName i
kind_layer open_.Void = OfVoid
kind_layer open_.HandleT = OfHandle
kind_layer open_.ErrorStatus = OfStatus
kind_layer (open_.Struct tag None) = OfTag tag
kind_layer (open_.Struct tag (Some ms)) = OfStruct tag (member_forms ms.items)
kind_layer (open_.Union tag switch arms) = union_form tag switch arms.items
kind_layer (open_.Enum tag names) = OfEnum tag names.items

abbrev pub arm_layer : open_.ArmNode-F AttrKindForm KindForm ArmForm AttrForm MemberForm SpecForm SwitchForm → ArmForm
arm_layer a = arm_of a.labels.items a.member

abbrev pub attr_layer : open_.Attr-F AttrKindForm KindForm ArmForm AttrForm MemberForm SpecForm SwitchForm → AttrForm
attr_layer a = an_attr a.at a.what

abbrev pub member_layer : open_.Member-F AttrKindForm KindForm ArmForm AttrForm MemberForm SpecForm SwitchForm → MemberForm
member_layer m = a_member (attr_forms m.attrs.items) m.spec m.dtors.items

abbrev pub spec_layer : open_.Spec-F AttrKindForm KindForm ArmForm AttrForm MemberForm SpecForm SwitchForm → SpecForm
spec_layer s = a_spec s.at s.what

abbrev pub switch_layer : open_.Switch-F AttrKindForm KindForm ArmForm AttrForm MemberForm SpecForm SwitchForm → SwitchForm
switch_layer s = a_switch s.spec.value s.name s.body

abbrev pub attr_kind_form : AttrKind → AttrKindForm
attr_kind_form = fold-AttrKind AttrKindForm KindForm ArmForm AttrForm MemberForm SpecForm SwitchForm attr_kind_layer kind_layer arm_layer attr_layer member_layer spec_layer switch_layer

abbrev pub kind_form : SpecKind → KindForm
kind_form = fold-SpecKind AttrKindForm KindForm ArmForm AttrForm MemberForm SpecForm SwitchForm attr_kind_layer kind_layer arm_layer attr_layer member_layer spec_layer switch_layer

abbrev pub spec_form : Spec → SpecForm
spec_form s = a_spec s.at (kind_form s.what)

abbrev pub attr_form : Attr → AttrForm
attr_form a = an_attr a.at (attr_kind_form a.what)

abbrev pub attrs_form : List Attr → AttrForms
attrs_form as' = attr_forms (map attr_form as')

abbrev pub member_form : Member → MemberForm
member_form m = a_member (attrs_form (out-Member m).attrs.items) (spec_form (out-Member m).spec) (out-Member m).dtors.items

abbrev pub members_form : List Member → MemberForms
members_form ms = member_forms (map member_form ms)

abbrev pub switch_form : Switch → SwitchForm
switch_form s = a_switch (spec_form (out-Switch s).spec.value) (out-Switch s).name (out-Switch s).body

abbrev pub arm_form : ArmNode → ArmForm
arm_form a = arm_of (out-ArmNode a).labels.items (if_there member_form (out-ArmNode a).member)

abbrev pub arms_form : List ArmNode → ArmForms
arms_form as' = arm_forms (map arm_form as')

abbrev pub file_kind_form : FileAttrKind → FileKindForm
file_kind_form (file_attrs.Uuid id) = OfUuid id
file_kind_form (file_attrs.Version major minor) = OfVersion major minor
file_kind_form (file_attrs.PointerDefault p) = OfPointerDefault p
file_kind_form (file_attrs.Endpoint texts) = OfEndpoint texts.items

abbrev pub file_form : FileAttr → FileForm
file_form a = record { at = a.at; what = file_kind_form a.what }

abbrev pub param_form : ParamNode → ParamForm
param_form p = record { attrs = attrs_form p.attrs.items; spec = spec_form p.spec; dtor = p.dtor }

abbrev pub decl_kind_form : DeclKind → DeclKindForm
decl_kind_form (decls.Const base name value) = OfConst base name value
decl_kind_form (decls.Typedef attrs spec dtors) = OfTypedef (attrs_form attrs.items) (spec_form spec) dtors.items
decl_kind_form (decls.Lone attrs spec) = OfLone (attrs_form attrs.items) (spec_form spec)
decl_kind_form (decls.Op attrs spec name void_word params) = OfOp (attrs_form attrs.items) (spec_form spec) name void_word (map param_form params.items)

abbrev pub decl_form : Decl → DeclForm
decl_form d = record { at = d.at; what = decl_kind_form d.what }

abbrev pub tree_form : Ast → TreeForm
tree_form t = record { attributes = map file_form t.attributes.items; name = t.name; decls = map decl_form t.decls.items }

-- The trees are the same in every item.
abbrev pub Same : Ast → Ast → Type 0
Same t u = tree_form t ≡ tree_form u
