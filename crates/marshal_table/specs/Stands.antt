-- Each name that the outline of a tree reads stands for something, so that nothing stands in for it in the table: a type, a tag and a
-- constant are declared before, as one of that kind; a size or a switch is a parameter or a member of the same list; each conformant
-- array that is no string has a size; and the interface has a uuid. X_stands says so of all that an X holds, at the past before it.
use Rattle.std.specs.Prelude.{◌≡◌, ◌+◌, ◌==◌, Bool, true, false, ◌&&◌, ◌||◌, List, [], ◌∷◌, ◌++◌, map, Option, Some, None, is_some, bytes_eq, if◌then◌else◌}
use Rattle.std.specs.List.{list_any, list_all, flat_map}
use Rattle.idl_tree.specs.declared.leaf.Ident.{Ident}
use Rattle.idl_tree.specs.declared.leaf.Num.{Num}
use Rattle.idl_tree.specs.declared.leaf.Pk.{Pk}
use Rattle.idl_tree.specs.declared.leaf.SizeRef.{SizeRef}
use Rattle.idl_tree.specs.declared.leaf.SizeRef.TheVariants as refs
use Rattle.idl_tree.specs.declared.leaf.ArraySize.{ArraySize}
use Rattle.idl_tree.specs.declared.leaf.ArraySize.TheVariants as sizes
use Rattle.idl_tree.specs.declared.leaf.Dtor.{Dtor}
use Rattle.idl_tree.specs.declared.spec.Label.{Label}
use Rattle.idl_tree.specs.declared.spec.LabelKind.{LabelKind}
use Rattle.idl_tree.specs.declared.spec.LabelKind.TheVariants as labels
use Rattle.idl_tree.specs.declared.declaration.Ast.{Ast}
use Rattle.idl_names.specs.declared.place.Place.{Place}
use Rattle.idl_names.specs.declared.place.Place.TheVariants as places
use Rattle.idl_names.specs.Members.{lone_member, result_member, param_member}
use Rattle.idl_names.specs.Attributes.{pointer_default, says, says_string}
use Rattle.idl_names.specs.Symbols.{ByName}
use Rattle.idl_forms.specs.Forms as idl
use Rattle.idl_outline.specs.declared.setting.Setting.{Setting}
use Rattle.idl_outline.specs.Names.{Past, bodies, constants_of, type_named, tag_named, tag_given}
use Rattle.idl_outline.specs.Holding.{tag_holds}
use Rattle.idl_outline.specs.Within.{members_within}
use Rattle.idl_outline.specs.Parts.{setting_at, alone, labels_past, other_tag_past, struct_past}
use Rattle.idl_outline.specs.Specs.{attributes, spec_past, switch_past, attr_past, attrs_past, member_past, arm_past}
use Rattle.idl_outline.specs.Outline.{named_past, decl_past}
use Rattle.marshal_table.specs.Interfaces.{first_in, uuid_in}

-- ---- the names of a body's members, and of the parameters that are listed

abbrev pub dtor_names : List Dtor → List Ident
dtor_names ds = map (λ d. d.name) ds

abbrev pub names_of : idl.MemberForm → List Ident
names_of (idl.a_member as' s ds) = dtor_names ds

abbrev pub member_names : idl.MemberForms → List Ident
member_names idl.no_member = []
member_names (idl.then_member m ms) = names_of m ++ member_names ms

abbrev pub arm_dtors : idl.ArmForm → List Ident
arm_dtors (idl.member_arm ls m) = names_of m
arm_dtors (idl.empty_arm ls) = []

abbrev pub arm_names : idl.ArmForms → List Ident
arm_names idl.no_arm = []
arm_names (idl.then_arm a rest) = arm_dtors a ++ arm_names rest

abbrev pub is_binding_kind : idl.KindForm → Bool
is_binding_kind idl.OfHandle = true
is_binding_kind _ = false

abbrev pub is_binding : idl.SpecForm → Bool
is_binding (idl.a_spec at k) = is_binding_kind k

abbrev pub listed_name : idl.ParamForm → List Ident
listed_name n = if is_binding n.spec then [] else n.dtor.name ∷ []

abbrev pub param_names : List idl.ParamForm → List Ident
param_names ns = flat_map listed_name ns

-- ---- names

-- a structure with neither tag nor members has no name; no text has one
abbrev pub tag_stands : Bool → Option Ident → Past → Bool
tag_stands pointed None p = true
tag_stands pointed (Some i) p = is_some (tag_named pointed i.text p)

abbrev pub label_stands : ByName Num → LabelKind → Bool
label_stands constants (labels.Named i) = is_some (constants i.text)
label_stands constants _ = true

abbrev pub labels_stand : ByName Num → List Label → Bool
labels_stand constants ls = list_all (λ l. label_stands constants l.what) ls

-- ---- declarators, with the names of the list in which they stand

abbrev pub is_among : List Ident → Ident → Bool
is_among names i = list_any (λ n. bytes_eq n.text i.text) names

abbrev pub ref_stands : List Ident → SizeRef → Bool
ref_stands names (refs.Number n) = true
ref_stands names (refs.Named star i) = is_among names i

abbrev pub count_stands : List Ident → idl.AttrKindForm → Bool
count_stands names (idl.OfSizeIs r) = ref_stands names r
count_stands names (idl.OfMaxIs r) = ref_stands names r
count_stands names (idl.OfLengthIs r) = ref_stands names r
count_stands names (idl.OfSwitchIs star i) = is_among names i
count_stands names _ = true

abbrev pub counts_stand : List Ident → idl.AttrForms → Bool
counts_stand names idl.no_attr = true
counts_stand names (idl.then_attr (idl.an_attr at m) rest) = count_stands names m && counts_stand names rest

-- size_is or max_is
abbrev pub says_most : idl.AttrKindForm → Bool
says_most (idl.OfSizeIs r) = true
says_most (idl.OfMaxIs r) = true
says_most _ = false

-- a size is given, or it is a string
abbrev pub is_sized : idl.AttrForms → Dtor → Bool
is_sized as' d = says says_most as' || (says says_string as' && d.stars == 0)

abbrev pub size_stands : Bool → ByName Num → ArraySize → Bool
size_stands sized constants sizes.Empty = sized
size_stands sized constants sizes.Star = sized
size_stands sized constants (sizes.Number n) = true
size_stands sized constants (sizes.Named i) = is_some (constants i.text)

abbrev pub array_stands : Bool → ByName Num → Option ArraySize → Bool
array_stands sized constants None = true
array_stands sized constants (Some size) = size_stands sized constants size

abbrev pub dtors_stand : ByName Num → idl.AttrForms → List Dtor → Bool
dtors_stand constants as' ds = list_all (λ d. array_stands (is_sized as' d) constants d.array) ds

-- ---- specs, attributes and what they hold

abbrev mutual
  pub spec_stands : Setting → idl.SpecForm → Past → Bool
  spec_stands g (idl.a_spec at k) p = kind_stands g k p

  pub kind_stands : Setting → idl.KindForm → Past → Bool
  kind_stands g (idl.OfName i) p = is_some (type_named i.text p)
  kind_stands g (idl.OfTag tag) p = tag_stands g.pointed tag p
  kind_stands g (idl.OfStruct tag ms) p = members_stand g.default (member_names ms) ms (struct_past tag (tag_holds tag ms) (bodies p + members_within ms) p)
  kind_stands g (idl.OfUnion tag s arms) p = switch_stands g s (other_tag_past tag p) && arms_stand g.default (arm_names arms) arms (switch_past g s (other_tag_past tag p))
  kind_stands g _ p = true

  pub switch_stands : Setting → idl.SwitchForm → Past → Bool
  switch_stands g idl.no_switch p = true
  switch_stands g (idl.a_switch s i body) p = spec_stands (alone g.default) s p

  pub mark_stands : Pk → idl.AttrKindForm → Past → Bool
  mark_stands default (idl.OfSwitchType s) p = spec_stands (alone default) s p
  mark_stands default _ p = true

  pub attr_stands : Pk → idl.AttrForm → Past → Bool
  attr_stands default (idl.an_attr at m) p = mark_stands default m p

  pub attrs_stand : Pk → idl.AttrForms → Past → Bool
  attrs_stand default idl.no_attr p = true
  attrs_stand default (idl.then_attr a rest) p = attr_stands default a p && attrs_stand default rest (attr_past default a p)

  pub member_stands : Pk → Place → List Ident → idl.MemberForm → Past → Bool
  member_stands default place names (idl.a_member as' s ds) p =
      let r : Past = attrs_past default as' p in
      let g : Setting = setting_at default place as' ds (tag_given (attributes default as' p)) in
      attrs_stand default as' p && (spec_stands g s r && (counts_stand names as' && dtors_stand (constants_of (spec_past g s r)) as' ds))

  pub members_stand : Pk → List Ident → idl.MemberForms → Past → Bool
  members_stand default names idl.no_member p = true
  members_stand default names (idl.then_member m ms) p = member_stands default places.Member names m p && members_stand default names ms (member_past default places.Member m p)

  pub arm_stands : Pk → List Ident → idl.ArmForm → Past → Bool
  arm_stands default names (idl.member_arm ls m) p = labels_stand (constants_of p) ls && member_stands default places.Arm names m (labels_past ls p)
  arm_stands default names (idl.empty_arm ls) p = labels_stand (constants_of p) ls

  pub arms_stand : Pk → List Ident → idl.ArmForms → Past → Bool
  arms_stand default names idl.no_arm p = true
  arms_stand default names (idl.then_arm a rest) p = arm_stands default names a p && arms_stand default names rest (arm_past default a p)

-- ---- declarations

abbrev pub params_stand : Pk → List Ident → List idl.ParamForm → Past → Bool
params_stand default names [] p = true
params_stand default names (n ∷ ns) p = member_stands default places.Parameter names (param_member n) p && params_stand default names ns (member_past default places.Parameter (param_member n) p)

abbrev pub decl_stands : Pk → idl.DeclKindForm → Past → Bool
decl_stands default (idl.OfConst base name value) p = true
decl_stands default (idl.OfTypedef as' s ds) p = member_stands default places.Typedef [] (idl.a_member as' s ds) p
decl_stands default (idl.OfLone as' s) p = member_stands default places.Alone [] (lone_member as' s) p
decl_stands default (idl.OfOp as' s name void ns) p =
    member_stands default places.Operation [] (result_member as' s name) p && params_stand default (param_names ns) ns (named_past default (result_member as' s name) name p)

abbrev pub decls_stand : Pk → List idl.DeclForm → Past → Bool
decls_stand default [] p = true
decls_stand default (x ∷ xs) p = decl_stands default x.what p && decls_stand default xs (decl_past default x.what p)

pub record EachNameStands (tree : Ast) : Type 0 where
  pub identified : is_some (first_in uuid_in (idl.tree_form tree).attributes) ≡ true
  pub declared : decls_stand (pointer_default (idl.tree_form tree).attributes) (idl.tree_form tree).decls [] ≡ true
