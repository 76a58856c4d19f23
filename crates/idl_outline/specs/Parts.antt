-- The small parts of an outline. X_past is the past behind an X, for the past before it.
use Rattle.std.specs.Prelude.{ℕ, ◌+◌, Bool, true, false, List, [], ◌∷◌, Option, Some, None, map, if◌then◌else◌}
use Rattle.idl_tree.specs.declared.leaf.Ident.{Ident}
use Rattle.idl_tree.specs.declared.leaf.Pk.{Pk}
use Rattle.idl_tree.specs.declared.leaf.SizeRef.{SizeRef}
use Rattle.idl_tree.specs.declared.leaf.SizeRef.TheVariants as refs
use Rattle.idl_tree.specs.declared.leaf.ArraySize.{ArraySize}
use Rattle.idl_tree.specs.declared.leaf.ArraySize.TheVariants as sizes
use Rattle.idl_tree.specs.declared.leaf.Dtor.{Dtor}
use Rattle.idl_tree.specs.declared.spec.Label.{Label as LabelNode}
use Rattle.idl_tree.specs.declared.spec.LabelKind.{LabelKind}
use Rattle.idl_tree.specs.declared.spec.LabelKind.TheVariants as label_kinds
use Rattle.idl_forms.specs.Forms.{SpecForm, a_spec, KindForm, OfUnion, SwitchForm, no_switch, a_switch, AttrForms, no_attr}
use Rattle.idl_names.specs.declared.place.Place.{Place}
use Rattle.idl_names.specs.declared.place.Place.TheVariants as places
use Rattle.idl_names.specs.Attributes.{says, says_handle}
use Rattle.idl_names.specs.Symbols.{number_of}
use Rattle.idl_names.specs.Declarators.{all_pointed, label_number}
use Rattle.idl_outline.specs.declared.ty.Core.TheVariants as cores
use Rattle.idl_outline.specs.declared.ty.DataType.{DataType}
use Rattle.idl_outline.specs.declared.field.Size.{Size}
use Rattle.idl_outline.specs.declared.field.Size.TheVariants as given_sizes
use Rattle.idl_outline.specs.declared.field.Attribute.{Attribute}
use Rattle.idl_outline.specs.declared.field.Bare.{Bare}
use Rattle.idl_outline.specs.declared.field.Bare.TheVariants as bares
use Rattle.idl_outline.specs.declared.field.Field.{Field}
use Rattle.idl_outline.specs.declared.event.Tag.{Tag}
use Rattle.idl_outline.specs.declared.event.Tag.TheVariants as tags
use Rattle.idl_outline.specs.declared.event.Label.{Label}
use Rattle.idl_outline.specs.declared.event.Label.TheVariants as labels
use Rattle.idl_outline.specs.declared.event.Event.TheVariants as events
use Rattle.idl_outline.specs.declared.setting.Setting.{Setting}
use Rattle.idl_outline.specs.Types.{bare, unknown, struct_type}
use Rattle.idl_outline.specs.Names.{Past, constants_of, bodies, tag_named, declared_all, ends_open}

-- where the type void may stand: as an operation's result, and in a typedef of context handles
abbrev pub may_be_void : Place → AttrForms → Bool
may_be_void places.Typedef as' = says says_handle as'
may_be_void places.Operation as' = true
may_be_void _ as' = false

-- the setting of a spec at a place, behind attributes and before declarators. given: the tag that the attributes give
abbrev pub setting_at : Pk → Place → AttrForms → List Dtor → Tag → Setting
setting_at default place as' ds given = record { default = default; pointed = all_pointed ds; void_allowed = may_be_void place as'; given = given }

-- that of a union's switch, and of a spec in a switch_type
abbrev pub alone : Pk → Setting
alone default = setting_at default places.Alone no_attr [] tags.Missing

abbrev pub bare_tag : Option Ident → Bare
bare_tag None = bares.Tagless
bare_tag (Some i) = bares.Tagged i.at

abbrev pub bare_union : Option Ident → SwitchForm → Bare
bare_union tag no_switch = bare_tag tag
bare_union tag (a_switch s i body) = bares.No

abbrev pub bare_kind : KindForm → Bare
bare_kind (OfUnion tag s arms) = bare_union tag s
bare_kind _ = bares.No

abbrev pub bare_spec : SpecForm → Bare
bare_spec (a_spec at k) = bare_kind k

abbrev pub is_switched : SwitchForm → Bool
is_switched no_switch = false
is_switched (a_switch s i body) = true

abbrev pub size_of : SizeRef → Size
size_of (refs.Named star i) = given_sizes.Of (record { star = star; name = i })
size_of (refs.Number n) = given_sizes.Number n.value

-- a name in the brackets of an array is used as a constant
abbrev pub array_past : ArraySize → Past → Past
array_past (sizes.Named i) p = events.ConstantUsed i ∷ p
array_past _ p = p

abbrev pub size_past : Option ArraySize → Past → Past
size_past None p = p
size_past (Some s) p = array_past s p

abbrev pub sizes_past : List Dtor → Past → Past
sizes_past [] p = p
sizes_past (d ∷ ds) p = sizes_past ds (size_past d.array p)

abbrev pub label_past : LabelKind → Past → Past
label_past (label_kinds.Named i) p = events.ConstantUsed i ∷ p
label_past _ p = p

abbrev pub labels_past : List LabelNode → Past → Past
labels_past [] p = p
labels_past (l ∷ ls) p = labels_past ls (label_past l.what p)

abbrev pub label_of : Past → ℕ → LabelKind → Label
label_of p at (label_kinds.Number n) = labels.Case n.at (label_number (constants_of p) (label_kinds.Number n))
label_of p at (label_kinds.Named i) = labels.Case i.at (label_number (constants_of p) (label_kinds.Named i))
label_of p at label_kinds.Default = labels.Default at

abbrev pub labels_of : Past → List LabelNode → List Label
labels_of p ls = map (λ l. label_of p l.at l.what) ls

-- a structure's tag is used
abbrev pub tag_used_past : Setting → Option Ident → Past → Past
tag_used_past g None p = p
tag_used_past g (Some i) p = events.TagUsed i g.pointed ∷ p

abbrev pub tag_used_type : Setting → Option Ident → Past → DataType
tag_used_type g None p = unknown
tag_used_type g (Some i) p = struct_type (tag_named g.pointed i.text p)

abbrev pub void_past : Setting → ℕ → Past → Past
void_past g at p = if g.void_allowed then p else events.VoidUsed at ∷ p

abbrev pub other_tag_past : Option Ident → Past → Past
other_tag_past None p = p
other_tag_past (Some i) p = events.OtherTag i ∷ p

-- the names of an enumeration stand for the numbers from n on
abbrev pub names_past : ℕ → List Ident → Past → Past
names_past n [] p = p
names_past n (i ∷ is) p = names_past (n + 1) is (events.EnumName i (number_of i n) ∷ p)

-- number: that of the structure whose body begins
abbrev pub struct_past : Option Ident → Bool → ℕ → Past → Past
struct_past None itself number p = p
struct_past (Some i) itself number p = events.StructBegins i itself number ∷ p

abbrev pub struct_end : Option Ident → List Field → Past → Past
struct_end None fs p = events.Body None fs ∷ p
struct_end (Some i) fs p = events.StructEnds i (ends_open fs) (bodies p) ∷ events.Body None fs ∷ p

-- the field of a spec that was read up to the past p
abbrev pub field_of : Pk → Place → AttrForms → List Attribute → DataType → Bare → List Dtor → Past → Field
field_of default place as' marks t b ds p =
    record { place = place; attributes = marks; spec = t; bare = b; labels = []; declared = declared_all p place default as' t ds }

abbrev pub with_labels : List Label → Field → Field
with_labels ls f = record f { labels = ls }

-- an arm without a member declares nothing
abbrev pub empty_field : List Label → Field
empty_field ls = record { place = places.Arm; attributes = []; spec = bare cores.Void; bare = bares.No; labels = ls; declared = [] }
