-- The outline's reader of specs and what they hold, and what it has of them. X_past is the past behind an X, for the past before it; what
-- an X stands for is said of the past before it.
use Rattle.std.specs.Prelude.{ℕ, ◌+◌, List, [], ◌∷◌, map, length, Option, Some, None}
use Rattle.std.specs.List.{flat_map}
use Rattle.idl_tree.specs.declared.leaf.Pk.{Pk}
use Rattle.idl_forms.specs.Forms.{SpecForm, a_spec, KindForm, OfBase, OfName, OfVoid, OfHandle, OfStatus, OfTag, OfEnum, SwitchForm, MemberForm, MemberForms, ArmForm, ArmForms, AttrKindForm, OfIn, OfOut, OfPointer, OfText, OfIdempotent, OfMaybe, OfSizeIs, OfMaxIs, OfLengthIs, OfSwitchIs, OfRange, AttrForm, AttrForms, no_attr}
use Rattle.idl_names.specs.declared.place.Place.{Place}
use Rattle.idl_names.specs.declared.place.Place.TheVariants as places
use Rattle.idl_names.specs.Members.{attrs_of, spec_of, dtors_of}
use Rattle.idl_names.specs.Walk.{ReadMember, ReadArm, Reader}
use Rattle.idl_names.specs.Walk as walk
use Rattle.idl_outline.specs.declared.ty.DataType.{DataType}
use Rattle.idl_outline.specs.declared.ty.Core.TheVariants as cores
use Rattle.idl_outline.specs.declared.field.Mark.{Mark}
use Rattle.idl_outline.specs.declared.field.Mark.TheVariants as marks
use Rattle.idl_outline.specs.declared.field.Attribute.{Attribute}
use Rattle.idl_outline.specs.declared.field.Field.{Field}
use Rattle.idl_outline.specs.declared.event.Tag.{Tag}
use Rattle.idl_outline.specs.declared.event.Tag.TheVariants as tags
use Rattle.idl_outline.specs.declared.event.Label.{Label}
use Rattle.idl_outline.specs.declared.event.Event.TheVariants as events
use Rattle.idl_outline.specs.declared.setting.Setting.{Setting}
use Rattle.idl_outline.specs.Types.{bare, unknown, core_of, of_tag, or_unknown}
use Rattle.idl_outline.specs.Names.{Past, bodies, type_named, tag_given, ends_open}
use Rattle.idl_outline.specs.Holding.{tag_holds}
use Rattle.idl_outline.specs.Within.{members_within}
use Rattle.idl_outline.specs.Parts.{setting_at, bare_spec, is_switched, size_of, sizes_past, labels_past, labels_of, tag_used_past, tag_used_type, void_past, other_tag_past, names_past, struct_past, struct_end, field_of, with_labels, empty_field}

-- ---- what the reader makes of the parts

abbrev pub leaf_past : Setting → ℕ → KindForm → Past → Past
leaf_past g at (OfName i) p = events.TypeUsed i ∷ p
leaf_past g at OfVoid p = void_past g at p
leaf_past g at (OfTag tag) p = tag_used_past g tag p
leaf_past g at (OfEnum tag names) p = names_past 0 names (other_tag_past tag p)
leaf_past g at _ p = p

abbrev pub leaf_type : Setting → KindForm → Past → DataType
leaf_type g (OfBase b) p = bare (core_of b)
leaf_type g (OfName i) p = or_unknown (type_named i.text p)
leaf_type g OfVoid p = bare cores.Void
leaf_type g OfHandle p = bare cores.HandleT
leaf_type g OfStatus p = bare cores.ErrorStatus
leaf_type g (OfTag tag) p = tag_used_type g tag p
leaf_type g (OfEnum tag names) p = bare (cores.Enum (length names))
leaf_type g _ p = unknown

abbrev pub begin_of : SpecForm → ℕ
begin_of (a_spec at k) = at

abbrev pub mark : AttrKindForm → Mark
mark OfIn = marks.In
mark OfOut = marks.Out
mark (OfPointer k) = marks.Pointer k
mark OfText = marks.Text
mark OfIdempotent = marks.Idempotent
mark OfMaybe = marks.Maybe
mark (OfSizeIs r) = marks.SizeIs (size_of r)
mark (OfMaxIs r) = marks.MaxIs (size_of r)
mark (OfLengthIs r) = marks.LengthIs (size_of r)
mark (OfSwitchIs star i) = marks.SwitchIs (record { star = star; name = i })
mark (OfRange low high) = marks.Range low high
-- a word for context handles
mark _ = marks.Handle

abbrev pub attribute_in : ℕ × Mark → Attribute
attribute_in x = record { at = x.0; mark = x.1 }

abbrev pub field_in : Pk → Place → ReadMember Past DataType Mark → Field
field_in default place x = field_of default place (attrs_of x.0) (map attribute_in x.1.marks) x.1.spec (bare_spec (spec_of x.0)) (dtors_of x.0) x.1.known

abbrev pub fields_in : Pk → List (ReadMember Past DataType Mark) → List Field
fields_in default ms = map (field_in default places.Member) ms

abbrev pub labels_in_arm : ReadArm Past DataType Mark → List Label
labels_in_arm a = labels_of a.known a.labels

abbrev pub arm_field_with : Pk → List Label → Option (ReadMember Past DataType Mark) → Field
arm_field_with default ls None = empty_field ls
arm_field_with default ls (Some x) = with_labels ls (field_in default places.Arm x)

abbrev pub field_in_arm : Pk → ReadArm Past DataType Mark → Field
field_in_arm default a = arm_field_with default (labels_in_arm a) a.member

-- the past behind the arms of a union, with what gives it its tag
abbrev pub union_end : Pk → Tag → List (ReadArm Past DataType Mark) × Past → Past
union_end default t arms = events.Union t (flat_map labels_in_arm arms.0) ∷ events.Body (Some t) (map (field_in_arm default) arms.0) ∷ arms.1

abbrev pub outline_reader : Reader Past DataType Mark Setting Tag
outline_reader = record {
  around = λ default place as' ds xs. setting_at default place as' ds (tag_given (map attribute_in xs));
  leaf = λ g at k p. (leaf_type g k p, leaf_past g at k p);
  struct_begins = λ tag ms p. struct_past tag (tag_holds tag ms) (bodies p + members_within ms) p;
  struct_ends = λ default tag ms inside. (bare (cores.Struct (ends_open (fields_in default inside.0)) (bodies inside.1)), struct_end tag (fields_in default inside.0) inside.1);
  union_begins = other_tag_past;
  union_ends = λ default s arms t inside. (bare (cores.Union (is_switched s) (bodies inside.1)), union_end default t inside);
  given = λ g. g.given;
  -- a switch's spec is a field that declares nothing
  switched = λ default s i spec. (tags.Switch i.at (of_tag spec.0), events.Single (field_of default places.Alone no_attr [] spec.0 (bare_spec s) [] spec.1) ∷ spec.1);
  mark = mark;
  switch_type = λ s t. marks.SwitchType (begin_of s) (of_tag t);
  labelled = labels_past;
  sized = sizes_past;
}

-- ---- what it has of specs and what they hold

abbrev pub spec_past : Setting → SpecForm → Past → Past
spec_past g s p = (walk.spec_at outline_reader g.default g s p).1

abbrev pub spec_type : Setting → SpecForm → Past → DataType
spec_type g s p = (walk.spec_at outline_reader g.default g s p).0

abbrev pub kind_past : Setting → ℕ → KindForm → Past → Past
kind_past g at k p = (walk.kind_at outline_reader g.default g at k p).1

abbrev pub kind_type : Setting → ℕ → KindForm → Past → DataType
kind_type g at k p = (walk.kind_at outline_reader g.default g at k p).0

abbrev pub switch_past : Setting → SwitchForm → Past → Past
switch_past g s p = (walk.switch_at outline_reader g.default g.given s p).1

-- what gives a union its tag
abbrev pub switch_tag : Setting → SwitchForm → Past → Tag
switch_tag g s p = (walk.switch_at outline_reader g.default g.given s p).0

abbrev pub mark_past : Pk → AttrKindForm → Past → Past
mark_past default m p = (walk.mark_at outline_reader default m p).1

abbrev pub mark_of : Pk → AttrKindForm → Past → Mark
mark_of default m p = (walk.mark_at outline_reader default m p).0

abbrev pub attr_past : Pk → AttrForm → Past → Past
attr_past default a p = (walk.attr_at outline_reader default a p).1

abbrev pub attribute : Pk → AttrForm → Past → Attribute
attribute default a p = attribute_in (walk.attr_at outline_reader default a p).0

abbrev pub attrs_past : Pk → AttrForms → Past → Past
attrs_past default as' p = (walk.attrs_at outline_reader default as' p).1

abbrev pub attributes : Pk → AttrForms → Past → List Attribute
attributes default as' p = map attribute_in (walk.attrs_at outline_reader default as' p).0

abbrev pub member_past : Pk → Place → MemberForm → Past → Past
member_past default place m p = walk.behind outline_reader m (walk.read_at outline_reader default (outline_reader.around default place) m p)

abbrev pub member_field : Pk → Place → MemberForm → Past → Field
member_field default place m p = field_in default place (m, walk.read_at outline_reader default (outline_reader.around default place) m p)

abbrev pub members_past : Pk → MemberForms → Past → Past
members_past default ms p = (walk.members_at outline_reader default ms p).1

abbrev pub member_fields : Pk → MemberForms → Past → List Field
member_fields default ms p = fields_in default (walk.members_at outline_reader default ms p).0

abbrev pub arm_past : Pk → ArmForm → Past → Past
arm_past default a p = (walk.arm_at outline_reader default a p).1

abbrev pub arm_field : Pk → ArmForm → Past → Field
arm_field default a p = field_in_arm default (walk.arm_at outline_reader default a p).0

abbrev pub arm_label : Pk → ArmForm → Past → List Label
arm_label default a p = labels_in_arm (walk.arm_at outline_reader default a p).0

abbrev pub arms_past : Pk → ArmForms → Past → Past
arms_past default as' p = (walk.arms_at outline_reader default as' p).1

abbrev pub arm_fields : Pk → ArmForms → Past → List Field
arm_fields default as' p = map (field_in_arm default) (walk.arms_at outline_reader default as' p).0

-- the labels of all arms
abbrev pub arm_labels : Pk → ArmForms → Past → List Label
arm_labels default as' p = flat_map labels_in_arm (walk.arms_at outline_reader default as' p).0

abbrev pub union_past : Pk → Tag → ArmForms → Past → Past
union_past default t arms p = union_end default t (walk.arms_at outline_reader default arms p)
