-- The types of a table: the bodies of structures and unions.
use Rattle.std.specs.Prelude.{ℤ, Bool, true, false, List, [], ◌∷◌, map, Option, Some, None, if◌then◌else◌}
use Rattle.std.specs.List.{flat_map, list_any}
use Rattle.idl_tree.specs.declared.leaf.Ident.{Ident}
use Rattle.idl_tree.specs.declared.leaf.Num.{Num}
use Rattle.idl_names.specs.Declarators.{value_of}
use Rattle.idl_outline.specs.declared.ty.TagType.{TagType}
use Rattle.idl_outline.specs.declared.field.Field.{Field}
use Rattle.idl_outline.specs.declared.event.Tag.{Tag}
use Rattle.idl_outline.specs.declared.event.Tag.TheVariants as tags
use Rattle.idl_outline.specs.declared.event.Label.{Label}
use Rattle.idl_outline.specs.declared.event.Label.TheVariants as labels
use Rattle.idl_outline.specs.declared.event.Event.{Event}
use Rattle.idl_outline.specs.declared.event.Event.TheVariants as events
use Rattle.ndr_value.specs.Forms.{Form, OfStruct, OfUnion, Forms, no_form, then_form, Body, empty, holds, ArmForms, no_arm, then_arm}
use Rattle.marshal_table.specs.Shapes.{nothing, core_form, terms, declared_form}

-- the forms of a list, as of a structure's members
abbrev pub row : List Form → Forms
row [] = no_form
row (s ∷ ss) = then_form s (row ss)

-- an arm's cases, whether it is the default, and what it holds
abbrev pub Face : Type 0
Face = List ℤ × Bool × Body

abbrev pub arm_row : List Face → ArmForms
arm_row [] = no_arm
arm_row (a ∷ rest) = then_arm a.0 a.1 a.2 (arm_row rest)

-- what an arm holds: an arm of several members is a structure of them
abbrev pub held : List Form → Body
held [] = empty
held (s ∷ []) = holds s
held (s ∷ t ∷ ss) = holds (OfStruct (row (s ∷ t ∷ ss)))

-- ---- labels

abbrev pub if_case : Option Num → List ℤ
if_case None = []
if_case (Some n) = value_of n ∷ []

abbrev pub case_in : Label → List ℤ
case_in (labels.Case at value) = if_case value
case_in (labels.Default at) = []

abbrev pub is_default : Label → Bool
is_default (labels.Default at) = true
is_default _ = false

-- ---- bodies

abbrev pub names_in : Field → List Ident
names_in f = map (λ d. d.name) f.declared

abbrev pub names_of : List Field → List Ident
names_of fs = flat_map names_in fs

-- names: those of all that the list declares
abbrev pub field_forms : List Ident → Field → List Form
field_forms names f = map (declared_form (terms f.place names f.attributes)) f.declared

abbrev pub face : List Ident → Field → Face
face names f = (flat_map case_in f.labels, list_any is_default f.labels, held (field_forms names f))

-- a tag is neither a pointer nor an array
abbrev pub tag_type_form : TagType → Form
tag_type_form t = if t.by_value then core_form None t.core else nothing

abbrev pub tag_form : Tag → Form
tag_form (tags.Switch at t) = tag_type_form t
tag_form (tags.Given at t) = tag_type_form t
tag_form tags.Missing = nothing

abbrev pub body_form : Option Tag → List Field → Form
body_form None fs = OfStruct (row (flat_map (field_forms (names_of fs)) fs))
body_form (Some t) fs = OfUnion (tag_form t) (arm_row (map (face (names_of fs)) fs))

abbrev pub type_in : Event → List Form
type_in (events.Body tag fs) = body_form tag fs ∷ []
type_in _ = []
