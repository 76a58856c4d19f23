-- Rule 4, SizeName: a size name isn't a parameter or member of the same list of integer type; a switch name isn't one of a type that
-- a union's tag may have; *name isn't a parameter that points to such a type; an [in] parameter names a parameter that isn't [in]. A
-- name in a union's arm stands for a declarator of that arm alone: no value could agree with another arm's.
use Rattle.std.specs.Prelude.{ℕ, Bool, not, ◌&&◌, ◌||◌, List, [], ◌∷◌, ◌++◌, bytes_eq, if◌then◌else◌}
use Rattle.std.specs.List.{list_any, flat_map}
use Rattle.idl_outline.specs.declared.field.NameRef.{NameRef}
use Rattle.idl_outline.specs.declared.field.Size.{Size}
use Rattle.idl_outline.specs.declared.field.Size.TheVariants as sizes
use Rattle.idl_outline.specs.declared.field.Mark.{Mark}
use Rattle.idl_outline.specs.declared.field.Mark.TheVariants as marks
use Rattle.idl_outline.specs.declared.field.Attribute.{Attribute}
use Rattle.idl_outline.specs.declared.field.Declared.{Declared}
use Rattle.idl_outline.specs.declared.field.Field.{Field}
use Rattle.idl_outline.specs.declared.event.Event.{Event}
use Rattle.idl_outline.specs.declared.event.Event.TheVariants as events
use Rattle.idl_rules.specs.declared.asked.Asked.{Asked}
use Rattle.idl_rules.specs.declared.asked.Asked.TheVariants as kinds
use Rattle.idl_rules.specs.Places.{at_if}
use Rattle.idl_rules.specs.Types.{by_value, is_one_pointer, is_unknown, is_asked, is_parameter, is_arm, says_in, has}

-- of the type that is asked for, or with a star, a parameter that points to it; an unknown type is passed over
abbrev pub is_of : Asked → Bool → Field → Declared → Bool
is_of asked star g d = is_unknown d.ty.core || (is_asked asked d.ty.core && (if star then is_parameter g.place && is_one_pointer d.ty else by_value d.ty))

abbrev pub is_it : Asked → NameRef → Field → Declared → Bool
is_it asked n g d = bytes_eq d.name.text n.name.text && is_of asked n.star g d

-- the field g of the list declares what the field f may name
abbrev pub offers : Asked → Field → NameRef → Field → Bool
offers asked f n g = list_any (is_it asked n g) g.declared && (has says_in g || not (is_parameter f.place && has says_in f))

abbrev pub name_places : Asked → List Field → Field → NameRef → List ℕ
name_places asked list f n = at_if (not (list_any (offers asked f n) list)) n.name.at

abbrev pub size_places : List Field → Field → Size → List ℕ
size_places list f (sizes.Number n) = []
size_places list f (sizes.Of n) = name_places kinds.Integer list f n

abbrev pub mark_places : List Field → Field → Mark → List ℕ
mark_places list f (marks.SizeIs s) = size_places list f s
mark_places list f (marks.MaxIs s) = size_places list f s
mark_places list f (marks.LengthIs s) = size_places list f s
mark_places list f (marks.SwitchIs n) = name_places kinds.Tag list f n
mark_places list f _ = []

abbrev pub attribute_places : List Field → Field → Attribute → List ℕ
attribute_places list f a = mark_places list f a.mark

abbrev pub field_places : List Field → Field → List ℕ
field_places list f = flat_map (attribute_places list f) f.attributes

-- where the names of a field's attributes are looked for: a union's arm names no member of another arm
abbrev pub list_for : List Field → Field → List Field
list_for list f = if is_arm f.place then f ∷ [] else list

abbrev pub listed_places : List Field → Field → List ℕ
listed_places list f = field_places (list_for list f) f

abbrev pub size_name : List Event → Event → List ℕ
size_name past (events.Single f) = field_places [] f
size_name past (events.Body tag fs) = flat_map (listed_places fs) fs
size_name past (events.Call r ps) = field_places [] r ++ flat_map (listed_places ps) ps
size_name past _ = []
