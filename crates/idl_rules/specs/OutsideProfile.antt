-- Rule 9, OutsideProfile: `float`, `double`, `wchar_t` or `pipe` is used as a type name; the type `void` is used other than as an
-- operation's result or in a context handle type; pointers to pointers in a typedef; a 65,536th operation, declared type or name of
-- one enumeration; a 256th parameter of an operation or member of a body; an array size that isn't from 1 to 2^32 - 1; a number above
-- 2^32 - 1 in size_is or length_is, or above 2^32 - 2 in max_is; a constant that doesn't fit its type.
use Rattle.std.specs.Prelude.{ℕ, ◌+◌, ◌^◌, ◌==◌, nat_lt, nat_le, Bool, false, not, ◌&&◌, ◌||◌, List, [], ◌∷◌, ◌++◌, Option, Some, None, ℤ, pos, slice_get, bytes_eq}
use Rattle.std.specs.List.{list_any, count_by, flat_map}
use Rattle.std.specs.Prelude.{codes}
use Rattle.idl_tree.specs.declared.leaf.Num.{Num}
use Rattle.idl_tree.specs.declared.leaf.Base.{Base}
use Rattle.idl_tree.specs.declared.leaf.Base.TheVariants as bases
use Rattle.idl_outline.specs.declared.field.Size.{Size}
use Rattle.idl_outline.specs.declared.field.Size.TheVariants as sizes
use Rattle.idl_names.specs.declared.place.Extent.{Extent}
use Rattle.idl_names.specs.declared.place.Extent.TheVariants as extents
use Rattle.idl_outline.specs.declared.field.Mark.{Mark}
use Rattle.idl_outline.specs.declared.field.Mark.TheVariants as marks
use Rattle.idl_outline.specs.declared.field.Declared.{Declared}
use Rattle.idl_outline.specs.declared.field.Field.{Field}
use Rattle.idl_outline.specs.declared.event.Event.{Event}
use Rattle.idl_outline.specs.declared.event.Event.TheVariants as events
use Rattle.idl_names.specs.Declarators.{value_of}
use Rattle.idl_outline.specs.Names.{is_operation, is_typedef_event}
use Rattle.idl_outline.specs.Types.{outer}
use Rattle.idl_rules.specs.Places.{at_if}
use Rattle.idl_rules.specs.Types.{is_typedef, is_pointer_layer}
use Rattle.idl_rules.specs.Numbers.{within, int_holds}
use Rattle.idl_rules.specs.TooManyHandles.{declared_of, place_if}

-- ---- names of types

abbrev pub is_outside_name : List ℕ → Bool
is_outside_name name = bytes_eq name (codes "float") || (bytes_eq name (codes "double") || (bytes_eq name (codes "wchar_t") || bytes_eq name (codes "pipe")))

-- ---- constants

abbrev pub base_holds : Base → ℤ → Bool
base_holds bases.Boolean z = within (pos 0) (pos 2) z
base_holds bases.Byte z = within (pos 0) (pos 256) z
base_holds (bases.Char unsigned) z = within (pos 0) (pos 256) z
base_holds (bases.Int unsigned size int_word) z = int_holds unsigned size z

-- ---- how many there are

-- one more than 65,535 of these
abbrev pub is_too_many : (Event → Bool) → List Event → Bool
is_too_many is past = count_by is past == 65535

-- the 256th of a list
abbrev pub too_many_places : List Field → List ℕ
too_many_places fs = place_if (slice_get (declared_of fs) 255)

-- ---- fields

abbrev pub is_two_pointers : Field → Declared → Bool
is_two_pointers f d = is_typedef f.place && (nat_le 2 d.stars || (d.stars == 1 && is_pointer_layer (outer f.spec)))

abbrev pub is_bad_size : Option Num → Bool
is_bad_size None = false
is_bad_size (Some n) = not (within (pos 1) (pos (2 ^ 32)) (value_of n))

abbrev pub is_bad_extent : Extent → Bool
is_bad_extent (extents.Fixed size) = is_bad_size size
is_bad_extent _ = false

-- above the greatest
abbrev pub is_size_above : ℕ → Size → Bool
is_size_above most (sizes.Number n) = nat_lt most n
is_size_above most (sizes.Of name) = false

abbrev pub is_above : Mark → Bool
is_above (marks.SizeIs s) = is_size_above 4294967295 s
is_above (marks.LengthIs s) = is_size_above 4294967295 s
is_above (marks.MaxIs s) = is_size_above 4294967294 s
is_above _ = false

abbrev pub has_above : Field → Bool
has_above f = list_any (λ a. is_above a.mark) f.attributes

abbrev pub declared_places : Field → Declared → List ℕ
declared_places f d = at_if (is_two_pointers f d || (is_bad_extent d.extent || has_above f)) d.name.at

abbrev pub field_places : Field → List ℕ
field_places f = flat_map (declared_places f) f.declared

-- parameters, or what one body declares
abbrev pub listed_places : List Field → List ℕ
listed_places fs = too_many_places fs ++ flat_map field_places fs

-- ---- events

abbrev pub outside_profile : List Event → Event → List ℕ
outside_profile past (events.TypeUsed i) = at_if (is_outside_name i.text) i.at
outside_profile past (events.VoidUsed at) = at ∷ []
outside_profile past (events.Operation i) = at_if (is_too_many is_operation past) i.at
outside_profile past (events.Typedef i t) = at_if (is_too_many is_typedef_event past) i.at
outside_profile past (events.EnumName i n) = at_if (n.value == 65535) i.at
outside_profile past (events.Constant base i n) = at_if (not (base_holds base (value_of n))) i.at
outside_profile past (events.Single f) = field_places f
outside_profile past (events.Body tag fs) = listed_places fs
outside_profile past (events.Call r ps) = field_places r ++ listed_places ps
outside_profile past _ = []
