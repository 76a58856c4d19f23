-- Rule 8, UnionTag: a tag isn't integer, char, boolean or an enumeration, or is `unsigned hyper`; a case stands twice or outside the
-- tag; two defaults; a union has neither a switch nor a switch_type.
use Rattle.std.specs.Prelude.{ℕ, ◌+◌, ◌-◌, Bool, true, false, not, ◌&&◌, ◌||◌, List, [], ◌∷◌, ◌++◌, Option, Some, None, if◌then◌else◌, ℤ, pos}
use Rattle.std.specs.List.{flat_map}
use Rattle.std.specs.Ordering.{int_eq}
use Rattle.idl_tree.specs.declared.leaf.Num.{Num}
use Rattle.idl_outline.specs.declared.ty.TagType.{TagType}
use Rattle.idl_outline.specs.declared.ty.Core.{Core}
use Rattle.idl_outline.specs.declared.ty.Core.TheVariants as cores
use Rattle.idl_outline.specs.declared.field.Bare.{Bare}
use Rattle.idl_outline.specs.declared.field.Bare.TheVariants as bares
use Rattle.idl_outline.specs.declared.field.Declared.{Declared}
use Rattle.idl_outline.specs.declared.field.Field.{Field}
use Rattle.idl_outline.specs.declared.event.Tag.{Tag}
use Rattle.idl_outline.specs.declared.event.Tag.TheVariants as tags
use Rattle.idl_outline.specs.declared.event.Label.{Label}
use Rattle.idl_outline.specs.declared.event.Label.TheVariants as labels
use Rattle.idl_outline.specs.declared.event.Event.{Event}
use Rattle.idl_outline.specs.declared.event.Event.TheVariants as events
use Rattle.idl_names.specs.Declarators.{value_of}
use Rattle.idl_rules.specs.Numbers.{within, int_holds}
use Rattle.idl_rules.specs.Places.{at_if, repeats}
use Rattle.idl_rules.specs.Types.{by_value, is_unknown, is_tag_core, says_switch_type, has}

-- ---- the type of the tag

abbrev pub is_bad_tag : TagType → Bool
is_bad_tag t = not (is_unknown t.core || (is_tag_core t.core && t.by_value))

abbrev pub tag_places : Tag → List ℕ
tag_places (tags.Switch at t) = at_if (is_bad_tag t) at
tag_places (tags.Given at t) = at_if (is_bad_tag t) at
tag_places tags.Missing = []

-- ---- labels

abbrev pub same_number : Option Num → Option Num → Bool
same_number (Some n) (Some m) = int_eq (value_of n) (value_of m)
same_number _ _ = false

-- cases of one number, or two defaults
abbrev pub same_label : Label → Label → Bool
same_label (labels.Case at n) (labels.Case other m) = same_number n m
same_label (labels.Default at) (labels.Default other) = true
same_label _ _ = false

abbrev pub label_place : Label → ℕ
label_place (labels.Case at n) = at
label_place (labels.Default at) = at

-- the number stands for one of so many names
abbrev pub enum_holds : ℕ → ℤ → Bool
enum_holds count z = within (pos 0) (pos count) z

-- the number is one of the type's; of other types than tags nothing is said
abbrev pub core_holds : Core → ℤ → Bool
core_holds cores.Boolean z = within (pos 0) (pos 2) z
core_holds cores.Char z = within (pos 0) (pos 256) z
core_holds (cores.Text text) z = within (pos 0) (pos 256) z
core_holds (cores.Int unsigned size) z = int_holds unsigned size z
core_holds (cores.Enum count) z = enum_holds count z
core_holds _ z = true

abbrev pub value_outside : TagType → ℕ → Option Num → List ℕ
value_outside t at None = []
value_outside t at (Some n) = at_if (t.by_value && not (core_holds t.core (value_of n))) at

abbrev pub outside : TagType → Label → List ℕ
outside t (labels.Case at n) = value_outside t at n
outside t (labels.Default at) = []

abbrev pub outside_places : Tag → List Label → List ℕ
outside_places (tags.Switch at t) ls = flat_map (outside t) ls
outside_places (tags.Given at t) ls = flat_map (outside t) ls
outside_places tags.Missing ls = []

-- ---- a union without a tag

abbrev pub first_name : List Declared → List ℕ
first_name [] = []
first_name (d ∷ ds) = d.name.at ∷ []

abbrev pub bare_place : Bare → List Declared → List ℕ
bare_place bares.No ds = []
bare_place bares.Tagless ds = first_name ds
bare_place (bares.Tagged at) ds = at ∷ []

abbrev pub field_places : Field → List ℕ
field_places f = if has says_switch_type f then [] else bare_place f.bare f.declared

-- ---- events

abbrev pub labels_places : Tag → List Label → List ℕ
labels_places t ls = tag_places t ++ (repeats same_label label_place ls ++ outside_places t ls)

abbrev pub union_tag : List Event → Event → List ℕ
union_tag past (events.Union t ls) = labels_places t ls
union_tag past (events.Single f) = field_places f
union_tag past (events.Body tag fs) = flat_map field_places fs
union_tag past (events.Call r ps) = field_places r ++ flat_map field_places ps
union_tag past _ = []
