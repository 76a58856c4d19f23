-- What events declare, what names stand for behind them, and what declarators declare there. The events before a place of the text
-- are its past, the newest first.
use Rattle.std.specs.Prelude.{ℕ, ◌+◌, Bool, true, false, ◌||◌, ◌&&◌, List, [], ◌∷◌, Option, Some, None, is_some, reverse, bytes_eq}
use Rattle.std.specs.List.{count_by}
use Rattle.std.specs.Option.{option_or}
use Rattle.idl_tree.specs.declared.leaf.Ident.{Ident}
use Rattle.idl_tree.specs.declared.leaf.Num.{Num}
use Rattle.idl_tree.specs.declared.leaf.Pk.{Pk}
use Rattle.idl_tree.specs.declared.leaf.Dtor.{Dtor}
use Rattle.idl_forms.specs.Forms.{AttrForms}
use Rattle.idl_names.specs.declared.place.Place.{Place}
use Rattle.idl_names.specs.declared.place.Place.TheVariants as places
use Rattle.idl_names.specs.Symbols.{ByName, Symbols, no_symbols, with_type, with_constant, with_tag, tag_named as tag_among}
use Rattle.idl_names.specs.Attributes.{given, says, says_handle, says_string, is_serialised, pointer_in, or_class, outer_class}
use Rattle.idl_names.specs.Declarators.{extent_of}
use Rattle.idl_outline.specs.declared.ty.Core.{Core}
use Rattle.idl_outline.specs.declared.ty.Core.TheVariants as cores
use Rattle.idl_outline.specs.declared.ty.DataType.{DataType}
use Rattle.idl_outline.specs.declared.manner.Manner.{Manner}
use Rattle.idl_outline.specs.declared.manner.Structure.{Structure}
use Rattle.idl_outline.specs.declared.field.Mark.{Mark}
use Rattle.idl_outline.specs.declared.field.Mark.TheVariants as marks
use Rattle.idl_outline.specs.declared.field.Attribute.{Attribute}
use Rattle.idl_outline.specs.declared.field.Declared.{Declared}
use Rattle.idl_outline.specs.declared.field.Field.{Field}
use Rattle.idl_outline.specs.declared.event.Tag.{Tag}
use Rattle.idl_outline.specs.declared.event.Tag.TheVariants as tags
use Rattle.idl_outline.specs.declared.event.Event.{Event}
use Rattle.idl_outline.specs.declared.event.Event.TheVariants as events
use Rattle.idl_outline.specs.Types.{declared_type, is_open}

abbrev pub Past : Type 0
Past = List Event

-- ---- what is declared: what names stand for, the names of operations, and
-- the tags of unions and enumerations

pub record Declarations : Type 0 where
  pub symbols : Symbols DataType Structure
  pub operations : List ℕ → Bool
  pub others : List ℕ → Bool

abbrev pub nothing_declared : Declarations
nothing_declared = record { symbols = no_symbols; operations = λ name. false; others = λ name. false }

-- one name more
abbrev pub with_name : Ident → (List ℕ → Bool) → List ℕ → Bool
with_name i names = λ name. bytes_eq i.text name || names name

abbrev pub declared_by : Event → Declarations → Declarations
declared_by (events.Typedef i t) d = record d { symbols = with_type i t d.symbols }
declared_by (events.Constant b i n) d = record d { symbols = with_constant i n d.symbols }
declared_by (events.EnumName i n) d = record d { symbols = with_constant i n d.symbols }
declared_by (events.Operation i) d = record d { operations = with_name i d.operations }
declared_by (events.StructBegins i itself number) d = record d { symbols = with_tag i (record { whole = false; known = record { ends_open = false; number = number } }) d.symbols }
declared_by (events.StructEnds i ends number) d = record d { symbols = with_tag i (record { whole = true; known = record { ends_open = ends; number = number } }) d.symbols }
declared_by (events.OtherTag i) d = record d { others = with_name i d.others }
declared_by _ d = d

abbrev pub declarations : Past → Declarations
declarations [] = nothing_declared
declarations (e ∷ past) = declared_by e (declarations past)

abbrev pub symbols_of : Past → Symbols DataType Structure
symbols_of past = (declarations past).symbols

abbrev pub constants_of : Past → ByName Num
constants_of past = (symbols_of past).constants

abbrev pub type_named : List ℕ → Past → Option DataType
type_named name past = (symbols_of past).types name

abbrev pub constant_named : List ℕ → Past → Option Num
constant_named name past = constants_of past name

-- pointed: the tag stands behind a pointer
abbrev pub tag_named : Bool → List ℕ → Past → Option Structure
tag_named pointed name past = tag_among pointed name (symbols_of past)

-- a type, a constant or a name of an enumeration, or an operation of that name is declared
abbrev pub is_declared : List ℕ → Past → Bool
is_declared name past = is_some (type_named name past) || (is_some (constant_named name past) || (declarations past).operations name)

-- a structure, a union or an enumeration of that tag is declared
abbrev pub is_tag_declared : List ℕ → Past → Bool
is_tag_declared name past = is_some ((symbols_of past).tags name) || (declarations past).others name

-- the name of the interface that an event declares, and the tag
abbrev pub name_in : Event → Option Ident
name_in (events.Typedef i t) = Some i
name_in (events.Constant b i n) = Some i
name_in (events.EnumName i n) = Some i
name_in (events.Operation i) = Some i
name_in _ = None

abbrev pub tag_in : Event → Option Ident
tag_in (events.StructBegins i itself number) = Some i
tag_in (events.OtherTag i) = Some i
tag_in _ = None

abbrev pub is_operation : Event → Bool
is_operation (events.Operation i) = true
is_operation _ = false

-- a declarator of a typedef
abbrev pub is_typedef_event : Event → Bool
is_typedef_event (events.Typedef i t) = true
is_typedef_event _ = false

-- the body of a structure or a union
abbrev pub is_body : Event → Bool
is_body (events.Body tag fs) = true
is_body _ = false

abbrev pub is_handle_core : Core → Bool
is_handle_core (cores.ContextHandle kind serialised) = true
is_handle_core _ = false

-- a type of context handles
abbrev pub is_kind : Event → Bool
is_kind (events.Typedef i t) = is_handle_core t.core
is_kind _ = false

-- how many of them there are
abbrev pub bodies : Past → ℕ
bodies past = count_by is_body past

abbrev pub kinds : Past → ℕ
kinds past = count_by is_kind past

-- ---- the first switch_type of a list of attributes

abbrev pub tag_of : Mark → Option Tag
tag_of (marks.SwitchType at t) = Some (tags.Given at t)
tag_of _ = None

abbrev pub first_tag : List Attribute → Option Tag
first_tag [] = None
first_tag (a ∷ as') = option_or (tag_of a.mark) (first_tag as')

abbrev pub or_missing : Option Tag → Tag
or_missing None = tags.Missing
or_missing (Some t) = t

abbrev pub tag_given : List Attribute → Tag
tag_given as' = or_missing (first_tag as')

-- ---- declarators

-- kind: how many types of context handles there are before
abbrev pub declared : Past → Bool → ℕ → Manner → DataType → Dtor → Declared
declared past handle kind m t d =
    record { name = d.name; stars = d.stars; extent = extent_of (constants_of past) d.array; ty = declared_type handle kind m d.stars (extent_of (constants_of past) d.array) t }

abbrev pub is_typedef : Place → Bool
is_typedef places.Typedef = true
is_typedef _ = false

abbrev pub each_declared : Past → Bool → ℕ → Manner → DataType → List Dtor → List Declared
each_declared past handle kind m t [] = []
each_declared past handle kind m t (d ∷ ds) = declared past handle kind m t d ∷ each_declared past handle (kind + 1) m t ds

-- pointers behind others have the class of the interface
abbrev pub manner_of : Pk → Place → AttrForms → Manner
manner_of default place as' = record {
  inner = default;
  outer = outer_class default place as';
  element = or_class (given pointer_in as') default;
  text = says says_string as';
  serialised = is_serialised as';
}

abbrev pub declared_all : Past → Place → Pk → AttrForms → DataType → List Dtor → List Declared
declared_all past place default as' t ds = each_declared past (is_typedef place && says says_handle as') (kinds past) (manner_of default place as') t ds

-- the last one is the first from behind
abbrev pub first_open : List Declared → Bool
first_open [] = false
first_open (d ∷ ds) = is_open d.ty

abbrev pub last_open : List Declared → Bool
last_open ds = first_open (reverse ds)

abbrev pub first_field_open : List Field → Bool
first_field_open [] = false
first_field_open (f ∷ fs) = last_open f.declared

-- a conformant array ends the body
abbrev pub ends_open : List Field → Bool
ends_open fs = first_field_open (reverse fs)
