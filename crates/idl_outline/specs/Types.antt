-- Types, seen through the names that stand for them: what stands behind all pointers and arrays, and these, the outermost first.
use Rattle.std.specs.Prelude.{ℕ, zero, suc, ◌-◌, ◌==◌, Bool, true, false, ◌&&◌, List, [], ◌∷◌, Option, Some, None, is_some, is_none, if◌then◌else◌}
use Rattle.idl_tree.specs.declared.leaf.Num.{Num}
use Rattle.idl_tree.specs.declared.leaf.Pk.{Pk}
use Rattle.idl_tree.specs.declared.leaf.Base.{Base}
use Rattle.idl_tree.specs.declared.leaf.Base.TheVariants as bases
use Rattle.idl_names.specs.declared.place.Extent.{Extent}
use Rattle.idl_names.specs.declared.place.Extent.TheVariants as extents
use Rattle.idl_outline.specs.declared.manner.Manner.{Manner}
use Rattle.idl_outline.specs.declared.manner.Structure.{Structure}
use Rattle.idl_outline.specs.declared.ty.DataType.{DataType}
use Rattle.idl_outline.specs.declared.ty.TagType.{TagType}
use Rattle.idl_outline.specs.declared.ty.Core.{Core}
use Rattle.idl_outline.specs.declared.ty.Core.TheVariants as cores
use Rattle.idl_outline.specs.declared.ty.Text.{Text}
use Rattle.idl_outline.specs.declared.ty.Text.TheVariants as texts
use Rattle.idl_outline.specs.declared.ty.Layer.{Layer}
use Rattle.idl_outline.specs.declared.ty.Layer.TheVariants as layers

-- a type without pointers and arrays
abbrev pub bare : Core → DataType
bare c = record { core = c; layers = [] }

abbrev pub unknown : DataType
unknown = bare cores.Unknown

abbrev pub core_of : Base → Core
core_of bases.Boolean = cores.Boolean
core_of bases.Byte = cores.Byte
core_of (bases.Char unsigned) = cores.Char
core_of (bases.Int unsigned size int_word) = cores.Int unsigned size

-- ---- the outermost pointer or array, and whether there are more. A string is an array where no pointer points to it

abbrev pub text_layer : Text → Option Layer
text_layer texts.Pointed = None
text_layer (texts.Fixed n) = Some (layers.Array n)
text_layer texts.Open = Some layers.OpenArray

abbrev pub core_layer : Core → Option Layer
core_layer (cores.Text text) = text_layer text
core_layer _ = None

abbrev pub first_layer : List Layer → Option Layer → Option Layer
first_layer [] inner = inner
first_layer (l ∷ ls) inner = Some l

abbrev pub is_deep : List Layer → Option Layer → Bool
is_deep [] inner = false
is_deep (l ∷ ls) inner = is_some (first_layer ls inner)

abbrev pub outer : DataType → Option Layer
outer t = first_layer t.layers (core_layer t.core)

abbrev pub deeper : DataType → Bool
deeper t = is_deep t.layers (core_layer t.core)

abbrev pub of_tag : DataType → TagType
of_tag t = record { core = t.core; by_value = is_none (outer t) }

-- ---- what a declarator adds

-- so many pointers of that class, one behind the other
abbrev pub chain : Pk → ℕ → List Layer → List Layer
chain class zero ls = ls
chain class (suc n) ls = layers.Pointer class ∷ chain class n ls

abbrev pub pointers : Pk → Pk → ℕ → List Layer → List Layer
pointers inner outermost n ls = if n == 0 then ls else layers.Pointer outermost ∷ chain inner (n - 1) ls

abbrev pub bound : Option Num → ℕ
bound None = 0
bound (Some n) = n.value

abbrev pub in_array : Extent → List Layer → List Layer
in_array extents.Single ls = ls
in_array extents.Open ls = layers.OpenArray ∷ ls
in_array (extents.Fixed size) ls = layers.Array (bound size) ∷ ls

-- the class of the outermost pointer
abbrev pub outermost : Manner → Extent → Pk
outermost m extents.Single = m.outer
outermost m _ = m.element

-- characters are no string by themselves
abbrev pub text_array : Extent → Core → Core
text_array extents.Single c = c
text_array extents.Open c = cores.Text texts.Open
text_array (extents.Fixed size) c = cores.Text (texts.Fixed (bound size))

abbrev pub text_core : ℕ → Extent → Core → Core
text_core n e c = if n == 0 then text_array e c else cores.Text texts.Pointed

-- characters themselves, of which string makes a text
abbrev pub is_char_core : Core → Bool
is_char_core cores.Char = true
is_char_core _ = false

abbrev pub is_characters : DataType → Bool
is_characters t = is_char_core t.core && is_none (outer t)

-- text: string makes a text of them
abbrev pub own_layers : Bool → Manner → ℕ → Extent → List Layer → List Layer
own_layers text m n e ls = if text && n == 0 then [] else in_array e (pointers m.inner (outermost m e) n ls)

abbrev pub own_core : Bool → ℕ → Extent → Core → Core
own_core text n e c = if text then text_core n e c else c

abbrev pub declared_with : Bool → Manner → ℕ → Extent → DataType → DataType
declared_with text m n e t = record { core = own_core text n e t.core; layers = own_layers text m n e t.layers }

abbrev pub declared_as : Manner → ℕ → Extent → DataType → DataType
declared_as m n e t = declared_with (m.text && is_characters t) m n e t

-- what a typedef with a word for context handles declares is one; kind: how many types of them there are before
abbrev pub declared_type : Bool → ℕ → Manner → ℕ → Extent → DataType → DataType
declared_type handle kind m n e t = if handle then bare (cores.ContextHandle kind m.serialised) else declared_as m n e t

-- what the name of a type stands for, and what a structure's tag does
abbrev pub or_unknown : Option DataType → DataType
or_unknown None = unknown
or_unknown (Some t) = t

abbrev pub struct_type : Option Structure → DataType
struct_type None = unknown
struct_type (Some s) = bare (cores.Struct s.ends_open s.number)

-- ---- a type that a conformant array ends, by value

abbrev pub open_core : Core → Bool
open_core (cores.Struct o number) = o
open_core _ = false

abbrev pub open_by : Option Layer → Core → Bool
open_by None c = open_core c
open_by (Some layers.OpenArray) c = true
open_by (Some _) c = false

abbrev pub is_open : DataType → Bool
is_open t = open_by (outer t) t.core
