-- The shapes of types and of what declarators declare.
use Rattle.std.specs.Prelude.{ℕ, ◌+◌, Bool, List, [], ◌∷◌, Option, Some, None, if◌then◌else◌, bytes_eq}
use Rattle.std.specs.Option.{option_or}
use Rattle.idl_tree.specs.declared.leaf.Ident.{Ident}
use Rattle.idl_tree.specs.declared.leaf.Pk.{Pk}
use Rattle.idl_tree.specs.declared.leaf.Pk.TheVariants as pks
use Rattle.idl_names.specs.declared.place.Extent.{Extent}
use Rattle.idl_names.specs.declared.place.Extent.TheVariants as extents
use Rattle.idl_names.specs.declared.place.Place.{Place}
use Rattle.idl_names.specs.declared.place.Place.TheVariants as places
use Rattle.idl_names.specs.Declarators.{value_of}
use Rattle.idl_outline.specs.declared.ty.DataType.{DataType}
use Rattle.idl_outline.specs.declared.ty.Core.{Core}
use Rattle.idl_outline.specs.declared.ty.Core.TheVariants as cores
use Rattle.idl_outline.specs.declared.ty.Text.{Text}
use Rattle.idl_outline.specs.declared.ty.Text.TheVariants as texts
use Rattle.idl_outline.specs.declared.ty.Layer.{Layer}
use Rattle.idl_outline.specs.declared.ty.Layer.TheVariants as layers
use Rattle.idl_outline.specs.declared.field.Size.{Size}
use Rattle.idl_outline.specs.declared.field.Size.TheVariants as sizes
use Rattle.idl_outline.specs.declared.field.Mark.{Mark}
use Rattle.idl_outline.specs.declared.field.Mark.TheVariants as marks
use Rattle.idl_outline.specs.declared.field.Attribute.{Attribute}
use Rattle.idl_outline.specs.declared.field.Declared.{Declared}
use Rattle.ndr_value.specs.declared.shape.ArrayKind.{ArrayKind}
use Rattle.ndr_value.specs.declared.shape.ArrayKind.TheVariants.{Fixed, Varying, Conformant, ConformantVarying}
use Rattle.ndr_value.specs.declared.shape.Count.{Count}
use Rattle.ndr_value.specs.declared.shape.Count.TheVariants as counts
use Rattle.ndr_value.specs.Forms.{Form, OfBool, OfByte, OfChar, OfInt, OfUint, OfEnum, OfNamed, OfStruct, OfArray, OfText, OfRef, OfUnique, OfFull, OfHandle, no_form}
use Rattle.ndr_table.specs.Aligned.{octets_of}
use Rattle.ndr_table.specs.declared.operation.Bounds.{Bounds}
use Rattle.marshal_table.specs.declared.said.Terms.{Terms}

-- ---- types

-- what has no values has the shape of a structure without members, which no table has
abbrev pub nothing : Form
nothing = OfStruct no_form

abbrev pub int_form : Bool → ℕ → Form
int_form unsigned size = if unsigned then OfUint (octets_of size) else OfInt (octets_of size)

abbrev pub text_form : Text → Form
text_form texts.Pointed = OfText None
text_form (texts.Fixed n) = OfText (Some n)
text_form texts.Open = OfText None

-- what stands behind all pointers and arrays. switch: what names the tag of a union that has no switch
abbrev pub core_form : Option Count → Core → Form
core_form switch cores.Boolean = OfBool
core_form switch cores.Byte = OfByte
core_form switch cores.Char = OfChar
core_form switch (cores.Text text) = text_form text
core_form switch (cores.Int unsigned size) = int_form unsigned size
core_form switch cores.ErrorStatus = OfUint 4
core_form switch (cores.Enum names) = OfEnum names
core_form switch (cores.Struct ends number) = OfNamed number switch
core_form switch (cores.Union switched number) = OfNamed number switch
core_form switch (cores.ContextHandle kind serialised) = OfHandle kind
core_form switch _ = nothing

abbrev pub pointer : Pk → Form → Form
pointer pks.Ref s = OfRef s
pointer pks.Unique s = OfUnique s
pointer pks.Ptr s = OfFull s

abbrev pub array : ArrayKind → Form → Form
array kind s = OfArray kind s

abbrev pub layer : Layer → Form → Form
layer (layers.Pointer class) s = pointer class s
layer (layers.Array n) s = OfArray (Fixed n) s
layer layers.OpenArray s = OfArray (Conformant (counts.Number 0)) s

abbrev pub layered : List Layer → Form → Form
layered [] s = s
layered (l ∷ ls) s = layer l (layered ls s)

abbrev pub type_form : DataType → Form
type_form t = layered t.layers (core_form None t.core)

-- ---- what attributes give: counts name a parameter, or a member of the same body, by its index

abbrev pub given : {X : Type 0} → (Mark → Option X) → List Attribute → Option X
given f [] = None
given f (a ∷ as') = option_or (f a.mark) (given f as')

abbrev pub index_of : List ℕ → List Ident → ℕ
index_of name [] = 0
index_of name (i ∷ is) = if bytes_eq i.text name then 0 else index_of name is + 1

abbrev pub named_count : Place → List Ident → ℕ → Bool → Ident → Count
named_count places.Parameter names plus star i = counts.Param (index_of i.text names) star plus
named_count _ names plus star i = counts.Member (index_of i.text names) plus

abbrev pub count : Place → List Ident → ℕ → Size → Count
count place names plus (sizes.Number n) = counts.Number (n + plus)
count place names plus (sizes.Of n) = named_count place names plus n.star n.name

-- how many elements there may be: max_is names the greatest index, one less
abbrev pub most_in : Place → List Ident → Mark → Option Count
most_in place names (marks.SizeIs s) = Some (count place names 0 s)
most_in place names (marks.MaxIs s) = Some (count place names 1 s)
most_in place names _ = None

abbrev pub travel_in : Place → List Ident → Mark → Option Count
travel_in place names (marks.LengthIs s) = Some (count place names 0 s)
travel_in place names _ = None

abbrev pub switch_in : Place → List Ident → Mark → Option Count
switch_in place names (marks.SwitchIs n) = Some (named_count place names 0 n.star n.name)
switch_in place names _ = None

-- the numbers that a parameter may be
abbrev pub range_in : Mark → Option Bounds
range_in (marks.Range low high) = Some (record { low = value_of low; high = value_of high })
range_in _ = None

-- names: those of all parameters, or of all members of the body
abbrev pub terms : Place → List Ident → List Attribute → Terms
terms place names as' = record { most = given (most_in place names) as'; travel = given (travel_in place names) as'; switch = given (switch_in place names) as' }

-- ---- a declarator: its own array is the outermost layer, unless it is a text

abbrev pub or_none : Option Count → Count
or_none None = counts.Number 0
or_none (Some c) = c

abbrev pub open_kind : Count → Option Count → ArrayKind
open_kind most None = Conformant most
open_kind most (Some travel) = ConformantVarying most travel

abbrev pub fixed_kind : ℕ → Option Count → ArrayKind
fixed_kind n None = Fixed n
fixed_kind n (Some travel) = Varying n travel

abbrev pub counted : Terms → Layer → Form → Form
counted t (layers.Pointer class) s = pointer class s
counted t (layers.Array n) s = OfArray (fixed_kind n t.travel) s
counted t layers.OpenArray s = OfArray (open_kind (or_none t.most) t.travel) s

abbrev pub own_layers : Terms → List Layer → Form → Form
own_layers t [] s = s
own_layers t (l ∷ ls) s = counted t l (layered ls s)

abbrev pub by_extent : Terms → Extent → List Layer → Form → Form
by_extent t extents.Single ls s = layered ls s
by_extent t _ ls s = own_layers t ls s

abbrev pub declared_form : Terms → Declared → Form
declared_form t d = by_extent t d.extent d.ty.layers (core_form t.switch d.ty.core)
