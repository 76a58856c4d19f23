-- The shapes of a table suit the types by which the rules judge an interface: what stands behind all pointers and arrays, and the outermost
-- of these. The types of a table are the bodies of the text, in the order in which they end.
use Rattle.std.specs.Prelude.{◌≡◌, ◌==◌, Bool, true, false, not, ◌&&◌, List, [], ◌∷◌, ◌++◌, Option, Some, None, if◌then◌else◌}
use Rattle.std.specs.List.{flat_map}
use Rattle.idl_tree.specs.declared.leaf.Pk.{Pk}
use Rattle.idl_tree.specs.declared.leaf.Pk.TheVariants as pks
use Rattle.idl_tree.specs.declared.declaration.Ast.{Ast}
use Rattle.idl_forms.specs.Forms.{tree_form}
use Rattle.idl_outline.specs.declared.ty.DataType.{DataType}
use Rattle.idl_outline.specs.declared.ty.Core.{Core}
use Rattle.idl_outline.specs.declared.ty.Core.TheVariants as cores
use Rattle.idl_outline.specs.declared.ty.Layer.{Layer}
use Rattle.idl_outline.specs.declared.ty.Layer.TheVariants as layers
use Rattle.idl_outline.specs.declared.field.Declared.{Declared}
use Rattle.idl_outline.specs.declared.field.Field.{Field}
use Rattle.idl_outline.specs.declared.event.Event.{Event}
use Rattle.idl_outline.specs.declared.event.Event.TheVariants as events
use Rattle.idl_outline.specs.Names.{Past}
use Rattle.idl_outline.specs.Types.{outer}
use Rattle.idl_outline.specs.Outline.{outline}
use Rattle.idl_rules.specs.Types.{is_void}
use Rattle.ndr_value.specs.declared.shape.ArrayKind.{ArrayKind}
use Rattle.ndr_value.specs.declared.shape.ArrayKind.TheVariants.{Fixed, Varying}
use Rattle.ndr_value.specs.Forms.{Form, OfBool, OfByte, OfChar, OfInt, OfUint, OfEnum, OfNamed, OfStruct, OfUnion, OfArray, OfText, OfRef, OfUnique, OfFull, OfHandle, Forms, no_form, then_form, empty, holds, ArmForms, no_arm, then_arm}
use Rattle.ndr_table.specs.Aligned.{octets_of}
use Rattle.ndr_table.specs.Tables.{ParamForm, OpForm}
use Rattle.marshal_table.specs.Interfaces.{is_listed, tabled}

-- ---- a type and a shape

-- what stands behind all pointers and arrays
abbrev pub bottom : Form → Form
bottom (OfArray kind s) = bottom s
bottom (OfRef s) = bottom s
bottom (OfUnique s) = bottom s
bottom (OfFull s) = bottom s
bottom s = s

-- no value is of the last three
abbrev pub is_kind : Core → Form → Bool
is_kind cores.Boolean OfBool = true
is_kind cores.Byte OfByte = true
is_kind cores.Char OfChar = true
is_kind (cores.Text text) (OfText most) = true
is_kind (cores.Int unsigned size) (OfInt n) = not unsigned && octets_of size == n
is_kind (cores.Int unsigned size) (OfUint n) = unsigned && octets_of size == n
is_kind cores.ErrorStatus (OfUint n) = n == 4
is_kind (cores.Enum count) (OfEnum n) = count == n
is_kind (cores.Struct ends number) (OfNamed other switch) = number == other
is_kind (cores.Union switched number) (OfNamed other switch) = number == other
is_kind (cores.ContextHandle kind serialised) (OfHandle other) = kind == other
is_kind cores.Void s = true
is_kind cores.HandleT s = true
is_kind cores.Unknown s = true
is_kind c s = false

abbrev pub is_fixed : ArrayKind → Bool
is_fixed (Fixed n) = true
is_fixed (Varying n travel) = true
is_fixed _ = false

abbrev pub is_pointer : Pk → Form → Bool
is_pointer pks.Ref (OfRef s) = true
is_pointer pks.Unique (OfUnique s) = true
is_pointer pks.Ptr (OfFull s) = true
is_pointer class s = false

-- a text is an array of characters: of a fixed size, or a conformant one
abbrev pub is_array : Bool → Form → Bool
is_array true (OfArray kind s) = is_fixed kind
is_array false (OfArray kind s) = not (is_fixed kind)
is_array fixed (OfText None) = not fixed
is_array fixed (OfText (Some n)) = fixed
is_array fixed s = false

-- neither a pointer nor an array; a text is one where it is a pointer's alone
abbrev pub is_value : Form → Bool
is_value (OfArray kind s) = false
is_value (OfRef s) = false
is_value (OfUnique s) = false
is_value (OfFull s) = false
is_value s = true

abbrev pub is_layer : Option Layer → Form → Bool
is_layer None s = is_value s
is_layer (Some (layers.Pointer class)) s = is_pointer class s
is_layer (Some (layers.Array n)) s = is_array true s
is_layer (Some layers.OpenArray) s = is_array false s

abbrev pub suits : DataType → Form → Bool
suits t s = is_layer (outer t) s && is_kind t.core (bottom s)

-- ---- bodies

-- the fields of each body, the first that ended first
abbrev pub fields_in : Event → List (List Field)
fields_in (events.Body tag fs) = fs ∷ []
fields_in _ = []

abbrev pub all_bodies : Past → List (List Field)
all_bodies [] = []
all_bodies (e ∷ p) = all_bodies p ++ fields_in e

-- shapes that suit the types of declarators, one by one
abbrev pub row_suits : List Declared → Forms → Bool
row_suits [] no_form = true
row_suits (d ∷ ds) (then_form s ss) = suits d.ty s && row_suits ds ss
row_suits _ _ = false

abbrev pub all_declared : List Field → List Declared
all_declared fs = flat_map (λ f. f.declared) fs

-- what an arm holds: several declarators are a structure
abbrev pub held_suits : List Declared → Form → Bool
held_suits (d ∷ []) s = suits d.ty s
held_suits ds (OfStruct ss) = row_suits ds ss
held_suits _ _ = false

-- the declarators of each arm that has some
abbrev pub some_declared : List Declared → List (List Declared)
some_declared [] = []
some_declared (d ∷ ds) = (d ∷ ds) ∷ []

abbrev pub each_declared : List Field → List (List Declared)
each_declared fs = flat_map (λ f. some_declared f.declared) fs

abbrev pub arms_suit : ArmForms → List (List Declared) → Bool
arms_suit no_arm [] = true
arms_suit no_arm (ds ∷ dss) = false
arms_suit (then_arm cases default empty rest) dss = arms_suit rest dss
arms_suit (then_arm cases default (holds s) rest) [] = false
arms_suit (then_arm cases default (holds s) rest) (ds ∷ dss) = held_suits ds s && arms_suit rest dss

abbrev pub body_suits : List Field → Form → Bool
body_suits fs (OfStruct ss) = row_suits (all_declared fs) ss
body_suits fs (OfUnion tag arms) = arms_suit arms (each_declared fs)
body_suits fs _ = false

abbrev pub bodies_suit : List (List Field) → List Form → Bool
bodies_suit [] [] = true
bodies_suit (fs ∷ fss) (t ∷ ts) = body_suits fs t && bodies_suit fss ts
bodies_suit _ _ = false

abbrev pub BodiesSuit : Type 0
BodiesSuit = (tree : Ast) → bodies_suit (all_bodies (outline (tree_form tree))) (tabled tree).types ≡ true

-- ---- parameters and results

abbrev pub all_suit : List Declared → List ParamForm → Bool
all_suit [] [] = true
all_suit (d ∷ ds) (x ∷ xs) = suits d.ty x.shape && all_suit ds xs
all_suit _ _ = false

-- the parameters that are listed
abbrev pub listed_in : Field → List Declared
listed_in f = if is_listed f then f.declared else []

abbrev pub result_suits : DataType → Option Form → Bool
result_suits t None = is_void t.core
result_suits t (Some s) = suits t s

abbrev pub op_suits : Field → List Field → OpForm → Bool
op_suits r fs o = result_suits r.spec o.result && all_suit (flat_map listed_in fs) o.params

abbrev pub Call : Type 0
Call = Field × List Field

abbrev pub calls_in : Event → List Call
calls_in (events.Call r fs) = (r, fs) ∷ []
calls_in _ = []

abbrev pub all_calls : Past → List Call
all_calls [] = []
all_calls (e ∷ p) = all_calls p ++ calls_in e

abbrev pub ops_suit : List Call → List OpForm → Bool
ops_suit [] [] = true
ops_suit (c ∷ cs) (o ∷ os) = op_suits c.0 c.1 o && ops_suit cs os
ops_suit _ _ = false

abbrev pub OperationsSuit : Type 0
OperationsSuit = (tree : Ast) → ops_suit (all_calls (outline (tree_form tree))) (tabled tree).ops ≡ true
