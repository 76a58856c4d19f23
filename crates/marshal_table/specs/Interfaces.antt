-- The table of an interface: a map over its outline.
use Rattle.std.specs.Prelude.{ℕ, Bool, true, false, not, ◌&&◌, is_none, nat_le, length, List, [], ◌∷◌, ◌++◌, map, Option, Some, None, if◌then◌else◌}
use Rattle.std.specs.List.{flat_map}
use Rattle.std.specs.Option.{option_or}
use Rattle.uuid.specs.Parts.{zero_bytes}
use Rattle.rpc_base.specs.declared.identifiers.SyntaxId.{SyntaxId}
use Rattle.idl_tree.specs.declared.leaf.Ident.{Ident}
use Rattle.idl_tree.specs.declared.leaf.Num.{Num}
use Rattle.idl_tree.specs.declared.declaration.Ast.{Ast}
use Rattle.idl_forms.specs.Forms as idl
use Rattle.idl_outline.specs.declared.ty.DataType.{DataType}
use Rattle.idl_outline.specs.declared.ty.Core.{Core}
use Rattle.idl_outline.specs.declared.ty.Core.TheVariants as cores
use Rattle.idl_outline.specs.declared.field.Declared.{Declared}
use Rattle.idl_outline.specs.declared.field.Field.{Field}
use Rattle.idl_outline.specs.declared.event.Event.{Event}
use Rattle.idl_outline.specs.declared.event.Event.TheVariants as events
use Rattle.idl_outline.specs.Names.{Past}
use Rattle.idl_outline.specs.Types.{outer}
use Rattle.idl_outline.specs.Outline.{outline}
use Rattle.idl_rules.specs.Types.{is_handle_t, says_in, says_out, says_maybe, has}
use Rattle.ndr_value.specs.Forms.{Form}
use Rattle.ndr_table.specs.declared.operation.HandleUse.{HandleUse}
use Rattle.ndr_table.specs.Tables.{ParamForm, OpForm, TableForm}
use Rattle.marshal_table.specs.Shapes.{type_form, given, range_in, terms, declared_form}
use Rattle.marshal_table.specs.Bodies.{names_in, type_in}

-- ---- parameters. handle_t is not listed, and has no index

abbrev pub is_listed : Field → Bool
is_listed f = not (is_handle_t f.spec.core)

abbrev pub one_param : List Ident → Field → Declared → ParamForm
one_param names f d =
    record { shape = declared_form (terms f.place names f.attributes) d; inward = has says_in f; outward = has says_out f; range = given range_in f.attributes }

-- what a parameter adds to the list, and the name
abbrev pub params_listed : List Ident → Field → List ParamForm
params_listed names f = if is_listed f then map (one_param names f) f.declared else []

abbrev pub listed_names : Field → List Ident
listed_names f = if is_listed f then names_in f else []

abbrev pub names_listed : List Field → List Ident
names_listed fs = flat_map listed_names fs

-- a context handle is one by value, or behind the pointer through which it comes back
abbrev pub core_use : Bool → Bool → Core → List HandleUse
core_use inward outward (cores.ContextHandle kind serialised) = record { kind = kind; inward = inward; outward = outward; serialised = serialised } ∷ []
core_use inward outward _ = []

abbrev pub use_in : Field → List HandleUse
use_in f = core_use (has says_in f) (has says_out f) f.spec.core

-- ---- operations

abbrev pub params_of : List Field → List ParamForm
params_of fs = flat_map (params_listed (names_listed fs)) fs

abbrev pub core_result : Core → Form → Option Form
core_result cores.Void s = None
core_result _ s = Some s

abbrev pub is_status_core : Core → Bool
is_status_core cores.ErrorStatus = true
is_status_core _ = false

abbrev pub is_status : DataType → Bool
is_status t = is_status_core t.core && is_none (outer t)

-- the result's declarator has the operation's name
abbrev pub name_of : List Declared → List ℕ
name_of [] = []
name_of (d ∷ ds) = d.name.text

abbrev pub op_of : Field → List Field → OpForm
op_of r fs = record { name = name_of r.declared; params = params_of fs; result = core_result r.spec.core (type_form r.spec); status = is_status r.spec; maybe = has says_maybe r }

abbrev pub op_in : Event → List OpForm
op_in (events.Call r fs) = op_of r fs ∷ []
op_in _ = []

-- the handles of an operation, in the order of its parameters
abbrev pub uses_in : Event → List (List HandleUse)
uses_in (events.Call r fs) = flat_map use_in fs ∷ []
uses_in _ = []

-- an operation has four handles at most
abbrev pub is_few : List HandleUse → Bool
is_few us = nat_le (length us) 4

-- ---- the interface's own attributes

abbrev pub uuid_in : idl.FileKindForm → Option (List ℕ)
uuid_in (idl.OfUuid u) = Some u
uuid_in _ = None

abbrev pub minor_of : Option Num → ℕ
minor_of None = 0
minor_of (Some n) = n.value

abbrev pub version_in : idl.FileKindForm → Option (ℕ × ℕ)
version_in (idl.OfVersion major minor) = Some (major.value, minor_of minor)
version_in _ = None

abbrev pub first_in : {X : Type 0} → (idl.FileKindForm → Option X) → List idl.FileForm → Option X
first_in f [] = None
first_in f (a ∷ as') = option_or (f a.what) (first_in f as')

abbrev pub id_or : Option (List ℕ) → List ℕ
id_or None = zero_bytes
id_or (Some u) = u

-- version 0.0 where none is given
abbrev pub version_or : Option (ℕ × ℕ) → ℕ × ℕ
version_or None = (0, 0)
version_or (Some v) = v

abbrev pub syntax_of : List idl.FileForm → SyntaxId
syntax_of as' = record { id = id_or (first_in uuid_in as'); major = (version_or (first_in version_in as')).0; minor = (version_or (first_in version_in as')).1 }

-- ---- the table

-- what each event gives, in the order of the text
abbrev pub collected : {X : Type 0} → (Event → List X) → Past → List X
collected f [] = []
collected f (e ∷ past) = collected f past ++ f e

abbrev pub table_of : idl.TreeForm → TableForm
table_of tree =
    let past : Past = outline tree in
    record { id = syntax_of tree.attributes; types = collected type_in past; ops = collected op_in past; uses = collected uses_in past }

abbrev pub tabled : Ast → TableForm
tabled tree = table_of (idl.tree_form tree)
