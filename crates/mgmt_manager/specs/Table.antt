-- The table of the management interface.
use Rattle.std.specs.Prelude.{List, [], ◌∷◌, Some, None, true, codes}
use Rattle.ndr_value.specs.declared.shape.Count.TheVariants.{Param, Member}
use Rattle.ndr_value.specs.declared.shape.ArrayKind.TheVariants.{Conformant}
use Rattle.ndr_value.specs.Forms.{Form, OfUint, OfStruct, OfArray, OfRef, OfFull, no_form, then_form}
use Rattle.ndr_table.specs.Tables.{OpForm, TableForm}
use Rattle.desk_kit.specs.TableParts.{named, uuid_form, syntax_form, goes_out, goes_both, number_out, procedure}

-- ---- types

-- a pointer to an interface's identifier, which is type 1
abbrev pub syntax_pointer : Form
syntax_pointer = OfFull (named 1)

-- as many pointers as the first member says
abbrev pub vector_form : Form
vector_form = OfStruct (then_form (OfUint 4) (then_form (OfArray (Conformant (Member 0 0)) syntax_pointer) no_form))

abbrev pub mgmt_types : List Form
mgmt_types = uuid_form ∷ syntax_form ∷ vector_form ∷ []

-- ---- operations

abbrev pub ids_form : OpForm
ids_form = procedure (codes "inq_if_ids") (goes_out (OfRef (OfFull (named 2))) ∷ number_out ∷ []) None

-- as many as the first parameter points to
abbrev pub statistics : Form
statistics = OfArray (Conformant (Param 0 true 0)) (OfUint 4)

abbrev pub stats_form : OpForm
stats_form = procedure (codes "inq_stats") (goes_both (OfRef (OfUint 4)) ∷ goes_out statistics ∷ number_out ∷ []) None

abbrev pub listening_form : OpForm
listening_form = procedure (codes "is_server_listening") (number_out ∷ []) (Some (OfUint 4))

abbrev pub mgmt_table : TableForm
mgmt_table = record {
  id = record { id = 0xaf ∷ 0xa8 ∷ 0xbd ∷ 0x80 ∷ 0x7d ∷ 0x8a ∷ 0x11 ∷ 0xc9 ∷ 0xbe ∷ 0xf4 ∷ 0x08 ∷ 0x00 ∷ 0x2b ∷ 0x10 ∷ 0x29 ∷ 0x89 ∷ []; major = 1; minor = 0 };
  types = mgmt_types;
  ops = ids_form ∷ stats_form ∷ listening_form ∷ [];
  uses = [] ∷ [] ∷ [] ∷ [];
}
