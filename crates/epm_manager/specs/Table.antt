-- The table of the endpoint map's interface.
use Rattle.std.specs.Prelude.{ℕ, ◌+◌, List, [], ◌∷◌, Some, None, true, false, codes}
use Rattle.ndr_value.specs.declared.shape.Count.TheVariants.{Param, Member}
use Rattle.ndr_value.specs.declared.shape.ArrayKind.TheVariants.{Conformant, ConformantVarying}
use Rattle.ndr_value.specs.Forms.{Form, OfByte, OfUint, OfStruct, OfText, OfArray, OfRef, OfFull, OfHandle, no_form, then_form}
use Rattle.ndr_table.specs.declared.operation.HandleUse.{HandleUse}
use Rattle.ndr_table.specs.Tables.{ParamForm, OpForm, TableForm}
use Rattle.desk_kit.specs.TableParts.{named, uuid_form, syntax_form, goes_in, goes_out, goes_both, number_out, procedure, used}

-- ---- types, by number: a UUID, an interface, a tower, an entry

-- as many octets as the first member says
abbrev pub tower_form : Form
tower_form = OfStruct (then_form (OfUint 4) (then_form (OfArray (Conformant (Member 0 0)) OfByte) no_form))

abbrev pub entry_form : Form
entry_form = OfStruct (then_form (named 0) (then_form (OfFull (named 2)) (then_form (OfText (Some 64)) no_form)))

abbrev pub epm_types : List Form
epm_types = uuid_form ∷ syntax_form ∷ tower_form ∷ entry_form ∷ []

-- ---- operations, which have no result

abbrev pub handle_form : ParamForm
handle_form = goes_both (OfRef (OfHandle 0))

-- as many entries as the first parameter says
abbrev pub entries_in : ParamForm
entries_in = goes_in (OfArray (Conformant (Param 0 false 0)) (named 3))

-- at most as many as a parameter says, and as many as the next one points to
abbrev pub found_out : ℕ → Form → ParamForm
found_out most s = goes_out (OfArray (ConformantVarying (Param most false 0) (Param (most + 1) true 0)) s)

abbrev pub insert_form : OpForm
insert_form = procedure (codes "ept_insert") (goes_in (OfUint 4) ∷ entries_in ∷ goes_in (OfUint 4) ∷ number_out ∷ []) None

abbrev pub delete_form : OpForm
delete_form = procedure (codes "ept_delete") (goes_in (OfUint 4) ∷ entries_in ∷ number_out ∷ []) None

abbrev pub lookup_form : OpForm
lookup_form = procedure (codes "ept_lookup") (goes_in (OfUint 4) ∷ goes_in (OfFull (named 0)) ∷ goes_in (OfFull (named 1)) ∷ goes_in (OfUint 4) ∷ handle_form
    ∷ goes_in (OfUint 4) ∷ number_out ∷ found_out 5 (named 3) ∷ number_out ∷ []) None

abbrev pub map_form : OpForm
map_form = procedure (codes "ept_map") (goes_in (OfFull (named 0)) ∷ goes_in (OfFull (named 2)) ∷ handle_form
    ∷ goes_in (OfUint 4) ∷ number_out ∷ found_out 3 (OfFull (named 2)) ∷ number_out ∷ []) None

abbrev pub free_form : OpForm
free_form = procedure (codes "ept_lookup_handle_free") (handle_form ∷ number_out ∷ []) None

-- calls with one handle come one after another
abbrev pub of_lookup : List HandleUse
of_lookup = used 0 true true true ∷ []

abbrev pub epm_table : TableForm
epm_table = record {
  id = record { id = 0xe1 ∷ 0xaf ∷ 0x83 ∷ 0x08 ∷ 0x5d ∷ 0x1f ∷ 0x11 ∷ 0xc9 ∷ 0x91 ∷ 0xa4 ∷ 0x08 ∷ 0x00 ∷ 0x2b ∷ 0x14 ∷ 0xa0 ∷ 0xfa ∷ []; major = 3; minor = 0 };
  types = epm_types;
  ops = insert_form ∷ delete_form ∷ lookup_form ∷ map_form ∷ free_form ∷ [];
  uses = [] ∷ [] ∷ of_lookup ∷ of_lookup ∷ of_lookup ∷ [];
}
