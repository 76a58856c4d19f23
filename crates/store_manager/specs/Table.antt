-- The table of the store's interface.
use Rattle.std.specs.Prelude.{List, [], ◌∷◌, None, Bool, true, false, codes}
use Rattle.ndr_value.specs.declared.shape.Count.TheVariants.{Param}
use Rattle.ndr_value.specs.declared.shape.ArrayKind.TheVariants.{Conformant, ConformantVarying}
use Rattle.ndr_value.specs.Forms.{Form, OfByte, OfUint, OfText, OfArray, OfRef, OfHandle}
use Rattle.ndr_table.specs.declared.operation.HandleUse.{HandleUse}
use Rattle.ndr_table.specs.Tables.{OpForm, TableForm}
use Rattle.desk_kit.specs.TableParts.{goes_in, goes_out, goes_both, operation, used}

-- the first handle type is the cursor's, the second the view's
abbrev pub cursor : Form
cursor = OfHandle 0

abbrev pub view : Form
view = OfHandle 1

abbrev pub open_form : OpForm
open_form = operation (codes "store_open") (goes_in (OfRef (OfText None)) ∷ goes_out (OfRef cursor) ∷ [])

-- octets that the second parameter counts
abbrev pub counted : Form
counted = OfArray (Conformant (Param 1 false 0)) OfByte

abbrev pub append_form : OpForm
append_form = operation (codes "store_append") (goes_both (OfRef cursor) ∷ goes_in (OfUint 4) ∷ goes_in counted ∷ [])

-- at most as many octets as the second parameter says, and as many as the third points to
abbrev pub at_most : Form
at_most = OfArray (ConformantVarying (Param 1 false 0) (Param 2 true 0)) OfByte

abbrev pub read_form : OpForm
read_form = operation (codes "store_read") (goes_both (OfRef cursor) ∷ goes_in (OfUint 4) ∷ goes_out (OfRef (OfUint 4)) ∷ goes_out at_most ∷ [])

abbrev pub close_form : OpForm
close_form = operation (codes "store_close") (goes_both (OfRef cursor) ∷ [])

abbrev pub view_form : OpForm
view_form = operation (codes "store_view") (goes_in cursor ∷ goes_out (OfRef view) ∷ [])

abbrev pub size_form : OpForm
size_form = operation (codes "store_size") (goes_in view ∷ goes_out (OfRef (OfUint 8)) ∷ [])

abbrev pub unview_form : OpForm
unview_form = operation (codes "store_unview") (goes_both (OfRef view) ∷ [])

-- calls with one cursor come one after another; calls with one view don't wait for each other
abbrev pub of_cursor : Bool → Bool → HandleUse
of_cursor inward outward = used 0 inward outward true

abbrev pub of_view : Bool → Bool → HandleUse
of_view inward outward = used 1 inward outward false

abbrev pub store_uses : List (List HandleUse)
store_uses = (of_cursor false true ∷ [])
    ∷ (of_cursor true true ∷ [])
    ∷ (of_cursor true true ∷ [])
    ∷ (of_cursor true true ∷ [])
    ∷ (of_cursor true false ∷ of_view false true ∷ [])
    ∷ (of_view true false ∷ [])
    ∷ (of_view true true ∷ []) ∷ []

abbrev pub store_table : TableForm
store_table = record {
  id = record { id = 0x9b ∷ 0x1d ∷ 0x3c ∷ 0x7e ∷ 0x52 ∷ 0xf4 ∷ 0x4a ∷ 0x0b ∷ 0x8e ∷ 0x6d ∷ 0x1f ∷ 0x0c ∷ 0x2a ∷ 0x3b ∷ 0x4d ∷ 0x5e ∷ []; major = 1; minor = 0 };
  types = [];
  ops = open_form ∷ append_form ∷ read_form ∷ close_form ∷ view_form ∷ size_form ∷ unview_form ∷ [];
  uses = store_uses;
}
