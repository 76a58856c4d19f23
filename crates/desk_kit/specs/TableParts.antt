-- Shapes, parameters, operations and uses of handles as a table has them.
use Rattle.std.specs.Prelude.{ℕ, Bool, true, false, List, Option, Some, None}
use Rattle.ndr_value.specs.declared.shape.ArrayKind.TheVariants.{Fixed}
use Rattle.ndr_value.specs.Forms.{Form, OfByte, OfUint, OfNamed, OfStruct, OfArray, OfRef, no_form, then_form}
use Rattle.ndr_table.specs.declared.operation.HandleUse.{HandleUse}
use Rattle.ndr_table.specs.Tables.{ParamForm, OpForm}

-- ---- shapes

-- the type of that number
abbrev pub named : ℕ → Form
named number = OfNamed number None

-- a UUID: numbers of 32, 16 and 16 bits, and eight octets
abbrev pub uuid_form : Form
uuid_form = OfStruct (then_form (OfUint 4) (then_form (OfUint 2) (then_form (OfUint 2) (then_form (OfArray (Fixed 8) OfByte) no_form))))

-- the identifier of an interface: a UUID, which is type 0, and the two numbers of its version
abbrev pub syntax_form : Form
syntax_form = OfStruct (then_form (named 0) (then_form (OfUint 2) (then_form (OfUint 2) no_form)))

-- ---- parameters

-- one that goes in, out, or both ways
abbrev pub goes_in : Form → ParamForm
goes_in s = record { shape = s; inward = true; outward = false; range = None }

abbrev pub goes_out : Form → ParamForm
goes_out s = record { shape = s; inward = false; outward = true; range = None }

abbrev pub goes_both : Form → ParamForm
goes_both s = record { shape = s; inward = true; outward = true; range = None }

-- a number of 32 bits that comes out, as a status does
abbrev pub number_out : ParamForm
number_out = goes_out (OfRef (OfUint 4))

-- ---- operations

-- one whose result is an error_status_t, and one with another result or none
abbrev pub operation : List ℕ → List ParamForm → OpForm
operation name params = record { name = name; params = params; result = Some (OfUint 4); status = true; maybe = false }

abbrev pub procedure : List ℕ → List ParamForm → Option Form → OpForm
procedure name params result = record { name = name; params = params; result = result; status = false; maybe = false }

abbrev pub used : ℕ → Bool → Bool → Bool → HandleUse
used kind inward outward serialised = record { kind = kind; inward = inward; outward = outward; serialised = serialised }
