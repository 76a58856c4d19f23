-- How the pieces of a flat part are read, with the first departure.
use Rattle.std.specs.Prelude.{ℕ, ◌+◌, ◌^◌, ℤ, pos, List, length, take, drop, Option, Some, None, Result, Ok, Err, nat_lt, ◌==◌, if◌then◌else◌}
use Rattle.rpc_base.specs.declared.identifiers.Order.{Order}
use Rattle.rpc_base.specs.declared.identifiers.WireHandle.{WireHandle}
use Rattle.rpc_base.specs.Fields.{wire_of}
use Rattle.ndr_value.specs.declared.shape.ArrayKind.{ArrayKind}
use Rattle.ndr_value.specs.Forms.{Form, OfBool, OfChar, OfInt, OfUint, OfEnum, OfStruct, Forms, Body, ArmForms}
use Rattle.ndr_value.specs.Fits.{selected}
use Rattle.ndr_scalars.specs.Scalars.{up, octets_of, signed, number_at}
use Rattle.ndr_arrays.specs.declared.counts.Counts.{Counts}
use Rattle.ndr_arrays.specs.declared.counts.CountFault.{CountFault}
use Rattle.ndr_arrays.specs.declared.counts.CountFault.TheVariants as counting
use Rattle.ndr_arrays.specs.declared.texts.TextFault.{TextFault}
use Rattle.ndr_arrays.specs.declared.texts.TextFault.TheVariants as texts
use Rattle.ndr_arrays.specs.Bind.{◌>>=◌}
use Rattle.ndr_arrays.specs.Counted.{counts_at}
use Rattle.ndr_arrays.specs.Texts.{text_at}
use Rattle.ndr_model.specs.declared.departure.Departure.{Departure}
use Rattle.ndr_model.specs.declared.departure.Departure.TheVariants.{Short, Bound, Tag, Text}
use Rattle.ndr_model.specs.Part.{opens_with, in_place}

abbrev pub unless_short : {A : Type 0} → ℕ → Option A → Result A Departure
unless_short n None = Err (Short n)
unless_short n (Some x) = Ok x

abbrev pub of_counts : {A : Type 0} → Result A CountFault → Result A Departure
of_counts (Ok x) = Ok x
of_counts (Err (counting.Short n)) = Err (Short n)
of_counts (Err (counting.Bound i)) = Err (Bound i)

abbrev pub of_text : {A : Type 0} → Result A TextFault → Result A Departure
of_text (Ok x) = Ok x
of_text (Err (texts.Short n)) = Err (Short n)
of_text (Err (texts.Bound i)) = Err (Bound i)
of_text (Err (texts.Text i)) = Err (Text i)

-- a tag at index i that is no name of its enumeration: without an arm it departs as a tag, with one as a name
abbrev pub unnamed : Option Body → ℕ → Departure
unnamed None i = Tag i
unnamed (Some arm) i = Text i

module _ (order : Order) (octets : List ℕ) where
  abbrev pub number : ℕ → ℕ → Result (ℕ × ℕ) Departure
  number size i = unless_short (length octets) (number_at order size octets i)

  -- a name of an enumeration of so many
  abbrev pub name_at : ℕ → ℕ → Result (ℕ × ℕ) Departure
  name_at count i = number 2 i >>= λ x. (if nat_lt x.0 count then Ok x else Err (Text (up i 2)))

  abbrev pub wire_at : ℕ → Result (WireHandle × ℕ) Departure
  wire_at i = if nat_lt (length octets) (up i 4 + 20) then Err (Short (length octets)) else Ok (wire_of order (take 20 (drop (up i 4) octets)), up i 4 + 20)

  abbrev pub chars_at : Option ℕ → Option ℕ → ℕ → Result (List ℕ × ℕ) Departure
  chars_at size moved i = of_text (text_at order octets size moved i)

  abbrev pub array_at : ArrayKind → Option ℕ → ℕ → Result (Counts × ℕ) Departure
  array_at kind moved i = of_counts (counts_at order octets kind moved i)

  -- a tag of that shape, of a union of those arms
  abbrev pub tag_at : Form → ArmForms → ℕ → Result (ℤ × ℕ) Departure
  tag_at OfBool arms i = number 1 i >>= λ x. Ok (pos (if x.0 == 0 then 0 else 1), x.1)
  tag_at OfChar arms i = number 1 i >>= λ x. Ok (pos x.0, x.1)
  tag_at (OfInt size) arms i = number size i >>= λ x. Ok (signed size x.0, x.1)
  tag_at (OfUint size) arms i = number size i >>= λ x. (if nat_lt x.0 (2 ^ 63) then Ok (pos x.0, x.1) else Err (Tag (up i (octets_of size))))
  tag_at (OfEnum count) arms i = number 2 i >>= λ x. (if nat_lt x.0 count then Ok (pos x.0, x.1) else Err (unnamed (selected arms (pos x.0)) (up i 2)))
  tag_at _ arms i = Err (Tag i)

  -- the max_count in front of a structure, and where the structure's gap begins
  abbrev pub opened_at : List Form → Forms → Option ℕ → ℕ → Result (Option ℕ × ℕ) Departure
  opened_at types ss (Some most) i = Ok (Some most, i)
  opened_at types ss None i = if opens_with types ss then (number 4 i >>= λ x. Ok (Some x.0, x.1)) else Ok (None, i)

  -- a structure begins within the octets
  abbrev pub begun : Option ℕ → ℕ → Result (Option ℕ × ℕ) Departure
  begun own i = if nat_lt (length octets) i then Err (Short (length octets)) else Ok (own, i)

  -- the max_count in front of a structure, and where the structure begins
  abbrev pub struct_at : List Form → Forms → Option ℕ → ℕ → Result (Option ℕ × ℕ) Departure
  struct_at types ss moved i = opened_at types ss moved i >>= λ x. begun x.0 (in_place types (OfStruct ss) x.1)
