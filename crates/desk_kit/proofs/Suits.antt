-- The values of simple responses suit their operations.
use Rattle.std.proofs.Common.{◌≡◌, ℕ, suc, ◌^◌, ◌<◌, true, false, List, [], ◌∷◌, length, Option, Some, refl, sym, ap, subst, arith}
use Rattle.std.specs.Prelude.{pos, ◌+ℤ◌}
use Rattle.std.proofs.lemmas.Int.{ints}
use Rattle.rpc_base.specs.Fields.{IsOctets, FitsHandle}
use Rattle.ndr_value.specs.declared.shape.Count.TheVariants.{Param}
use Rattle.ndr_value.specs.declared.shape.ArrayKind.{ArrayKind}
use Rattle.ndr_value.specs.declared.shape.ArrayKind.TheVariants.{ConformantVarying}
use Rattle.ndr_value.specs.Forms.{Form, OfByte, OfArray}
use Rattle.ndr_value.specs.Values.{VArray, Vals, no_val, bytes, count_of, Msg}
use Rattle.ndr_table.specs.Tables.{OpForm}
use Rattle.ndr_model.specs.declared.way.Way.TheVariants.{Response}
use Rattle.ndr_model.specs.Stub.{Entry, entries}
use Rattle.ndr_model.specs.Named.{Call}
use Rattle.ndr_model.specs.Written.{call_of}
use Rattle.ndr_model.specs.Fits.{Seen, with_wire, nothing_seen, Suits, suits_uint, suits_byte, suits_handle, suits_array, SuitsCounts, counts_both, SuitAll, no_element, then_element, SuitEntries, no_entry, then_entry, IsOfOp}
use Rattle.manager_api.specs.Responses.{null_handle, handle_and_status}
use Rattle.desk_kit.specs.Laws.{plain, handle_then_status, number_then_status, number_and_status, octets_then_status, octets_read, HandleAndStatusIsOf, NumberAndStatusIsOf, OctetsReadIsOf}

-- a count that nothing is added to
pub plus_none : (n : ℕ) → pos n +ℤ pos 0 ≡ pos n
plus_none n = grind (arith, ints)

pub null_fits : FitsHandle null_handle
null_fits = record { attributes = omega arith; id = omega arith }

-- one handle, which is null, was seen
abbrev pub one_seen : Seen
one_seen = with_wire nothing_seen null_handle

-- a response of the entries that an operation has
suits_as : (types : List Form) (op : OpForm) (asked : Option Msg) (es : List Entry) (m : Msg) (end : Seen) → entries Response op ≡ es
    → SuitEntries types (call_of op Response asked m) es m.values nothing_seen end → SuitEntries types (call_of op Response asked m) (entries Response op) m.values nothing_seen end
suits_as types op asked es m end e suits = subst (λ (xs : List Entry). SuitEntries types (call_of op Response asked m) xs m.values nothing_seen end) (sym e) suits

-- ---- a handle and a status

pub handle_and_status_is : HandleAndStatusIsOf
handle_and_status_is types op asked kind status e lt = record {
  end = one_seen;
  suits = suits_as types op asked (handle_then_status kind) (handle_and_status status) one_seen e (then_entry (suits_handle null_fits) tt (then_entry (suits_uint lt) tt no_entry));
  heap = refl;
  wires = refl;
}

-- ---- a number and a status

pub number_and_status_is : NumberAndStatusIsOf
number_and_status_is types op asked number status e wide lt = record {
  end = nothing_seen;
  suits = suits_as types op asked number_then_status (number_and_status number status) nothing_seen e (then_entry (suits_uint wide) tt (then_entry (suits_uint lt) tt no_entry));
  heap = refl;
  wires = refl;
}

-- ---- octets

pub bytes_count : (octets : List ℕ) → count_of (bytes octets) ≡ length octets
bytes_count [] = refl
bytes_count (x ∷ xs) = ap suc (bytes_count xs)

pub bytes_suit : (types : List Form) (call : Call) (room : ℕ) (body : Vals) (octets : List ℕ) (p q : Seen) → IsOctets octets → SuitAll types call room body OfByte (bytes octets) p p q q
bytes_suit types call room body [] p q fits = no_element
bytes_suit types call room body (x ∷ xs) p q fits = then_element (suits_byte (fits 0)) (bytes_suit types call room body xs p q (λ i. fits (suc i)))

pub octets_read_is : OctetsReadIsOf
octets_read_is types op asked kind most status octets e counted fits le small lt =
    let m = octets_read octets status in
    let call = call_of op Response asked m in
    let few : length octets < 2 ^ 32 = omega arith in
    let kind_of : ArrayKind = ConformantVarying (Param 1 false 0) (Param 2 true 0) in
    let array : SuitsCounts call no_val kind_of (count_of (bytes octets)) =
    subst (λ (k : ℕ). SuitsCounts call no_val kind_of k) (sym (bytes_count octets)) (counts_both small le counted.most_is counted.count_is) in
    record {
      end = one_seen;
      suits = suits_as types op asked (octets_then_status kind) m one_seen e
          (then_entry (suits_handle null_fits) tt
          (then_entry (suits_uint few) tt
          (then_entry (suits_array array (bytes_suit types call 256 no_val octets one_seen one_seen fits)) tt
          (then_entry (suits_uint lt) tt no_entry))));
      heap = refl;
      wires = refl;
    }
