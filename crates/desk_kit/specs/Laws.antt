-- Which responses are of an operation, by what the operation answers.
use Rattle.std.specs.Prelude.{◌≡◌, ℕ, ◌<◌, ◌≤◌, ◌^◌, pos, false, true, List, [], ◌∷◌, length, Option, Some, None}
use Rattle.rpc_base.specs.Fields.{IsOctets}
use Rattle.ndr_value.specs.declared.shape.Count.TheVariants.{Param}
use Rattle.ndr_value.specs.declared.shape.ArrayKind.TheVariants.{ConformantVarying}
use Rattle.ndr_value.specs.Forms.{Form, OfByte, OfUint, OfArray, OfHandle}
use Rattle.ndr_value.specs.Values.{VUint, VHandle, VArray, no_val, then_val, bytes, Msg}
use Rattle.ndr_table.specs.Tables.{OpForm}
use Rattle.ndr_model.specs.declared.way.Way.TheVariants.{Response}
use Rattle.ndr_model.specs.Stub.{Entry, entries}
use Rattle.ndr_model.specs.Named.{named}
use Rattle.ndr_model.specs.Written.{call_of}
use Rattle.ndr_model.specs.Fits.{IsOfOp}
use Rattle.manager_api.specs.Responses.{response, handle_and_status}

-- a value without a range
abbrev pub plain : Form → Entry
plain s = record { shape = s; range = None }

-- ---- a handle and a status

abbrev pub handle_then_status : ℕ → List Entry
handle_then_status kind = plain (OfHandle kind) ∷ plain (OfUint 4) ∷ []

abbrev pub HandleAndStatusIsOf : Type 0
HandleAndStatusIsOf = (types : List Form) (op : OpForm) (asked : Option Msg) (kind status : ℕ) → entries Response op ≡ handle_then_status kind → status < 2 ^ 32
    → IsOfOp types op Response asked (handle_and_status status)

-- ---- a number of 64 bits and a status

abbrev pub number_then_status : List Entry
number_then_status = plain (OfUint 8) ∷ plain (OfUint 4) ∷ []

abbrev pub number_and_status : ℕ → ℕ → Msg
number_and_status number status = response (then_val (VUint number) (then_val (VUint status) no_val)) 0

abbrev pub NumberAndStatusIsOf : Type 0
NumberAndStatusIsOf = (types : List Form) (op : OpForm) (asked : Option Msg) (number status : ℕ) → entries Response op ≡ number_then_status → number < 2 ^ 64 → status < 2 ^ 32
    → IsOfOp types op Response asked (number_and_status number status)

-- ---- a handle, a number of octets, at most as many octets as parameter 1 says and as many as parameter 2 points to, and a status

abbrev pub octets_then_status : ℕ → List Entry
octets_then_status kind = plain (OfHandle kind) ∷ plain (OfUint 4) ∷ plain (OfArray (ConformantVarying (Param 1 false 0) (Param 2 true 0)) OfByte) ∷ plain (OfUint 4) ∷ []

abbrev pub octets_read : List ℕ → ℕ → Msg
octets_read octets status = response (then_val (VHandle 0) (then_val (VUint (length octets)) (then_val (VArray (bytes octets)) (then_val (VUint status) no_val)))) 1

-- the counts of the response to a request
pub record Counted (op : OpForm) (asked : Option Msg) (m : Msg) (most count : ℕ) : Type 0 where
  pub most_is : named (call_of op Response asked m) no_val (Param 1 false 0) ≡ Some (pos most)
  pub count_is : named (call_of op Response asked m) no_val (Param 2 true 0) ≡ Some (pos count)

abbrev pub OctetsReadIsOf : Type 0
OctetsReadIsOf = (types : List Form) (op : OpForm) (asked : Option Msg) (kind most status : ℕ) (octets : List ℕ) → entries Response op ≡ octets_then_status kind
    → Counted op asked (octets_read octets status) most (length octets) → IsOctets octets → length octets ≤ most → most < 2 ^ 32 → status < 2 ^ 32
    → IsOfOp types op Response asked (octets_read octets status)
