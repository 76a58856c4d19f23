-- What a request of store_read says of its number of octets.
use Rattle.std.proofs.Common.{◌≡◌, ℕ, ◌^◌, ◌<◌, pos, false, List, [], ◌∷◌, length, Option, Some, refl, ap, ◌∙◌, arith}
use Rattle.ndr_value.specs.Forms.{OfUint, OfHandle}
use Rattle.ndr_value.specs.Values.{Val, VUint, Vals, Msg}
use Rattle.ndr_model.specs.Stub.{Entry}
use Rattle.ndr_model.specs.Named.{Call, nth, of_known, with_heap}
use Rattle.ndr_model.specs.Fits.{Seen, suits_uint, SuitEntries, no_entry, then_entry}
use Rattle.manager_api.specs.Messages.{IsRequest}
use Rattle.manager_api.specs.Arguments.{uint_at}
use Rattle.desk_kit.specs.Laws.{plain, octets_read, Counted}
use Rattle.desk_kit.proofs.Suits.{plus_none}
use Rattle.store_manager.specs.Table.{store_table, read_form}

-- what the second of two values says, a number of four octets
pub record Says (asked : Msg) : Type 0 where
  pub small : uint_at asked 1 < 2 ^ 32
  pub there : nth asked.values 1 ≡ Some (VUint (uint_at asked 1))

said : (types : _) (call : Call) (e : Entry) (asked : Msg) (vs : Vals) (q q' : Seen) → asked.values ≡ vs → SuitEntries types call (e ∷ plain (OfUint 4) ∷ []) vs q q' → Says asked
said types call e asked vs q q' is (then_entry s r (then_entry (suits_uint lt) tt no_entry)) = rw is (record { small = lt; there = refl })

pub request_says : (asked : Msg) → IsRequest store_table 2 asked → Says asked
request_says asked request = said [] _ (plain (OfHandle 0)) asked asked.values _ _ refl (request read_form refl).suits

-- the counts of the response to it
pub counted : (asked : Msg) (octets : List ℕ) (status : ℕ) → Says asked → Counted read_form (Some asked) (octets_read octets status) (uint_at asked 1) (length octets)
counted asked octets status s = record {
  most_is = ap (λ (v : Option Val). of_known false 0 (with_heap v asked.heap)) s.there ∙ ap Some (plus_none (uint_at asked 1));
  count_is = ap Some (plus_none (length octets));
}
