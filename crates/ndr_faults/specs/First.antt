-- The first departure of a stub: what octets of it, cut off anywhere before, are told.
use Rattle.std.specs.Prelude.{◌≡◌, ℕ, ◌+◌, ◌<◌, ◌≤◌, List, ◌++◌, length, Result, Err}
use Rattle.rpc_base.specs.declared.identifiers.Order.{Order}
use Rattle.ndr_value.specs.Forms.{Form}
use Rattle.ndr_value.specs.Values.{Vals}
use Rattle.ndr_table.specs.Tables.{OpForm}
use Rattle.ndr_table.specs.Sound.{IsSound}
use Rattle.ndr_model.specs.declared.departure.Departure.{Departure}
use Rattle.ndr_model.specs.declared.departure.Departure.TheVariants.{Short, Trailing}
use Rattle.ndr_model.specs.declared.way.Way.{Way}
use Rattle.ndr_model.specs.Places.{Last}
use Rattle.ndr_model.specs.Stub.{Entry, entries, start, Follow}
use Rattle.ndr_model.specs.Build.{read_values}
use Rattle.ndr_model.specs.Compare.{place_of}
use Rattle.ndr_model.specs.Message.{enough}
use Rattle.ndr_laws.specs.Laws.{IsOp}

-- an operation of a table, whose unions have tags
pub record IsOpOf (types : List Form) (op : OpForm) : Type 0 where
  pub is : IsOp types op
  pub sound : IsSound types is.ops is.uses

module _ (types : List Form) (order : Order) (es : List Entry) where
  -- the values of octets, before any is compared with what names it
  abbrev pub reads : List ℕ → Result (Vals × Last) Departure
  reads octets = read_values types order octets enough es

  -- cut off at index i or anywhere before it, octets end too early, and depart by nothing else
  abbrev pub EndUpTo : List ℕ → ℕ → Type 0
  EndUpTo octets i = (front more : List ℕ) → front ++ more ≡ octets → length front ≤ i → reads front ≡ Err (Short (length front))

  -- a number departs: nothing before its index does, and whatever follows the octets, they depart by it
  pub record DepartsAt (octets : List ℕ) (d : Departure) : Type 0 where
    pub within : place_of d < length octets
    pub before : EndUpTo octets (place_of d)
    pub behind : (more : List ℕ) → reads (octets ++ more) ≡ Err d

  -- all the octets end too early, and each front of them
  pub record EndsEarly (octets : List ℕ) (n : ℕ) : Type 0 where
    pub is : n ≡ length octets
    pub before : EndUpTo octets n

  -- the values stand, and more than seven octets behind them
  pub record HasMore (octets : List ℕ) (n : ℕ) : Type 0 where
    pub values : Vals
    pub end : Last
    pub stand : Follow types order octets es values start end
    pub is : end.here.at + n ≡ length octets
    pub many : 7 < n

  abbrev pub IsFirst : List ℕ → Departure → Type 0
  IsFirst octets (Short n) = EndsEarly octets n
  IsFirst octets (Trailing n) = HasMore octets n
  IsFirst octets d = DepartsAt octets d

-- a departure that is read is the first
abbrev pub ReadsFirst : Type 0
ReadsFirst = (types : List Form) (op : OpForm) (way : Way) (order : Order) (octets : List ℕ) (d : Departure)
    → IsOpOf types op → reads types order (entries way op) octets ≡ Err d → IsFirst types order (entries way op) octets d
