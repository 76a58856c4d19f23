-- What departs of a stub, and why: of the values on the way, or of the numbers of a message whose values all stand.
use Rattle.std.specs.Prelude.{◌≡◌, ℕ, List, Option, Err}
use Rattle.rpc_base.specs.declared.identifiers.Order.{Order}
use Rattle.ndr_value.specs.Forms.{Form}
use Rattle.ndr_value.specs.Values.{Msg}
use Rattle.ndr_table.specs.Tables.{OpForm}
use Rattle.ndr_model.specs.declared.departure.Departure.{Departure}
use Rattle.ndr_model.specs.declared.departure.Departure.TheVariants as departures
use Rattle.ndr_model.specs.declared.fault.NdrFault.{NdrFault}
use Rattle.ndr_model.specs.declared.fault.NdrFault.TheVariants.{Short, Bound, Tag, Pointer, Text, TooDeep, Trailing, Memory}
use Rattle.ndr_model.specs.declared.way.Way.{Way}
use Rattle.ndr_model.specs.declared.mark.Mark.{Mark}
use Rattle.ndr_model.specs.Places.{Last}
use Rattle.ndr_model.specs.Stub.{entries, start, IsRead}
use Rattle.ndr_model.specs.Agree.{AgreeTogether}
use Rattle.ndr_model.specs.Message.{read_stub}
use Rattle.ndr_faults.specs.Amiss.{OneAmiss}
use Rattle.ndr_faults.specs.Asked.{Demand, IsLeast, AskTogether}
use Rattle.ndr_faults.specs.First.{IsOpOf, reads, IsFirst}

-- a message stands in all the octets, yet not each of its counts, tags and numbers with ranges agrees: of those that don't the departure
-- is the first, in the order of the octets
pub record Disagrees (types : List Form) (op : OpForm) (way : Way) (order : Order) (asked : Option Msg) (octets : List ℕ) (d : Departure) : Type 0 where
  pub said : Msg
  pub end : Last
  pub read : IsRead types order octets (entries way op) said end
  pub differ : (left : List Mark) → AgreeTogether types (record { op = op; way = way; asked = asked; said = said }) (entries way op) said.values end.marks left → ⊥
  pub left : List Mark
  pub demands : List Demand
  pub asks : AskTogether types (record { op = op; way = way; asked = asked; said = said }) (entries way op) said.values end.marks left demands
  pub least : IsLeast demands d

-- a departure of a stub is the first of its values, by its cause; or else all of them stand, and the first that disagrees
pub data Departs (types : List Form) (op : OpForm) (way : Way) (order : Order) (asked : Option Msg) (octets : List ℕ) (d : Departure) : Type 0 where
  is_read : reads types order (entries way op) octets ≡ Err d → IsFirst types order (entries way op) octets d → OneAmiss types order octets (entries way op) start d
      → Departs types op way order asked octets d
  is_compared : Disagrees types op way order asked octets d → Departs types op way order asked octets d

abbrev pub StubDeparts : Type 0
StubDeparts = (types : List Form) (op : OpForm) (way : Way) (order : Order) (asked : Option Msg) (octets : List ℕ) (d : Departure)
    → IsOpOf types op → read_stub types op way order asked octets ≡ Err d → Departs types op way order asked octets d

-- the fault is a departure of the stub, unless memory ran out
abbrev pub HasCause : List Form → OpForm → Way → Order → Option Msg → List ℕ → NdrFault → Type 0
HasCause types op way order asked octets Memory = Unit {0}
HasCause types op way order asked octets (Short n) = Departs types op way order asked octets (departures.Short n)
HasCause types op way order asked octets (Bound i) = Departs types op way order asked octets (departures.Bound i)
HasCause types op way order asked octets (Tag i) = Departs types op way order asked octets (departures.Tag i)
HasCause types op way order asked octets (Pointer i) = Departs types op way order asked octets (departures.Pointer i)
HasCause types op way order asked octets (Text i) = Departs types op way order asked octets (departures.Text i)
HasCause types op way order asked octets (TooDeep i) = Departs types op way order asked octets (departures.TooDeep i)
HasCause types op way order asked octets (Trailing n) = Departs types op way order asked octets (departures.Trailing n)
