-- How many departures of a stub have a cause.
use Rattle.std.specs.Prelude.{◌≡◌, ℕ, ◌+◌, ◌≤◌, ◌==◌, List, [], ◌∷◌, Option, Err, if◌then◌else◌}
use Rattle.rpc_base.specs.declared.identifiers.Order.{Order}
use Rattle.ndr_value.specs.Forms.{Form}
use Rattle.ndr_value.specs.Values.{Msg}
use Rattle.ndr_table.specs.Tables.{OpForm}
use Rattle.ndr_model.specs.declared.departure.Departure.{Departure}
use Rattle.ndr_model.specs.declared.fault.NdrFault.{NdrFault}
use Rattle.ndr_model.specs.declared.way.Way.{Way}
use Rattle.ndr_model.specs.declared.mark.Mark.{Mark}
use Rattle.ndr_model.specs.Places.{Last}
use Rattle.ndr_model.specs.Stub.{entries, start, IsRead}
use Rattle.ndr_model.specs.Compare.{place_of}
use Rattle.ndr_model.specs.Faults.{IsFault}
use Rattle.ndr_model.specs.Message.{IsStub, read_stub}
use Rattle.ndr_faults.specs.Amiss.{OneAmiss}
use Rattle.ndr_faults.specs.Asked.{Demand, departure_of, AskTogether}
use Rattle.ndr_faults.specs.First.{IsOpOf, reads}
use Rattle.ndr_faults.specs.Off.{Departs, HasCause}

unfoldable pub one_at : ℕ → ℕ → ℕ
one_at i j = if j == i then 1 else 0

-- how many of the numbers that have to be something stand at that index
abbrev pub asked_at : ℕ → List Demand → ℕ
asked_at i [] = 0
asked_at i (m ∷ ms) = one_at i (place_of (departure_of m)) + asked_at i ms

-- of the counts, tags and numbers with ranges of a message whose values stand in octets, one stands at an index at most
abbrev pub OneNumber : Type 0
OneNumber = (types : List Form) (op : OpForm) (way : Way) (order : Order) (asked : Option Msg) (octets : List ℕ) (m : Msg) (end : Last) (left : List Mark) (demands : List Demand)
    → IsOpOf types op → IsRead types order octets (entries way op) m end
    → AskTogether types (record { op = op; way = way; asked = asked; said = m }) (entries way op) m.values end.marks left demands → (i : ℕ) → asked_at i demands ≤ 1

-- what departs of the values, by what stands in the octets alone, is what reading tells of them: so one departs at most
abbrev pub AmissIsRead : Type 0
AmissIsRead = (types : List Form) (op : OpForm) (way : Way) (order : Order) (octets : List ℕ) (d : Departure)
    → IsOpOf types op → OneAmiss types order octets (entries way op) start d → reads types order (entries way op) octets ≡ Err d

-- none departs so where all stand
abbrev pub NoneAmiss : Type 0
NoneAmiss = (types : List Form) (op : OpForm) (way : Way) (order : Order) (octets : List ℕ) (m : Msg) (end : Last) (d : Departure)
    → IsOpOf types op → IsRead types order octets (entries way op) m end → OneAmiss types order octets (entries way op) start d → ⊥

-- a stub has one departure with a cause at most
abbrev pub OneCause : Type 0
OneCause = (types : List Form) (op : OpForm) (way : Way) (order : Order) (asked : Option Msg) (octets : List ℕ) (d e : Departure)
    → IsOpOf types op → Departs types op way order asked octets d → Departs types op way order asked octets e → d ≡ e

-- none, where it is a message's
abbrev pub NoCause : Type 0
NoCause = (types : List Form) (op : OpForm) (way : Way) (order : Order) (asked : Option Msg) (octets : List ℕ) (m : Msg) (d : Departure)
    → IsOpOf types op → IsStub types op way order asked m octets → Departs types op way order asked octets d → ⊥

-- a fault that has its cause is the one that reading tells
abbrev pub CauseIsTold : Type 0
CauseIsTold = (types : List Form) (op : OpForm) (way : Way) (order : Order) (asked : Option Msg) (octets : List ℕ) (f : NdrFault)
    → IsOpOf types op → HasCause types op way order asked octets f → IsFault f (read_stub types op way order asked octets)
