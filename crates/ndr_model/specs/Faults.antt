-- Departures as faults, and the status of each.
use Rattle.std.specs.Prelude.{◌≡◌, Result, Err}
use Rattle.rpc_base.specs.declared.identifiers.Status.{Status}
use Rattle.ndr_value.specs.Values.{Msg}
use Rattle.ndr_model.specs.declared.departure.Departure.{Departure}
use Rattle.ndr_model.specs.declared.departure.Departure.TheVariants as departures
use Rattle.ndr_model.specs.declared.fault.NdrFault.{NdrFault}
use Rattle.ndr_model.specs.declared.fault.NdrFault.TheVariants.{Short, Bound, Tag, Pointer, Text, TooDeep, Trailing, Memory}

abbrev pub fault_of : Departure → NdrFault
fault_of (departures.Short n) = Short n
fault_of (departures.Bound i) = Bound i
fault_of (departures.Tag i) = Tag i
fault_of (departures.Pointer i) = Pointer i
fault_of (departures.Text i) = Text i
fault_of (departures.TooDeep i) = TooDeep i
fault_of (departures.Trailing n) = Trailing n

-- the fault is the departure, unless memory ran out
abbrev pub IsFault : NdrFault → Result Msg Departure → Type 0
IsFault Memory read = Unit {0}
IsFault (Short n) read = read ≡ Err (departures.Short n)
IsFault (Bound i) read = read ≡ Err (departures.Bound i)
IsFault (Tag i) read = read ≡ Err (departures.Tag i)
IsFault (Pointer i) read = read ≡ Err (departures.Pointer i)
IsFault (Text i) read = read ≡ Err (departures.Text i)
IsFault (TooDeep i) read = read ≡ Err (departures.TooDeep i)
IsFault (Trailing n) read = read ≡ Err (departures.Trailing n)

-- nca_s_fault_invalid_bound, nca_s_fault_invalid_tag, nca_s_fault_remote_no_memory; else nca_s_proto_error
abbrev pub status_of : NdrFault → Status
status_of (Bound i) = record { 0 = 0x1C000007 }
status_of (Tag i) = record { 0 = 0x1C000006 }
status_of Memory = record { 0 = 0x1C00001B }
status_of _ = record { 0 = 0x1C01000B }
