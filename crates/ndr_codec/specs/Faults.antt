-- What a stub is decoded to, and that of a message that memory may be wanting for.
use Rattle.std.specs.Prelude.{◌≡◌, Result, Ok, Err}
use Rattle.ndr_value.specs.Values.{Msg, msg}
use Rattle.ndr_value.specs.declared.value.Message.{Message}
use Rattle.ndr_model.specs.declared.departure.Departure.{Departure}
use Rattle.ndr_model.specs.declared.fault.NdrFault.{NdrFault}
use Rattle.ndr_model.specs.declared.fault.NdrFault.TheVariants.{Memory}
use Rattle.ndr_model.specs.Faults.{fault_of, IsFault}
use Rattle.ndr_pointers.specs.declared.scan_fault.ReadError.{ReadError}
use Rattle.ndr_pointers.specs.declared.scan_fault.ReadError.TheVariants as errors

abbrev pub of_error : ReadError → NdrFault
of_error errors.Memory = Memory
of_error (errors.Departs d) = fault_of d

-- what was decoded is what was read, and so is the fault
abbrev pub Decodes : Result Message NdrFault → Result Msg Departure → Type 0
Decodes (Ok m) read = read ≡ Ok (msg m)
Decodes (Err f) read = IsFault f read

-- that message, unless memory ran out
abbrev pub IsThat : Result Message NdrFault → Msg → Type 0
IsThat (Ok m) n = msg m ≡ n
IsThat (Err f) n = f ≡ Memory
