-- Where a reader stands, and what it was given, as the definitions see them.
use Rattle.std.specs.Prelude.{ℕ, List, Option, Result}
use Rattle.rpc_base.specs.declared.identifiers.Order.{Order}
use Rattle.ndr_value.specs.Forms.{Form}
use Rattle.ndr_table.specs.Shown.{shown}
use Rattle.ndr_pointers.specs.Shown.{known}
use Rattle.ndr_model.specs.Places.{Place}
use Rattle.ndr_model.specs.Scan.{Scanned, scan}
use Rattle.ndr_pointers.specs.Gives.{Gives}
use Rattle.ndr_pointers.specs.declared.scan_fault.ReadError.{ReadError}
use Rattle.ndr_pointers.specs.declared.state.Reader.{Reader}
use Rattle.ndr_pointers.specs.declared.state.Seen.{Seen}

abbrev pub types_in : Reader → List Form
types_in r = (shown r.table.now).types

abbrev pub place : ℕ → Seen → Place
place i s = record { at = i; met = (known s.referents).met; wires = s.wires }

-- a definition by types, order and octets, for those of a reader
abbrev pub over : {A : Type 0} → Reader → (List Form → Order → List ℕ → A) → A
over r f = f (types_in r) r.order r.octets.now

-- parts that are gone over, so many constructs and names deep at most
abbrev pub scan_of : Reader → ℕ → ℕ → Option ℕ → Form → Place → Scanned
scan_of r fuel = over r scan fuel

-- the index after a part and what was met, unless memory ran out
abbrev pub Scans : Result ℕ ReadError → Seen → Scanned → Type 0
Scans result seen scanned = Gives (λ (j : ℕ). place j seen) result scanned
