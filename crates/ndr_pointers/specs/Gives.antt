-- What a reader answers, beside what reading gives.
use Rattle.std.specs.Prelude.{◌≡◌, Result, Ok, Err}
use Rattle.ndr_model.specs.declared.departure.Departure.{Departure}
use Rattle.ndr_pointers.specs.declared.scan_fault.ReadError.{ReadError}
use Rattle.ndr_pointers.specs.declared.scan_fault.ReadError.TheVariants as errors

-- the fault is the departure, unless memory ran out
abbrev pub Fails : {Y : Type 0} → ReadError → Result Y Departure → Type 0
Fails errors.Memory read = Unit {0}
Fails (errors.Departs d) read = read ≡ Err d

-- what a function returned, seen by view, is what reading gives, unless memory ran out
abbrev pub Gives : {X Y : Type 0} → (X → Y) → Result X ReadError → Result Y Departure → Type 0
Gives view (Ok x) read = read ≡ Ok (view x)
Gives view (Err e) read = Fails e read
