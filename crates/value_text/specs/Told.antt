-- What the reader tells of a text.
use Rattle.std.specs.Prelude.{◌≡◌, ℕ, ◌+◌, ◌-◌, List, length, drop, Result, Ok, Err}
use Rattle.ndr_value.specs.declared.value.Value.{Value}
use Rattle.ndr_value.specs.Forms.{Form}
use Rattle.ndr_value.specs.Values.{Val, val}
use Rattle.value_text.specs.declared.departure.Departure.{Departure}
use Rattle.value_text.specs.declared.departure.Departure.TheVariants as departures
use Rattle.value_text.specs.declared.departure.TextFault.{TextFault}
use Rattle.value_text.specs.declared.departure.TextFault.TheVariants as faults
use Rattle.value_text.specs.Reading.{Found, read}
use Rattle.value_text.specs.Stands.{Stands}

-- a value of the shape stands at an index of the text, up to another index
abbrev pub StandsAt : List Form → ℕ → Form → List ℕ → ℕ → Val → ℕ → Type 0
StandsAt types heap s text at v end = (rest : List ℕ) × Stands types heap 0 s (drop at text) v rest × (end + length rest ≡ length text)

-- no value of the shape stands there, whatever the heap has
abbrev pub NoneStands : List Form → Form → List ℕ → ℕ → Type 0
NoneStands types s text at = (heap : ℕ) (v : Val) (end : ℕ) → StandsAt types heap s text at v end → ⊥

-- how deep constructs are read
abbrev pub enough : ℕ
enough = 12336

-- the fault in a text of so many octets
abbrev pub fault_of : ℕ → Departure → TextFault
fault_of n (departures.Syntax left) = faults.Syntax (n - left)
fault_of n (departures.Kind left) = faults.Kind (n - left)
fault_of n (departures.Range left) = faults.Range (n - left)
fault_of n departures.TooDeep = faults.Memory

-- the text departs so
abbrev pub Departs : ℕ → Found → TextFault → Type 0
Departs n found faults.Memory = Unit {0}
Departs n found fault = (d : Departure) × (found ≡ Err d) × (fault ≡ fault_of n d)

-- what was found, with the index behind it; or the departure, unless memory ran out
abbrev pub Finds : ℕ → Found → Result (Value × ℕ) TextFault → Type 0
Finds n found (Ok x) = (rest : List ℕ) × (found ≡ Ok (val x.0, rest)) × (x.1 ≡ n - length rest)
Finds n found (Err fault) = Departs n found fault

abbrev pub Told : List Form → Form → List ℕ → ℕ → Result (Value × ℕ) TextFault → Type 0
Told types s text at result = Finds (length text) (read types enough 0 s (drop at text)) result
