-- A text departs from the values of a shape in one way at most, and only where none of them stands.
use Rattle.std.specs.Prelude.{◌≡◌, ◌≢◌, ℕ, List}
use Rattle.ndr_value.specs.Forms.{Form}
use Rattle.ndr_value.specs.Values.{Val}
use Rattle.value_text.specs.declared.departure.Departure.{Departure}
use Rattle.value_text.specs.declared.departure.TextFault.{TextFault}
use Rattle.value_text.specs.declared.departure.TextFault.TheVariants.{Memory}
use Rattle.value_text.specs.Stands.{Stands}
use Rattle.value_text.specs.Told.{StandsAt}
use Rattle.value_text.specs.Causes.{TextDeparts, IsCaused}

-- two departures of a text that have their cause are one, whatever their heaps have
abbrev pub OneDeparture : Type 0
OneDeparture = (types : List Form) (heap other level : ℕ) (s : Form) (text : List ℕ) (d e : Departure) → TextDeparts types heap level s text d → TextDeparts types other level s text e → d ≡ e

-- where a value of the shape stands at the front of a text, no departure of it has a cause
abbrev pub NoDeparture : Type 0
NoDeparture = (types : List Form) (heap other level : ℕ) (s : Form) (text : List ℕ) (v : Val) (rest : List ℕ) (d : Departure) → Stands types heap level s text v rest → TextDeparts types other level s text d → ⊥

-- two faults in a text, but lack of memory, that have their cause are one
abbrev pub OneFault : Type 0
OneFault = (types : List Form) (s : Form) (text : List ℕ) (at : ℕ) (f g : TextFault) → f ≢ Memory → g ≢ Memory → IsCaused types s text at f → IsCaused types s text at g → f ≡ g

-- where a value of the shape stands, no fault but lack of memory has a cause
abbrev pub NoFault : Type 0
NoFault = (types : List Form) (heap : ℕ) (s : Form) (text : List ℕ) (at : ℕ) (v : Val) (end : ℕ) (f : TextFault) → StandsAt types heap s text at v end → f ≢ Memory → IsCaused types s text at f → ⊥
