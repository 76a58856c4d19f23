-- What a reader answers, beside what reading gives.
use Rattle.std.specs.Prelude.{◌≡◌, Result, Ok, Err}
use Rattle.value_text.specs.declared.departure.Departure.{Departure}
use Rattle.value_text.specs.declared.departure.Stop.{Stop}
use Rattle.value_text.specs.declared.departure.Stop.TheVariants as stops

-- the text departs so, unless memory ran out
abbrev pub Fails : {Y : Type 0} → Stop → Result Y Departure → Type 0
Fails stops.Memory read = Unit {0}
Fails (stops.Departs d) read = read ≡ Err d

-- what a function returned, seen by view, is what reading gives, unless memory ran out
abbrev pub Gives : {X Y : Type 0} → (X → Y) → Result X Stop → Result Y Departure → Type 0
Gives view (Ok x) read = read ≡ Ok (view x)
Gives view (Err e) read = Fails e read
