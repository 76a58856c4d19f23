-- Places for the heap's items, by number.
use Rattle.std.specs.Prelude.{◌≡◌, ◌<◌, ℕ, zero, suc, List, [], ◌∷◌, length, Option, Some, None}
use Rattle.ndr_value.specs.declared.value.Value.{Value}
use Rattle.ndr_value.specs.Values.{Val, val}
use Rattle.ndr_model.specs.Stub.{item}

abbrev pub held : Option Value → Option Val
held None = None
held (Some v) = Some (val v)

-- what stands at a place
abbrev pub slot : List (Option Value) → ℕ → Option Val
slot [] m = None
slot (o ∷ os) zero = held o
slot (o ∷ os) (suc m) = slot os m

-- what stands there already, or else another
abbrev pub or_then : Option Val → Option Val → Option Val
or_then None o = o
or_then (Some v) o = Some v

-- at each place stands the item of that number
abbrev pub AreItems : List (Option Value) → List (ℕ × Val) → Type 0
AreItems slots items = (m : ℕ) → m < length slots → slot slots m ≡ item items m
