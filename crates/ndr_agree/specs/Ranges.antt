-- Numbers with ranges.
use Rattle.std.specs.Prelude.{ℤ, int_le, Bool, true, false, ◌&&◌, List, [], ◌∷◌, Option, Some, None}
use Rattle.ndr_value.specs.Values.{Val, Vals, no_val, then_val}
use Rattle.ndr_table.specs.declared.operation.Bounds.{Bounds}
use Rattle.ndr_model.specs.Stub.{Entry}
use Rattle.ndr_model.specs.Named.{number}
use Rattle.ndr_model.specs.Agree.{IsWithin}

abbrev pub Holds : Option Bounds → Val → Type 0
Holds None v = Unit {0}
Holds (Some b) v = IsWithin b v

-- each parameter with a range holds a number in it, and each has a value
abbrev pub InRange : List Entry → Vals → Type 0
InRange [] vs = Unit {0}
InRange (e ∷ es) no_val = ⊥
InRange (e ∷ es) (then_val v vs) = Holds e.range v × InRange es vs

-- ---- the same as a test

abbrev pub in_bounds : Bounds → Option ℤ → Bool
in_bounds b None = false
in_bounds b (Some z) = int_le b.low z && int_le z b.high

abbrev pub holds : Option Bounds → Val → Bool
holds None v = true
holds (Some b) v = in_bounds b (number v)

abbrev pub all_in_range : List Entry → Vals → Bool
all_in_range [] vs = true
all_in_range (e ∷ es) no_val = false
all_in_range (e ∷ es) (then_val v vs) = holds e.range v && all_in_range es vs
