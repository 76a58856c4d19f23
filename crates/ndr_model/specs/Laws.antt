-- What the definitions say of one another.
use Rattle.std.specs.Prelude.{◌≡◌, ◌↔◌, true, ℕ, ◌+◌, ◌≤◌, List, length, Ok}
use Rattle.rpc_base.specs.declared.identifiers.Order.{Order}
use Rattle.ndr_value.specs.Forms.{Form}
use Rattle.ndr_value.specs.Values.{Vals}
use Rattle.ndr_model.specs.Places.{Last}
use Rattle.ndr_model.specs.Same.{IsSame, same}
use Rattle.ndr_model.specs.Stub.{Entry, Follow, start}
use Rattle.ndr_model.specs.Build.{read_values}

-- values that are read stand in the octets, with at most seven octets behind them
abbrev pub ReadValuesStand : Type 0
ReadValuesStand = (types : List Form) (order : Order) (octets : List ℕ) (fuel : ℕ) (es : List Entry) (x : Vals × Last)
    → read_values types order octets fuel es ≡ Ok x → Follow types order octets es x.0 start x.1 × (length octets ≤ x.1.here.at + 7)

-- the test of two shapes tells whether they are the same
abbrev pub SameIsTested : Type 0
SameIsTested = (s t : Form) → (same s t ≡ true) ↔ IsSame s t
