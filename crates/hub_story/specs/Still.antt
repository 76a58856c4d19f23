-- What a pass has to call with after a call.
use Rattle.std.specs.Prelude.{◌≡◌, ℕ, true, List, [], ◌∷◌}
use Rattle.std.specs.List.{list_any}
use Rattle.handle_model.specs.declared.entry.Outcome.{Outcome}
use Rattle.handle_model.specs.declared.entry.Said.{Said}
use Rattle.handle_model.specs.declared.entry.Slot.{Slot}
use Rattle.handle_model.specs.declared.entry.Entry.TheVariants.{End, Leave}
use Rattle.handle_model.specs.Journal.{filled, suit}
use Rattle.group_core.specs.declared.answer.Taking.{Taking}
use Rattle.group_core.specs.declared.answer.Taking.TheVariants.{Run}
use Rattle.group_core.specs.Calls.{first_serial}
use Rattle.hub_story.specs.declared.item.Mark.TheVariants.{Retired}
use Rattle.hub_story.specs.declared.item.Item.{Item}
use Rattle.hub_story.specs.declared.item.Item.TheVariants.{Listed, Of}
use Rattle.hub_story.specs.Passes.{Seen, Serves, HasCall, Knows, Runs, HasShut, slots_seen}

-- WHAT STAYS

-- the item is none of these
abbrev pub IsNoneOf : Item → List Item → Type 0
IsNoneOf a [] = Unit {0}
IsNoneOf a (b ∷ more) = (b ≡ a → ⊥) × IsNoneOf a more

-- What the pass v had to call with the pass w still has, but for the connections, calls and groups whose Leave, End or Retired is among
-- these items. What a call asked is as it was.
pub record StillHas (v w : Seen) (more : List Item) : Type 0 where
  pub serves : (g c : ℕ) → IsNoneOf (Of g (Leave c)) more → Serves v g c → Serves w g c
  pub has_call : (g c k : ℕ) → IsNoneOf (Of g (Leave c)) more → HasCall v g c k → HasCall w g c k
  pub knows : (g k : ℕ) → Knows v g k → Knows w g k
  pub asks : (g k : ℕ) → Knows v g k → slots_seen w g k ≡ slots_seen v g k
  pub runs : (g k : ℕ) (results : List Outcome) → ((others : List Outcome) (said : Said) → IsNoneOf (Of g (End k others said)) more)
      → Runs v g k results → Runs w g k results
  pub has_shut : (g : ℕ) → IsNoneOf (Listed (Retired g)) more → HasShut v g → HasShut w g

-- WHAT COMES

-- A call was accepted: the pass has it, and it asks these slots, with the serials of those that may issue a handle going on from some number.
pub record IsAccepted (w : Seen) (g c k : ℕ) (slots : List Slot) : Type 0 where
  pub has : HasCall w g c k
  pub knows : Knows w g k
  pub before : ℕ
  pub asks : slots_seen w g k ≡ filled before slots

-- A call was taken: the pass may end it with results that suit what it asked, and the serial is that of its first slot that may issue a handle.
pub record IsTaken (w : Seen) (g k serial : ℕ) : Type 0 where
  pub runs : (results : List Outcome) → suit (slots_seen w g k) results ≡ true → Runs w g k results
  pub serial_is : serial ≡ first_serial (slots_seen w g k)

abbrev pub IfTaken : Seen → ℕ → ℕ → Taking → Type 0
IfTaken w g k (Run row serial) = IsTaken w g k serial
IfTaken w g k _ = Unit {0}
