-- What a thread has seen of a desk's history, and which deeds it had done.
use Rattle.std.specs.Prelude.{◌≡◌, Bool, List, [], ◌∷◌, ◌++◌, length, map, Option}
use Rattle.atomic_table.specs.Seated.{TableId}
use Rattle.atomic_table.specs.declared.shared.Seat.{Seat}
use Rattle.handle_model.specs.declared.entry.DueItem.{DueItem}
use Rattle.turn_lock.specs.declared.views.View.{View}
use Rattle.turn_lock.specs.Histories.{Within, AtMostOnce}
use Rattle.turn_lock.specs.Passes.{front, own, IsPassOf}
use Rattle.manager_api.specs.Answers.{Ans}
use Rattle.manager_api.specs.Calls.{Call}
use Rattle.desk_told.specs.declared.deed.Deed.{Deed}
use Rattle.desk_told.specs.declared.state.DeskState.{DeskState}
use Rattle.desk_told.specs.Deeds.{DeedForm, form, By}
use Rattle.desk_told.specs.Histories.{IsHistory}

abbrev pub PassForm : Type 0 → Type 0
PassForm S = Seat (Option (DeskState S)) (View (Deed S))

-- the history as far as it was seen. `own` has the places of the pass's own deeds in it, counted from 0.
abbrev pub history : {S : Type 0} → PassForm S → List (DeedForm S)
history p = map form (front p)

module _ {S : Type 0} (may : S → Call → Bool → Ans → S → Type 0) (downs : S → DueItem → S → Type 0) where
  -- A pass of that lock, behind which a desk stands that began so: what it has seen is a history of the desk, and each of its own
  -- deeds stands there once.
  pub record IsOf (lock : TableId) (first : S) (p : PassForm S) : Type 0 where
    pub seat : IsPassOf lock p
    pub now : S
    pub is : IsHistory may downs first (history p) now
    pub within : Within (own p) (length (history p))
    pub once : AtMostOnce (own p)

  -- The desk did the deed in the state to which all deeds before it have led. It stands next behind what the pass had seen and what
  -- others had done since, and is the pass's own.
  pub record Enters (first : S) (p : PassForm S) (deed : DeedForm S) (q : PassForm S) : Type 0 where
    pub between : List (DeedForm S)
    pub before : S
    pub after : S
    pub led : IsHistory may downs first (history p ++ between) before
    pub does : By may downs deed before after
    pub history_is : history q ≡ (history p ++ between) ++ deed ∷ []
    pub own_is : own q ≡ own p ++ length (history p ++ between) ∷ []
