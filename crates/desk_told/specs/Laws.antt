-- What follows from histories of desks.
use Rattle.std.specs.Prelude.{◌⊎◌, Bool, List, ◌∷◌, ◌++◌}
use Rattle.handle_model.specs.declared.entry.DueItem.{DueItem}
use Rattle.turn_lock.specs.Histories.{StartsWith}
use Rattle.manager_api.specs.Answers.{Ans}
use Rattle.manager_api.specs.Calls.{Call}
use Rattle.desk_told.specs.Deeds.{DeedForm, By}
use Rattle.desk_told.specs.Histories.{Leads, IsHistory}

-- one is a beginning of the other
abbrev pub Compare : {S : Type 0} → List (DeedForm S) → List (DeedForm S) → Type 0
Compare one other = StartsWith one other ⊎ StartsWith other one

module _ {S : Type 0} (may : S → Call → Bool → Ans → S → Type 0) (downs : S → DueItem → S → Type 0) where
  -- A deed stands in a history behind those that are in front of it. It was done in the state to which these have led, and those
  -- behind it go on from where it has led.
  pub record Follows (first : S) (front : List (DeedForm S)) (deed : DeedForm S) (back : List (DeedForm S)) (now : S) : Type 0 where
    pub before : S
    pub after : S
    pub led : IsHistory may downs first front before
    pub does : By may downs deed before after
    pub goes_on : Leads may downs after back now

  -- each deed of a history but the first item, which says how the desk began
  abbrev pub EachFollows : Type 0
  EachFollows = (first now : S) (item : DeedForm S) (front back : List (DeedForm S)) (deed : DeedForm S)
      → IsHistory may downs first ((item ∷ front) ++ deed ∷ back) now → Follows first (item ∷ front) deed back now
