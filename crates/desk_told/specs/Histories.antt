-- Histories of a desk: how it began, and then its deeds, one after another.
use Rattle.std.specs.Prelude.{◌≡◌, Bool, List, [], ◌∷◌, ◌++◌}
use Rattle.handle_model.specs.declared.entry.DueItem.{DueItem}
use Rattle.manager_api.specs.Answers.{Ans}
use Rattle.manager_api.specs.Calls.{Call}
use Rattle.desk_told.specs.Deeds.{DeedForm, began, By}

module _ {S : Type 0} (may : S → Call → Bool → Ans → S → Type 0) (downs : S → DueItem → S → Type 0) where
  -- the deeds lead from one state to the other
  abbrev pub Leads : S → List (DeedForm S) → S → Type 0
  Leads before [] after = after ≡ before
  Leads before (d ∷ ds) after = (next : S) × By may downs d before next × Leads next ds after

  -- a history of a desk that began so, and is now in that state
  abbrev pub IsHistory : S → List (DeedForm S) → S → Type 0
  IsHistory first history now = (deeds : List (DeedForm S)) × (history ≡ began first ∷ deeds) × Leads first deeds now

  -- the desk is as its history says, of which that is the last item
  pub record Tells (desk : S) (last : DeedForm S) (history : List (DeedForm S)) : Type 0 where
    pub first : S
    pub before : List (DeedForm S)
    pub is : IsHistory first history desk
    pub ends : history ≡ before ++ last ∷ []
