-- What one turn did.
use Rattle.std.specs.Prelude.{◌≡◌, ℕ, List, [], ◌++◌, length}
use Rattle.hub_story.specs.declared.item.Item.{Item}
use Rattle.hub_story.specs.Histories.{marks_in, past_in}
use Rattle.hub_story.specs.Passes.{Seen}
use Rattle.hub_story.specs.Calls.{Met, TiesOwn, Enters}

-- the same marks and entries: the items are the same but for the order between the directory and the groups
pub record IsSame (more other : List Item) : Type 0 where
  pub count : length other ≡ length more
  pub marks : marks_in other ≡ marks_in more
  pub entries : (g : ℕ) → past_in g other ≡ past_in g more

-- an act ran behind all that had been seen and what others entered since
pub record Ran (boot s : ℕ) (v w : Seen) (Gives : List Item → List Item → Type 0) : Type 0 where
  pub between : List Item
  pub more : List Item
  pub gives : Gives (v.log ++ between) more
  pub entered : List Item
  pub same : IsSame more entered
  pub enters : Enters boot s v w between entered

-- behind each history that the pass may meet, what is given is tied to the pass's own entries alone
abbrev pub GivesOwn : (Answer : Type 0) → ℕ → ℕ → Seen → (List Item → Answer → List Item → Type 0) → Type 0
GivesOwn Answer boot s v Gives =
    (log : List Item) (answer : Answer) (more : List Item) → Met boot s v log → Gives log answer more → TiesOwn v log more

-- it enters these items, of which, and of the history before them, that holds
abbrev pub EntersWhere : ℕ → ℕ → Seen → Seen → (List Item → List Item → Type 0) → Type 0
EntersWhere boot s v w Holds = (between : List Item) × (more : List Item) × Enters boot s v w between more × Holds (v.log ++ between) more

-- it enters nothing, and that holds of the history
abbrev pub LooksWhere : ℕ → ℕ → Seen → Seen → (List Item → Type 0) → Type 0
LooksWhere boot s v w Holds = (between : List Item) × Enters boot s v w between [] × Holds (v.log ++ between)
