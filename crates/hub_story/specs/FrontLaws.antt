-- What passes see of a group's journal, as the group keeps it, goes on.
use Rattle.std.specs.Prelude.{ℕ, ◌⊎◌, List, ◌++◌}
use Rattle.turn_lock.specs.Histories.{StartsWith}
use Rattle.handle_model.specs.declared.entry.Home.{Home}
use Rattle.handle_model.specs.declared.entry.Entry.{Entry}
use Rattle.handle_model.specs.Bases.{empty_base}
use Rattle.handle_model.specs.History.{History, since}
use Rattle.handle_model.specs.Journal.{Legal}
use Rattle.hub_story.specs.declared.item.Item.{Item}
use Rattle.hub_story.specs.Histories.{journal_in, IsStory}
use Rattle.hub_story.specs.Folded.{kept, kept_since}
use Rattle.hub_story.specs.Passes.{Seen}
use Rattle.hub_story.specs.Calls.{Enters}
use Rattle.hub_story.specs.Prefixes.{IsFoldedPrefix}

-- what a group has kept is a prefix of what it keeps when further entries came
abbrev pub KeptGoesOn : Type 0
KeptGoesOn =
    (home : Home) (newer older : List Entry) → Legal (since home empty_base (newer ++ older))
    → IsFoldedPrefix (kept_since home older) (kept_since home (newer ++ older))

-- a front's journal of a group, as the group keeps it, at a server with that boot word
abbrev pub kept_in : ℕ → ℕ → List Item → History
kept_in boot g front = kept (journal_in boot g front)

abbrev pub FrontsGoOn : Type 0
FrontsGoOn =
    (boot s g : ℕ) (front later : List Item) → IsStory boot s later → StartsWith later front → IsFoldedPrefix (kept_in boot g front) (kept_in boot g later)

-- of a call that enters something or nothing
abbrev pub CallsGoOn : Type 0
CallsGoOn =
    (boot s g : ℕ) (v w : Seen) (between more : List Item) → Enters boot s v w between more → IsFoldedPrefix (kept_in boot g v.log) (kept_in boot g w.log)

-- two beginnings of one history
abbrev pub FrontsCompare : Type 0
FrontsCompare =
    (boot s g : ℕ) (history one other : List Item) → IsStory boot s history → StartsWith history one → StartsWith history other
    → IsFoldedPrefix (kept_in boot g one) (kept_in boot g other) ⊎ IsFoldedPrefix (kept_in boot g other) (kept_in boot g one)
