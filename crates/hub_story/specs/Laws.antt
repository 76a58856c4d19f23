-- Laws of groups' journals, as the groups keep them, and of what passes have.
use Rattle.std.specs.Prelude.{◌≡◌, ℕ, true, false, Option, List, length}
use Rattle.std.specs.List.{list_any}
use Rattle.handle_model.specs.declared.entry.Home.{Home}
use Rattle.turn_lock.specs.Histories.{Within}
use Rattle.handle_model.specs.declared.entry.Outcome.{Outcome}
use Rattle.handle_model.specs.declared.entry.Entry.{Entry}
use Rattle.handle_model.specs.declared.entry.Entry.TheVariants.{Join, Take}
use Rattle.handle_model.specs.Bases.{empty_base}
use Rattle.handle_model.specs.History.{since}
use Rattle.handle_model.specs.Journal.{Legal, is_join, leaves, ends, suit, runs}
use Rattle.journal_tables.specs.FoldOf.{IsFoldOf}
use Rattle.group_core.specs.Stages.{is_asked}
use Rattle.hub_story.specs.Folded.{kept_since, kept}
use Rattle.hub_story.specs.declared.item.Item.{Item}
use Rattle.hub_story.specs.declared.item.Item.TheVariants.{Of}
use Rattle.hub_story.specs.Directories.{is_opened_id}
use Rattle.hub_story.specs.Histories.{marks_in, past_in, journal_in, IsStory}
use Rattle.hub_story.specs.Passes.{Seen, HasOwn, Serves, Runs, slots_seen}
use Rattle.hub_story.specs.Calls.{Enters}
use Rattle.hub_story.specs.Still.{StillHas}

-- what a group keeps is its whole journal, with the older entries in the base
abbrev pub KeepsWhole : Type 0
KeepsWhole = (home : Home) (past : List Entry) → Legal (since home empty_base past) → IsFoldOf (kept_since home past) (since home empty_base past)

-- what it says was asked to end was, by the whole journal
abbrev pub AskedIsAsked : Type 0
AskedIsAsked =
    (home : Home) (past : List Entry) (k : ℕ) → Legal (since home empty_base past) → is_asked (kept_since home past) k ≡ true
    → is_asked (since home empty_base past) k ≡ true

-- and of a call that runs it says what the whole journal says
abbrev pub RunsAsAsked : Type 0
RunsAsAsked =
    (home : Home) (past : List Entry) (k : ℕ) → Legal (since home empty_base past) → runs (since home empty_base past) k ≡ true
    → is_asked (kept_since home past) k ≡ is_asked (since home empty_base past) k

-- and it has the Join of a connection, where the group was opened
abbrev pub KeepsJoin : Type 0
KeepsJoin =
    (boot s g : ℕ) (log : List Item) → IsStory boot s log → is_opened_id (marks_in log) g ≡ true
    → list_any is_join (kept (journal_in boot g log)).past ≡ true

-- WHAT PASSES HAVE

-- behind what a call entered
abbrev pub StillHasAll : Type 0
StillHasAll =
    (boot s : ℕ) (v w : Seen) (between more : List Item) → Within v.own (length v.log) → Enters boot s v w between more → StillHas v w more

-- A connection whose Join is own, and a call whose Take is own, are the pass's where no Leave and no End was seen.
abbrev pub ServesByFront : Type 0
ServesByFront = (v : Seen) (g c : ℕ) → HasOwn v (Of g (Join c)) → list_any (leaves c) (past_in g v.log) ≡ false → Serves v g c

abbrev pub RunsByFront : Type 0
RunsByFront =
    (v : Seen) (g k : ℕ) (cookies : List (Option ℕ)) (results : List Outcome) → HasOwn v (Of g (Take k cookies))
    → list_any (ends k) (past_in g v.log) ≡ false → suit (slots_seen v g k) results ≡ true → Runs v g k results
