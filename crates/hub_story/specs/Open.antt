-- What is open stays among the entries that a group keeps, however often it folded its journal. The newest entry of a history is its first.
use Rattle.std.specs.Prelude.{◌≡◌, ℕ, true, false, ◌||◌, Option, List, ◌∷◌, ◌++◌}
use Rattle.std.specs.List.{list_any}
use Rattle.turn_lock.specs.Histories.{StartsWith}
use Rattle.handle_model.specs.declared.entry.Home.{Home}
use Rattle.handle_model.specs.declared.entry.Asked.{Asked}
use Rattle.handle_model.specs.declared.entry.DueItem.{DueItem}
use Rattle.handle_model.specs.declared.entry.Outcome.{Outcome}
use Rattle.handle_model.specs.declared.entry.Said.{Said}
use Rattle.handle_model.specs.declared.entry.Entry.{Entry}
use Rattle.handle_model.specs.declared.entry.Entry.TheVariants.{Join, Accept, Take, End, Shut}
use Rattle.handle_model.specs.Bases.{empty_base}
use Rattle.handle_model.specs.History.{since}
use Rattle.handle_model.specs.Journal.{Legal, joins, leaves, takes, ends, is_open, waits, runs}
use Rattle.journal_tables.specs.Kept.{Keeps}
use Rattle.hub_story.specs.declared.item.Item.{Item}
use Rattle.hub_story.specs.declared.item.Item.TheVariants.{Of}
use Rattle.hub_story.specs.Histories.{past_in}
use Rattle.hub_story.specs.Folded.{kept_since}
use Rattle.hub_story.specs.Passes.{Seen, HasOwn, Serves, HasCall}
use Rattle.hub_story.specs.Calls.{Met}
use Rattle.hub_story.specs.FrontLaws.{kept_in}

-- OF A GROUP

-- the Join of an open connection stays, with all that came after it
abbrev pub JoinsStay : Type 0
JoinsStay =
    (home : Home) (past newer older : List Entry) (c : ℕ) → Legal (since home empty_base past) → past ≡ newer ++ Join c ∷ older
    → is_open (since home empty_base past) c ≡ true → Keeps (kept_since home past) newer (Join c)

-- so does the Accept of each of its calls
abbrev pub CallsStay : Type 0
CallsStay =
    (home : Home) (past newer older : List Entry) (k : ℕ) (a : Asked) → Legal (since home empty_base past) → past ≡ newer ++ Accept k a ∷ older
    → is_open (since home empty_base past) a.conn ≡ true → Keeps (kept_since home past) newer (Accept k a)

-- the Accept of a call that waits or runs
abbrev pub AcceptsStay : Type 0
AcceptsStay =
    (home : Home) (past newer older : List Entry) (k : ℕ) (a : Asked) → Legal (since home empty_base past) → past ≡ newer ++ Accept k a ∷ older
    → (waits (since home empty_base past) k || runs (since home empty_base past) k) ≡ true → Keeps (kept_since home past) newer (Accept k a)

-- the Take of a call that runs
abbrev pub TakesStay : Type 0
TakesStay =
    (home : Home) (past newer older : List Entry) (k : ℕ) (cookies : List (Option ℕ)) → Legal (since home empty_base past)
    → past ≡ newer ++ Take k cookies ∷ older → runs (since home empty_base past) k ≡ true → Keeps (kept_since home past) newer (Take k cookies)

-- and a Shut
abbrev pub ShutsStay : Type 0
ShutsStay =
    (home : Home) (past newer older : List Entry) (items : List DueItem) → Legal (since home empty_base past) → past ≡ newer ++ Shut items ∷ older
    → Keeps (kept_since home past) newer (Shut items)

-- so a connection whose Join was folded away has left
abbrev pub FoldedLeft : Type 0
FoldedLeft =
    (home : Home) (past : List Entry) (c : ℕ) → Legal (since home empty_base past) → list_any (joins c) past ≡ true
    → list_any (joins c) (kept_since home past).past ≡ false → list_any (leaves c) past ≡ true

-- and a call whose Take was folded away has ended
abbrev pub FoldedEnded : Type 0
FoldedEnded =
    (home : Home) (past : List Entry) (k : ℕ) → Legal (since home empty_base past) → list_any (takes k) past ≡ true
    → list_any (takes k) (kept_since home past).past ≡ false → list_any (ends k) past ≡ true

-- OF A PASS

-- an entry of the group stands in the front, and in what the group keeps of that, with all that came after it
pub record StaysIn (boot g : ℕ) (front : List Item) (e : Entry) : Type 0 where
  pub newer : List Entry
  pub older : List Entry
  pub past_is : past_in g front ≡ newer ++ e ∷ older
  pub kept : Keeps (kept_in boot g front) newer e

-- What the pass entered and is still open stays: a Join whose Leave isn't own, with the Accepts of its calls, a Take whose End isn't own, and a Shut.
pub record HasOpen (boot : ℕ) (v : Seen) (front : List Item) : Type 0 where
  pub joins : (g c : ℕ) → Serves v g c → StaysIn boot g front (Join c)
  pub accepts : (g c k : ℕ) → HasCall v g c k → (a : Asked) × (a.conn ≡ c) × StaysIn boot g front (Accept k a)
  pub takes : (g k : ℕ) (cookies : List (Option ℕ)) → HasOwn v (Of g (Take k cookies))
      → ((results : List Outcome) (said : Said) → HasOwn v (Of g (End k results said)) → ⊥) → StaysIn boot g front (Take k cookies)
  pub shuts : (g : ℕ) (items : List DueItem) → HasOwn v (Of g (Shut items)) → StaysIn boot g front (Shut items)

-- in each front from what the pass had seen to the history where it gets the turn
abbrev pub OwnStays : Type 0
OwnStays =
    (boot s : ℕ) (v : Seen) (front history : List Item) → Met boot s v history → StartsWith front v.log → StartsWith history front
    → HasOpen boot v front
