-- By which entries a call came to what its turn says, and that each fitted at the moment at which it came.
use Rattle.std.specs.Prelude.{◌≡◌, ℕ, Bool, true, List, ◌∷◌, ◌++◌, ⊤}
use Rattle.std.specs.List.{AllByRecursion}
use Rattle.handle_model.specs.declared.entry.Home.{Home}
use Rattle.handle_model.specs.declared.entry.Asked.{Asked}
use Rattle.handle_model.specs.declared.entry.Entry.{Entry}
use Rattle.handle_model.specs.declared.entry.Entry.TheVariants.{Accept, Take, Deny, Cancel, Orphan, End, Leave}
use Rattle.handle_model.specs.History.{History}
use Rattle.handle_model.specs.Journal.{waits, runs, Fits, Legal}
use Rattle.conn_histories.specs.declared.turn.Fate.{Fate}
use Rattle.conn_histories.specs.declared.turn.Fate.TheVariants.{Waiting, Denied, Cancelled, Orphaned, LeftWaiting, Running, LeftRunning, Ended, LeftEnded}
use Rattle.conn_histories.specs.declared.turn.Deed.{Deed}
use Rattle.conn_histories.specs.declared.turn.Deed.TheVariants.{Accepted}
use Rattle.conn_histories.specs.declared.turn.Request.{Request}
use Rattle.conn_histories.specs.declared.turn.Turn.{Turn}
use Rattle.conn_histories.specs.declared.turn.Turn.TheVariants.{Called}
use Rattle.conn_histories.specs.Entries.{asked_as}
use Rattle.conn_histories.specs.Tales.{whole, StandAll}

-- The entry came at a moment of the journal at which it fitted, and at which that was so.
pub record Came (home : Home) (So : History → Type 0) (past : List Entry) (e : Entry) : Type 0 where
  pub newer : List Entry
  pub older : List Entry
  pub moment : past ≡ newer ++ e ∷ older
  pub fits : Fits (whole home older) e
  pub so : So (whole home older)

abbrev pub Whatever : History → Type 0
Whatever j = ⊤

abbrev pub Waited : ℕ → History → Type 0
Waited k j = waits j k ≡ true

abbrev pub Ran : ℕ → History → Type 0
Ran k j = runs j k ≡ true

-- A call was denied where it waited, none blocked it and the slot was its first at fault; it was cancelled, orphaned or
-- left where it waited; it was taken where none blocked it and no slot was at fault; it was left where it ran, and ended.
abbrev pub FateHasReason : Home → List Entry → ℕ → Asked → Fate → Type 0
FateHasReason home past k a Waiting = ⊤
FateHasReason home past k a (Denied slot) = Came home Whatever past (Deny k slot)
FateHasReason home past k a Cancelled = Came home (Waited k) past (Cancel k)
FateHasReason home past k a Orphaned = Came home (Waited k) past (Orphan k)
FateHasReason home past k a LeftWaiting = Came home (Waited k) past (Leave a.conn)
FateHasReason home past k a (Running cookies) = Came home Whatever past (Take k cookies)
FateHasReason home past k a (LeftRunning cookies) = Came home Whatever past (Take k cookies) × Came home (Ran k) past (Leave a.conn)
FateHasReason home past k a (Ended run) = Came home Whatever past (Take k run.cookies) × Came home Whatever past (End k run.results run.said)
FateHasReason home past k a (LeftEnded run) =
    Came home Whatever past (Take k run.cookies) × Came home (Ran k) past (Leave a.conn) × Came home Whatever past (End k run.results run.said)

-- and it was accepted
abbrev pub DeedHasReason : Home → ℕ → List Entry → Request → Deed → Type 0
DeedHasReason home c past r (Accepted k slots fate) =
    Came home Whatever past (Accept k (asked_as c r slots)) × FateHasReason home past k (asked_as c r slots) fate
DeedHasReason home c past r _ = ⊤

abbrev pub HasReason : Home → ℕ → List Entry → Turn → Type 0
HasReason home c past (Called r) = DeedHasReason home c past r r.deed
HasReason home c past _ = ⊤

-- where a legal journal says of the calls just what the turns say, each has its reason
abbrev pub TurnsHaveReasons : Type 0
TurnsHaveReasons =
    (home : Home) (c : ℕ) (gone : Bool) (past : List Entry) (turns : List Turn) → Legal (whole home past) → StandAll c gone past turns
    → AllByRecursion (HasReason home c past) turns

-- and has it in each longer journal
abbrev pub ReasonsStay : Type 0
ReasonsStay =
    (home : Home) (c : ℕ) (newer past : List Entry) (turns : List Turn) → AllByRecursion (HasReason home c past) turns
    → AllByRecursion (HasReason home c (newer ++ past)) turns
