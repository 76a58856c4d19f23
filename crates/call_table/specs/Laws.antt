-- What the table of a legal journal shows: its calls are those of the journal that wait or run.
use Rattle.std.specs.Prelude.{◌≡◌, ℕ, ◌+◌, ◌<◌, Bool, true, false, not, ◌||◌, Option, None, if◌then◌else◌, List, [], ◌∷◌, ◌++◌, length}
use Rattle.std.specs.List.{list_any}
use Rattle.handle_model.specs.declared.entry.Home.{Home}
use Rattle.handle_model.specs.declared.entry.Asked.{Asked}
use Rattle.handle_model.specs.declared.entry.Entry.{Entry}
use Rattle.handle_model.specs.declared.entry.Entry.TheVariants.{Join, Accept, Take, Deny, Cancel, Orphan, End, Leave, Shut}
use Rattle.handle_model.specs.declared.base.Base.{Base}
use Rattle.handle_model.specs.History.{History, since, with_entry, history_of, size}
use Rattle.handle_model.specs.Journal.{Legal, asked, accept_count, waits, runs, waiting, running, slots, blocker, is_empty}
use Rattle.handle_model.specs.Limits.{openings}
use Rattle.handle_model.specs.Sound.{IsSoundBase}
use Rattle.handle_model.specs.Folds.{open_calls}
use Rattle.call_table.specs.declared.row.Row.{Row}
use Rattle.call_table.specs.Rows.{row_at, waits_at, runs_at, slots_at, over, conflict_of, is_running, openings_of, with_start, with_cancel, with_orphan, without, left}
use Rattle.call_table.specs.Shown.{row_in, rows_of, base_rows}
use Rattle.call_table.specs.Based.{asked_at, stored_calls}

-- the rows of a base are those of its calls
abbrev pub ShowsBase : Type 0
ShowsBase = (home : Home) (base : Base) → IsSoundBase home base → rows_of (since home base []) ≡ base_rows base

-- a call has the row that the journal gives it, and none where it is over
abbrev pub ShowsRow : Type 0
ShowsRow = (j : History) (k : ℕ) → row_at (rows_of j) k ≡ row_in j k

-- it waits or runs as in the journal
abbrev pub ShowsStage : Type 0
ShowsStage = (j : History) (k : ℕ) → Legal j → (waits_at (rows_of j) k ≡ waits j k) × (runs_at (rows_of j) k ≡ runs j k)

-- and has the journal's slots
abbrev pub ShowsSlots : Type 0
ShowsSlots = (j : History) (k : ℕ) → Legal j → (waits j k || runs j k) ≡ true → slots_at (rows_of j) k ≡ slots j k

-- the call that stands in the way of a waiting call is its blocker
abbrev pub ShowsBlocker : Type 0
ShowsBlocker = (j : History) (k : ℕ) → Legal j → waits j k ≡ true → conflict_of (rows_of j) k ≡ blocker j k

-- as many calls, as many handles that they may issue, and a running one where there is one
abbrev pub ShowsCounts : Type 0
ShowsCounts =
    (j : History) → Legal j
    → (length (rows_of j) ≡ length (waiting j) + length (running j))
    × (openings_of (rows_of j) ≡ openings j (waiting j) + openings j (running j))
    × (list_any is_running (rows_of j) ≡ not (is_empty (running j)))

-- the rows that an entry at this place leaves
abbrev pub left_by : List Row → ℕ → Entry → Bool → List Row
left_by rows place (Accept k a) running =
    rows ++ record { call = k; conn = a.conn; slots = a.slots; place = place; runs = false; cancelled = false; orphaned = false } ∷ []
left_by rows place (Take k cookies) running = with_start k rows
left_by rows place (Deny k slot) running = without k rows
left_by rows place (Cancel k) running = if running then with_cancel k rows else without k rows
left_by rows place (Orphan k) running = if running then with_orphan k rows else without k rows
left_by rows place (End k results said) running = without k rows
left_by rows place (Leave c) running = left c rows
left_by rows place (Join c) running = rows
left_by rows place (Shut items) running = rows

-- whether the call that an entry speaks of runs
abbrev pub speaks_of_running : History → Entry → Bool
speaks_of_running j (Cancel k) = runs j k
speaks_of_running j (Orphan k) = runs j k
speaks_of_running j _ = false

abbrev pub FollowsEntries : Type 0
FollowsEntries = (j : History) (e : Entry) → Legal (with_entry j e) → rows_of (with_entry j e) ≡ left_by (rows_of j) (size j) e (speaks_of_running j e)

-- a new call's number is above those of the table
abbrev pub NumbersRise : Type 0
NumbersRise = (j : History) (k : ℕ) → Legal j → accept_count j < k → over k (rows_of j) ≡ true

-- the calls are those of the base that the selections give
abbrev pub ShowsCalls : Type 0
ShowsCalls =
    (home : Home) (base : Base) (entries : List Entry) → Legal (history_of home base entries)
    → stored_calls base entries (rows_of (history_of home base entries)) ≡ open_calls (history_of home base entries)

-- and what a call asked that waits or runs is what its Accept says
abbrev pub open_asked : History → ℕ → Option Asked
open_asked j k = if waits j k || runs j k then asked j k else None

abbrev pub ShowsAsked : Type 0
ShowsAsked =
    (home : Home) (base : Base) (entries : List Entry) (k : ℕ) → Legal (history_of home base entries)
    → asked_at base entries (rows_of (history_of home base entries)) k ≡ open_asked (history_of home base entries) k
