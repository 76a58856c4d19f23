-- What the tables say of a call before anything is added, and what then comes.
use Rattle.std.specs.Prelude.{◌≡◌, ℕ, ◌+◌, Bool, true, false, ◌&&◌, not, ◌==◌, Option, Some, None, if◌then◌else◌, List, [], length}
use Rattle.handle_model.specs.declared.entry.Home.{Home}
use Rattle.handle_model.specs.declared.entry.DueItem.{DueItem}
use Rattle.handle_model.specs.declared.entry.Entry.TheVariants.{Shut}
use Rattle.handle_table.specs.Handles.{Handles}
use Rattle.handle_table.specs.Uses.{fault_at, cookies_at}
use Rattle.call_table.specs.declared.row.Row.{Row}
use Rattle.call_table.specs.Rows.{row_at, slots_at, conflict_of}
use Rattle.call_table.specs.Ahead.{last_at}
use Rattle.group_core.specs.declared.answer.Cancelled.{Cancelled}
use Rattle.group_core.specs.declared.answer.Cancelled.TheVariants as cancelled
use Rattle.group_core.specs.declared.answer.Orphaned.{Orphaned}
use Rattle.group_core.specs.declared.answer.Orphaned.TheVariants as orphaned
use Rattle.group_core.specs.declared.answer.Rest.{Rest}
use Rattle.group_core.specs.declared.answer.Rest.TheVariants as rest
use Rattle.group_core.specs.declared.answer.Stage.{Stage}
use Rattle.group_core.specs.declared.answer.Stage.TheVariants as stage
use Rattle.group_core.specs.declared.judge.Judged.{Judged}
use Rattle.group_core.specs.declared.judge.Judged.TheVariants.{Free, AtFault, Blocked, NotWaiting}
use Rattle.group_core.specs.declared.counts.Counts.{Counts}
use Rattle.group_core.specs.Calls.{cookie_row, first_serial}
use Rattle.group_core.specs.Kept.{Logged, Came}

-- a row is that of a waiting call, of a running one, of one that may yet be cancelled or orphaned
abbrev pub waits_in : Option Row → Bool
waits_in None = false
waits_in (Some r) = not r.runs

abbrev pub runs_in : Option Row → Bool
runs_in None = false
runs_in (Some r) = r.runs

abbrev pub tells_in : Option Row → Bool
tells_in None = false
tells_in (Some r) = r.runs && not r.cancelled

abbrev pub drops_in : Option Row → Bool
drops_in None = false
drops_in (Some r) = r.runs && not r.orphaned

-- whether a call may be taken, and what it is then handed
abbrev pub Judges : Home → List DueItem → List Row → ℕ → Judged → Type 0
Judges home items rows k (Free row serial) =
    (waits_in (row_at rows k) ≡ true) × (conflict_of rows k ≡ None) × (fault_at home items (slots_at rows k) ≡ None)
    × (row ≡ cookie_row (cookies_at home items (slots_at rows k))) × (serial ≡ first_serial (slots_at rows k))
Judges home items rows k (AtFault j) =
    (waits_in (row_at rows k) ≡ true) × (conflict_of rows k ≡ None) × (fault_at home items (slots_at rows k) ≡ Some j)
Judges home items rows k (Blocked m) = (waits_in (row_at rows k) ≡ true) × (conflict_of rows k ≡ Some m)
Judges home items rows k NotWaiting = waits_in (row_at rows k) ≡ false

-- what a cancel and an orphaning come to
abbrev pub JudgesCancel : Option Row → Cancelled → Type 0
JudgesCancel row cancelled.Ended = waits_in row ≡ true
JudgesCancel row cancelled.Flagged = tells_in row ≡ true
JudgesCancel row cancelled.Late = (waits_in row ≡ false) × (tells_in row ≡ false)

abbrev pub JudgesOrphan : Option Row → Orphaned → Type 0
JudgesOrphan row orphaned.Dropped = waits_in row ≡ true
JudgesOrphan row orphaned.Running = drops_in row ≡ true
JudgesOrphan row orphaned.Late = (waits_in row ≡ false) × (drops_in row ≡ false)

-- where a call is
abbrev pub stage_in : Option Row → Stage
stage_in row = if waits_in row then stage.Waiting else (if runs_in row then stage.Running else stage.Over)

-- the last call in the way of one that waits
abbrev pub ahead_in : List Row → ℕ → Option ℕ
ahead_in rows k = if waits_in (row_at rows k) then last_at rows k else None

-- the Cancel and the Orphan that a call has not had
abbrev pub left_in : Option Row → ℕ
left_in None = 0
left_in (Some r) = (if r.cancelled then 0 else 1) + (if r.orphaned then 0 else 1)

-- connections joined, none is open, and no call runs
abbrev pub is_due_at : Counts → Bool → Bool
is_due_at counts running = not (counts.joined == 0) && (length counts.conns.conns == 0) && not running

-- the Shut comes where it is due, with all handles
abbrev pub ShutsIfDue : Bool → Logged → Handles → Rest → Logged → Handles → Type 0
ShutsIfDue due log handles rest.Stays new left = (due ≡ false) × (new ≡ log) × (left ≡ handles)
ShutsIfDue due log handles (rest.Shut items) new left =
    (due ≡ true) × (items ≡ handles.items) × Came log (Shut items) new × (new.spare + 1 ≡ log.spare)
    × (left ≡ record { home = handles.home; items = []; room = 0 })
