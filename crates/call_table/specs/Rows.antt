-- The calls of a group that wait or run.
use Rattle.std.specs.Prelude.{ℕ, ◌+◌, Bool, true, ◌&&◌, not, ◌==◌, nat_lt, Option, Some, None, if◌then◌else◌, List, [], ◌∷◌, length, filter, map}
use Rattle.std.specs.List.{list_any, find}
use Rattle.std.specs.Option.{option_or}
use Rattle.handle_model.specs.declared.entry.Slot.{Slot}
use Rattle.handle_model.specs.Slots.{opens}
use Rattle.handle_model.specs.Journal.{any_clash, least}
use Rattle.call_table.specs.declared.row.Row.{Row}

-- the calls by rising number, and how many more may be accepted before memory is taken
pub record OpenCalls : Type 0 where
  pub rows : List Row
  pub room : ℕ

-- ONE ROW

-- it is that of this call
abbrev pub is_call : ℕ → Row → Bool
is_call k r = r.call == k

abbrev pub is_other : ℕ → Row → Bool
is_other k r = not (r.call == k)

-- and the call waits, or runs
abbrev pub waits_as : ℕ → Row → Bool
waits_as k r = is_call k r && not r.runs

abbrev pub runs_as : ℕ → Row → Bool
runs_as k r = is_call k r && r.runs

-- a waiting call
abbrev pub is_waiting : Row → Bool
is_waiting r = not r.runs

-- a running one
abbrev pub is_running : Row → Bool
is_running r = r.runs

-- a waiting call of this connection, and any other call
abbrev pub is_left : ℕ → Row → Bool
is_left c r = not r.runs && (r.conn == c)

abbrev pub stays : ℕ → Row → Bool
stays c r = not (is_left c r)

-- a running call that clashes with these slots, and a waiting one below k
abbrev pub blocks_running : List Slot → Row → Bool
blocks_running ss r = r.runs && any_clash ss r.slots

abbrev pub blocks_waiting : List Slot → ℕ → Row → Bool
blocks_waiting ss k r = not r.runs && (nat_lt r.call k && any_clash ss r.slots)

-- THE ROWS

abbrev pub row_at : List Row → ℕ → Option Row
row_at rows k = find (is_call k) rows

abbrev pub waits_at : List Row → ℕ → Bool
waits_at rows k = list_any (waits_as k) rows

abbrev pub runs_at : List Row → ℕ → Bool
runs_at rows k = list_any (runs_as k) rows

-- what a row says of its slots
abbrev pub slots_in : Option Row → List Slot
slots_in None = []
slots_in (Some r) = r.slots

abbrev pub slots_at : List Row → ℕ → List Slot
slots_at rows k = slots_in (row_at rows k)

-- the numbers of the calls
abbrev pub calls : List Row → List ℕ
calls rows = map (λ (r : Row). r.call) rows

-- each number is below k
abbrev pub is_below : ℕ → Row → Bool
is_below k r = nat_lt r.call k

abbrev pub over : ℕ → List Row → Bool
over k rows = not (list_any (λ r. not (is_below k r)) rows)

-- the least running call in conflict with k, else the least waiting one below k
abbrev pub least_running : List Slot → List Row → Option ℕ
least_running ss rows = least (calls (filter (blocks_running ss) rows))

abbrev pub least_waiting : List Slot → ℕ → List Row → Option ℕ
least_waiting ss k rows = least (calls (filter (blocks_waiting ss k) rows))

abbrev pub blocker_of : List Slot → ℕ → List Row → Option ℕ
blocker_of ss k rows = option_or (least_running ss rows) (least_waiting ss k rows)

abbrev pub conflict_of : List Row → ℕ → Option ℕ
conflict_of rows k = blocker_of (slots_at rows k) k rows

-- how many handles the calls may issue
abbrev pub openings_of : List Row → ℕ
openings_of [] = 0
openings_of (r ∷ rows) = length (filter opens r.slots) + openings_of rows

-- how many entries may still come of a call: Take or Deny, Cancel, Orphan and End where it waits, else those that are left
abbrev pub owed_by : Row → ℕ
owed_by r = if r.runs then 1 + (if r.cancelled then 0 else 1) + (if r.orphaned then 0 else 1) else 4

-- and of all
abbrev pub owed_of : List Row → ℕ
owed_of [] = 0
owed_of (r ∷ rows) = owed_by r + owed_of rows

-- no cookie for each slot
abbrev pub no_cookies : List Slot → List (Option ℕ)
no_cookies ss = map (λ (s : Slot). None) ss

-- where the Accepts of the running calls stand
abbrev pub running_places : List Row → List ℕ
running_places rows = map (λ (r : Row). r.place) (filter is_running rows)

-- EDITS

-- a call is taken, is cancelled, is orphaned
abbrev pub taken : Row → Row
taken r = record { call = r.call; conn = r.conn; slots = r.slots; place = r.place; runs = true; cancelled = r.cancelled; orphaned = r.orphaned }

abbrev pub cancelled : Row → Row
cancelled r = record { call = r.call; conn = r.conn; slots = r.slots; place = r.place; runs = r.runs; cancelled = true; orphaned = r.orphaned }

abbrev pub orphaned : Row → Row
orphaned r = record { call = r.call; conn = r.conn; slots = r.slots; place = r.place; runs = r.runs; cancelled = r.cancelled; orphaned = true }

-- the row of this call as f makes it, and any other as it is
abbrev pub at_call : ℕ → (Row → Row) → Row → Row
at_call k f r = if is_call k r then f r else r

-- the same rows, that of the call apart
abbrev pub with_start : ℕ → List Row → List Row
with_start k rows = map (at_call k taken) rows

abbrev pub with_cancel : ℕ → List Row → List Row
with_cancel k rows = map (at_call k cancelled) rows

abbrev pub with_orphan : ℕ → List Row → List Row
with_orphan k rows = map (at_call k orphaned) rows

abbrev pub without : ℕ → List Row → List Row
without k rows = filter (is_other k) rows

-- the waiting calls of the connection gone
abbrev pub left : ℕ → List Row → List Row
left c rows = filter (stays c) rows
