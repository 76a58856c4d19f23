-- The last of the calls that stand in the way of a waiting one.
use Rattle.std.specs.Prelude.{◌≡◌, ◌↔◌, ℕ, max, Bool, true, ◌&&◌, ◌||◌, nat_lt, Option, Some, None, if◌then◌else◌, List, [], ◌∷◌, ◌++◌, filter}
use Rattle.handle_model.specs.declared.entry.Slot.{Slot}
use Rattle.handle_model.specs.History.{History}
use Rattle.handle_model.specs.Journal.{Legal, waits, waiting, running, conflict, blocker}
use Rattle.call_table.specs.declared.row.Row.{Row}
use Rattle.call_table.specs.Rows.{calls, blocks_running, blocks_waiting, slots_at}
use Rattle.call_table.specs.Shown.{rows_of}

-- the greatest of some numbers
abbrev pub greater : ℕ → Option ℕ → Option ℕ
greater n None = Some n
greater n (Some m) = Some (max n m)

abbrev pub greatest : List ℕ → Option ℕ
greatest [] = None
greatest (n ∷ ns) = greater n (greatest ns)

-- the greater of two numbers, where there is one
abbrev pub greatest_of : Option ℕ → Option ℕ → Option ℕ
greatest_of None o = o
greatest_of (Some n) o = greater n o

-- IN A JOURNAL

-- the running calls in conflict with call k, and the waiting ones below it
abbrev pub calls_ahead : History → ℕ → List ℕ
calls_ahead j k = filter (conflict j k) (running j) ++ filter (λ m. nat_lt m k && conflict j k m) (waiting j)

-- the greatest of them, while the call waits
abbrev pub last_ahead : History → ℕ → Option ℕ
last_ahead j k = if waits j k then greatest (calls_ahead j k) else None

-- IN ROWS

-- a row of a call that stands in the way of one with these slots, of number k
abbrev pub is_ahead : List Slot → ℕ → Row → Bool
is_ahead ss k r = blocks_running ss r || blocks_waiting ss k r

abbrev pub last_of : List Slot → ℕ → List Row → Option ℕ
last_of ss k rows = greatest (calls (filter (is_ahead ss k) rows))

abbrev pub last_at : List Row → ℕ → Option ℕ
last_at rows k = last_of (slots_at rows k) k rows

-- one row more, which may be such a call
abbrev pub with_row : List Slot → ℕ → Row → Option ℕ → Option ℕ
with_row ss k r last = if is_ahead ss k r then greater r.call last else last

-- LAWS

-- of a waiting call it is the journal's
abbrev pub ShowsLast : Type 0
ShowsLast = (j : History) (k : ℕ) → Legal j → waits j k ≡ true → last_at (rows_of j) k ≡ last_ahead j k

-- a waiting call has none exactly where it has no blocker
abbrev pub NoneAheadOfFree : Type 0
NoneAheadOfFree = (j : History) (k : ℕ) → waits j k ≡ true → (last_ahead j k ≡ None) ↔ (blocker j k ≡ None)
