-- The places of the running calls.
use Rattle.std.specs.Prelude.{ℕ, ◌+◌, ◌≤◌, if◌then◌else◌, List}
use Rattle.call_table.specs.declared.row.Row.{Row}
use Rattle.call_table.specs.Sorted.{OrderedKeys, one, HasKeys}
use Rattle.call_table.specs.Tally.{total_of}

-- a row's call runs, and its Accept stands there
abbrev pub runs_at_place : ℕ → Row → ℕ
runs_at_place n r = if r.runs then one n r.place else 0

-- each running call has its place among them, and no other
abbrev pub HasRunning : List Row → List ℕ → Type 0
HasRunning rows places = HasKeys runs_at_place rows places

-- whether a call waits
abbrev pub waits_of : Row → ℕ
waits_of r = if r.runs then 0 else 1

-- they are those of the rows, and there is room for each that waits and for as many more
pub record IsPlaced (rows : List Row) (running : OrderedKeys) (room : ℕ) : Type 0 where
  pub has_running : HasRunning rows running.keys
  pub enough : total_of waits_of rows + room ≤ running.room
