-- How many entries may still come of what has joined and was accepted.
use Rattle.std.specs.Prelude.{ℕ, ◌+◌, if◌then◌else◌, length}
use Rattle.std.specs.List.{list_any}
use Rattle.handle_model.specs.History.{History}
use Rattle.handle_model.specs.Journal.{conns, is_shut}
use Rattle.call_table.specs.Rows.{owed_of}
use Rattle.call_table.specs.Shown.{rows_of}

-- the Shut
abbrev pub shut_owed : History → ℕ
shut_owed j = if list_any is_shut j.past then 0 else 1

-- of the calls that wait or run, the Leave of each open connection, and the Shut
abbrev pub owed : History → ℕ
owed j = owed_of (rows_of j) + length (conns j) + shut_owed j
