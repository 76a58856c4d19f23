-- The open calls by number.
use Rattle.std.specs.Prelude.{◌≡◌, ℕ, ◌<◌, ◌^◌, Bool, true, false, Option, Some, None, ◌↔◌, IsTrue, List, [], ◌∷◌, ◌++◌, filter, ◌==◌, nat_lt}
use Rattle.std.specs.List.{list_any}
use Rattle.std.specs.Map.{values_of}
use Rattle.std.specs.BTreeMap.{BTreeMap}
use Rattle.handle_model.specs.declared.entry.Slot.{Slot}
use Rattle.call_table.specs.declared.row.Row.{Row}
use Rattle.call_table.specs.Rows.{is_below, is_left, row_at}
use Rattle.audit_tables.specs.declared.index.Index.{Index}
use Rattle.audit_tables.specs.Keyed.{IsTable}
use Rattle.audit_tables.specs.Index.{IsOf}
use Rattle.audit_tables.specs.Users.{holds_in}

abbrev pub call_of : Row → ℕ
call_of r = r.call

pub record IsKept (rows : BTreeMap ℕ Row) (index : Index) : Type 0 where
  pub table : IsTable call_of rows.entries
  pub index_is : IsOf (values_of rows.entries) index

-- a call comes, in the place of its number
abbrev pub is_above : ℕ → Row → Bool
is_above k r = nat_lt k r.call

abbrev pub with_row : Row → List Row → List Row
with_row r rows = filter (is_below r.call) rows ++ r ∷ filter (is_above r.call) rows

-- a waiting call of the connection, or none waits
abbrev pub IsFirstWaiting : List Row → ℕ → Option ℕ → Type 0
IsFirstWaiting rows c None = list_any (is_left c) rows ≡ false
IsFirstWaiting rows c (Some k) = holds_in (is_left c) (row_at rows k) ≡ true
