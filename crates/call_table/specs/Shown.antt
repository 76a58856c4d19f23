-- The rows that a journal has.
use Rattle.std.specs.Prelude.{ℕ, ◌+◌, ◌||◌, ◌==◌, Option, Some, None, if◌then◌else◌, List, [], ◌∷◌, length, map, reverse}
use Rattle.std.specs.List.{filter_map}
use Rattle.handle_model.specs.declared.entry.Asked.{Asked}
use Rattle.handle_model.specs.declared.entry.Entry.{Entry}
use Rattle.handle_model.specs.declared.entry.Entry.TheVariants.{Accept}
use Rattle.handle_model.specs.declared.base.BaseCall.{BaseCall}
use Rattle.handle_model.specs.declared.base.Base.{Base}
use Rattle.handle_model.specs.History.{History}
use Rattle.handle_model.specs.Journal.{asked, accepted, waits, runs, is_cancelled, is_orphaned}
use Rattle.call_table.specs.declared.row.Row.{Row}

-- where the Accept of call k stands; that of a call of the base stands at the base's count
abbrev pub place_since : Base → List Entry → ℕ → ℕ
place_since base [] k = base.count
place_since base (Accept m a ∷ past) k = if m == k then base.count + length past else place_since base past k
place_since base (_ ∷ past) k = place_since base past k

abbrev pub place_of : History → ℕ → ℕ
place_of j k = place_since j.base j.past k

-- the row of call k, which asked a
abbrev pub call_row : History → ℕ → Asked → Row
call_row j k a =
    record { call = k; conn = a.conn; slots = a.slots; place = place_of j k; runs = runs j k; cancelled = is_cancelled j k; orphaned = is_orphaned j k }

-- while it waits or runs
abbrev pub row_as : History → ℕ → Option Asked → Option Row
row_as j k None = None
row_as j k (Some a) = if waits j k || runs j k then Some (call_row j k a) else None

abbrev pub row_in : History → ℕ → Option Row
row_in j k = row_as j k (asked j k)

-- the calls that wait or run, by rising number
abbrev pub rows_of : History → List Row
rows_of j = filter_map (row_in j) (reverse (accepted j))

-- the row of a call of a base, at that place
abbrev pub base_row : ℕ → BaseCall → Row
base_row place c =
    record { call = c.call; conn = c.asked.conn; slots = c.asked.slots; place = place; runs = c.taken; cancelled = c.cancelled; orphaned = c.orphaned }

abbrev pub base_rows : Base → List Row
base_rows base = map (base_row base.count) base.calls
