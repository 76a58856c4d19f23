-- What is counted over all rows, so that no call has to look at each.
use Rattle.std.specs.Prelude.{◌≡◌, ℕ, ◌+◌, ◌<◌, ◌≤◌, ◌^◌, if◌then◌else◌, List, [], ◌∷◌, length, filter}
use Rattle.handle_model.specs.Slots.{opens}
use Rattle.call_table.specs.declared.row.Row.{Row}
use Rattle.call_table.specs.declared.tally.Tally.{Tally}

-- SUMS

abbrev pub total_of : (Row → ℕ) → List Row → ℕ
total_of f [] = 0
total_of f (r ∷ rows) = f r + total_of f rows

-- how many handles a call may issue, and whether it runs
abbrev pub opens_of : Row → ℕ
opens_of r = length (filter opens r.slots)

abbrev pub runs_of : Row → ℕ
runs_of r = if r.runs then 1 else 0

-- what is counted, of these rows
pub record IsTally (rows : List Row) (t : Tally) : Type 0 where
  pub openings_is : t.openings ≡ total_of opens_of rows
  pub running_is : t.running ≡ total_of runs_of rows

-- what is counted, and what is left
pub record IsPart (rows rest : List Row) (t : Tally) : Type 0 where
  pub openings_part : t.openings + total_of opens_of rest ≡ total_of opens_of rows
  pub running_part : t.running + total_of runs_of rest ≡ total_of runs_of rows

-- each count has a place for a call more
pub record HasRoom (t : Tally) : Type 0 where
  pub openings_room : t.openings + 4 < 2 ^ 64
  pub running_room : t.running + 1 < 2 ^ 64

-- each count has that of a row
pub record Holds (t : Tally) (r : Row) : Type 0 where
  pub openings_there : opens_of r ≤ t.openings
  pub running_there : runs_of r ≤ t.running

-- a row more
pub record Enters (old : Tally) (r : Row) (new : Tally) : Type 0 where
  pub openings_more : new.openings ≡ old.openings + opens_of r
  pub running_more : new.running ≡ old.running + runs_of r

-- and a row less
pub record Leaves (old : Tally) (r : Row) (new : Tally) : Type 0 where
  pub openings_less : new.openings + opens_of r ≡ old.openings
  pub running_less : new.running + runs_of r ≡ old.running
