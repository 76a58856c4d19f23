-- Where the row of a call stands among rows of rising numbers.
use Rattle.std.specs.Prelude.{◌≡◌, ℕ, ◌<◌, ◌≤◌, Option, Some, None, List, length, slice_index_or}
use Rattle.call_table.specs.declared.row.Row.{Row}
use Rattle.call_table.specs.Rows.{row_at}
use Rattle.call_table.specs.Kept.{IsRow}

-- the numbers before place i are below k, and no others
pub record IsPlace (rows : List Row) (k i : ℕ) : Type 0 where
  pub within : i ≤ length rows
  pub low : (j : ℕ) (d : Row) → j < i → (slice_index_or rows j d).call < k
  pub high : (j : ℕ) (d : Row) → i ≤ j → j < length rows → k ≤ (slice_index_or rows j d).call

-- the row stands at place i, or there is none
abbrev pub Sought : List Row → ℕ → Option ℕ → Type 0
Sought rows k (Some i) = IsRow rows k i
Sought rows k None = row_at rows k ≡ None
