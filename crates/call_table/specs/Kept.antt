-- What always holds of the fields of a table.
use Rattle.std.specs.Prelude.{◌≡◌, ℕ, ◌+◌, ◌<◌, ◌≤◌, ◌^◌, Option, None, List, [], ◌∷◌, length, filter, slice_index_or, Vec, vec_len}
use Rattle.std.specs.List.{All}
use Rattle.std.specs.declared.alloc.Global.{Global}
use Rattle.call_table.specs.declared.row.Row.{Row}
use Rattle.call_table.specs.Rows.{is_waiting}
use Rattle.call_table.specs.Keys.{StoredRows}

-- the numbers rise, from this one on, and have 32 bits
abbrev pub Rises : ℕ → List Row → Type 0
Rises low [] = Unit {0}
Rises low (r ∷ rows) = (low ≤ r.call) × (r.call < 2 ^ 32) × Rises (r.call + 1) rows

-- a list of as many empty places as a call may have slots
abbrev pub blank : List (Option ℕ)
blank = None ∷ None ∷ None ∷ None ∷ []

-- each call has at most four slots
abbrev pub AllFew : List Row → Type 0
AllFew [] = Unit {0}
AllFew (r ∷ rows) = (length r.slots ≤ 4) × AllFew rows

-- the call's row stands at place i
pub record IsRow (rows : List Row) (k i : ℕ) : Type 0 where
  pub within : i < length rows
  pub here : (d : Row) → (slice_index_or rows i d).call ≡ k

-- what may still come has room among the rows, and each call that may yet start a list for its cookies
pub record IsKept (rows : StoredRows) (lists : Vec (List (Option ℕ)) Global) (room : ℕ) : Type 0 where
  pub rises : Rises 0 rows.items
  pub few : AllFew rows.items
  pub places : room ≤ rows.room
  pub enough : length (filter is_waiting rows.items) + room ≤ vec_len lists
  pub blanks : All (λ b. b ≡ blank) lists.items
