-- Rows that stand in a slab, with an index by call number.
use Rattle.std.specs.Prelude.{◌≡◌, ◌≢◌, ℕ, zero, suc, ◌+◌, ◌<◌, ◌≤◌, Option, Some, None, MatchOption, List, [], ◌∷◌, length, slice_index_or}
use Rattle.std.specs.VecDeque.{deque_len, deque_capacity}
use Rattle.std.specs.declared.collections.VecDeque.{VecDeque}
use Rattle.std.specs.List.{AllByRecursion}
use Rattle.std.specs.declared.alloc.Global.{Global}
use Rattle.slab.specs.Slab.{Slab, get, HasRoomFor}
use Rattle.call_table.specs.declared.row.Row.{Row}
use Rattle.call_table.specs.declared.row_table.RowKey.{RowKey}

-- the rows by rising number, and how many more may come before memory is taken
pub record StoredRows : Type 0 where
  pub items : List Row
  pub room : ℕ

-- the row at a place as f makes it, and any other as it is
abbrev pub set_at : ℕ → (Row → Row) → List Row → List Row
set_at i f [] = []
set_at zero f (r ∷ rows) = f r ∷ rows
set_at (suc i) f (r ∷ rows) = r ∷ set_at i f rows

-- THE INDEX

abbrev pub with_some : Option Row → List Row → List Row
with_some None rows = rows
with_some (Some r) rows = r ∷ rows

-- the rows at the keys of an index, in its order
abbrev pub rows_in : Slab Row → List RowKey → List Row
rows_in s [] = []
rows_in s (k ∷ ks) = with_some (get s k.key) (rows_in s ks)

-- at the key stands the row of the call
abbrev pub Stands : Slab Row → RowKey → Type 0
Stands s k = MatchOption (get s k.key) ⊥ (λ r. r.call ≡ k.call)

-- no two have one key
abbrev pub Apart : List RowKey → Type 0
Apart [] = Unit {0}
Apart (k ∷ ks) = AllByRecursion (λ m. m.key ≢ k.key) ks × Apart ks

-- what may still come has a place in the slab and in the index
pub record IsStored (rows : Slab Row) (index : VecDeque RowKey Global) (room : ℕ) : Type 0 where
  pub stand : AllByRecursion (Stands rows) index.items
  pub apart : Apart index.items
  pub places : deque_len index + room ≤ deque_capacity index
  pub spare : HasRoomFor rows room

-- PLACES

-- the numbers rise, from this one on
abbrev pub KeysRise : ℕ → List RowKey → Type 0
KeysRise low [] = Unit {0}
KeysRise low (k ∷ ks) = (low ≤ k.call) × KeysRise (k.call + 1) ks

-- those before place i are below n, and no others
pub record IsKeyPlace (keys : List RowKey) (n i : ℕ) : Type 0 where
  pub within : i ≤ length keys
  pub low : (j : ℕ) (d : RowKey) → j < i → (slice_index_or keys j d).call < n
  pub high : (j : ℕ) (d : RowKey) → i ≤ j → j < length keys → n ≤ (slice_index_or keys j d).call
