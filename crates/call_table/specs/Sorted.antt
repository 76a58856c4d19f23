-- Numbers in order, each as often as it was put in.
use Rattle.std.specs.Prelude.{◌≡◌, ℕ, ◌+◌, ◌<◌, ◌≤◌, ◌==◌, if◌then◌else◌, Option, Some, None, List, length, slice_index_or}
use Rattle.std.specs.VecDeque.{deque_len, deque_capacity}
use Rattle.std.specs.declared.collections.VecDeque.{VecDeque}
use Rattle.std.specs.List.{sum_by}
use Rattle.std.specs.List.Sorted.{IsNonDecreasing}
use Rattle.std.specs.declared.alloc.Global.{Global}
use Rattle.call_table.specs.declared.row.Row.{Row}
use Rattle.call_table.specs.Tally.{total_of}

-- the keys, and how many more may come before memory is taken
pub record OrderedKeys : Type 0 where
  pub keys : List ℕ
  pub room : ℕ

-- it is this key
abbrev pub one : ℕ → ℕ → ℕ
one n k = if k == n then 1 else 0

-- how often the key is among them
abbrev pub held : ℕ → List ℕ → ℕ
held n keys = sum_by (one n) keys

-- they rise, and what may still come has a place
pub record IsSorted (keys : VecDeque ℕ Global) (room : ℕ) : Type 0 where
  pub rise : IsNonDecreasing keys.items
  pub places : deque_len keys + room ≤ deque_capacity keys

-- those before place i are below n, and no others
pub record IsKeyIndex (keys : List ℕ) (n i : ℕ) : Type 0 where
  pub within : i ≤ length keys
  pub low : (j d : ℕ) → j < i → slice_index_or keys j d < n
  pub high : (j d : ℕ) → i ≤ j → j < length keys → n ≤ slice_index_or keys j d

-- the least key from this number on, or there is none
abbrev pub IsLeastFrom : List ℕ → ℕ → Option ℕ → Type 0
IsLeastFrom keys low None = (n : ℕ) → low ≤ n → held n keys ≡ 0
IsLeastFrom keys low (Some k) = (low ≤ k) × (0 < held k keys) × ((n : ℕ) → low ≤ n → n < k → held n keys ≡ 0)

-- each key is among them as often as f says that the rows have it
abbrev pub HasKeys : (ℕ → Row → ℕ) → List Row → List ℕ → Type 0
HasKeys f rows keys = (n : ℕ) → held n keys ≡ total_of (f n) rows
