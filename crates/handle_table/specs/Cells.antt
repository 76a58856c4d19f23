-- Handles by rising serial: those that are live, and others that were. Each has a cell, which keeps its place whether its handle is live or not.
use Rattle.std.specs.Prelude.{◌≡◌, ℕ, ◌+◌, ◌<◌, ◌≤◌, ◌^◌, Bool, true, false, Option, Some, None, Result, Ok, Err, if◌then◌else◌, List, [], ◌∷◌, length, map, slice_index_or, Vec, vec_len, vec_capacity}
use Rattle.std.specs.declared.alloc.Global.{Global}
use Rattle.handle_model.specs.declared.entry.DueItem.{DueItem}

-- a handle, and whether it is live; of one that isn't the serial alone is known
pub record Cell : Type 0 where
  pub item : DueItem
  pub live : Bool

abbrev pub live_cell : DueItem → Cell
live_cell i = record { item = i; live = true }

abbrev pub dead_cell : ℕ → Cell
dead_cell h = record { item = record { serial = h; kind = 0; cookie = 0 }; live = false }

-- the cells, and how many more handles may be put among them before memory is taken
pub record Stored : Type 0 where
  pub cells : List Cell
  pub room : ℕ

-- the live handles
abbrev pub living : List Cell → List DueItem
living [] = []
living (c ∷ cells) = if c.live then c.item ∷ living cells else living cells

-- the handle of a cell, where it is live
abbrev pub item_in : Cell → Option DueItem
item_in c = if c.live then Some c.item else None

-- the cells of live handles
abbrev pub fresh : List DueItem → List Cell
fresh items = map live_cell items

abbrev pub is_live : Cell → Bool
is_live c = c.live

-- the serials rise, from this one on, and have 32 bits
abbrev pub Climb : ℕ → List Cell → Type 0
Climb low [] = Unit {0}
Climb low (c ∷ cells) = (low ≤ c.item.serial) × (c.item.serial < 2 ^ 32) × Climb (c.item.serial + 1) cells

-- PLACES

-- the serials before place i are below h, and no others
pub record IsPlace (cells : List Cell) (h i : ℕ) : Type 0 where
  pub within : i ≤ length cells
  pub low : (j : ℕ) (d : Cell) → j < i → (slice_index_or cells j d).item.serial < h
  pub high : (j : ℕ) (d : Cell) → i ≤ j → j < length cells → h ≤ (slice_index_or cells j d).item.serial

-- the cell at place i has this serial
pub record IsAt (cells : List Cell) (h i : ℕ) : Type 0 where
  pub within : i < length cells
  pub here : (d : Cell) → (slice_index_or cells i d).item.serial ≡ h

-- none has it, and it would stand at place i
pub record IsGap (cells : List Cell) (h i : ℕ) : Type 0 where
  pub within : i ≤ length cells
  pub low : (j : ℕ) (d : Cell) → j < i → (slice_index_or cells j d).item.serial < h
  pub high : (j : ℕ) (d : Cell) → i ≤ j → j < length cells → h < (slice_index_or cells j d).item.serial

abbrev pub Sought : List Cell → ℕ → Result ℕ ℕ → Type 0
Sought cells h (Ok i) = IsAt cells h i
Sought cells h (Err i) = IsGap cells h i

-- the cell at place i is live, or dead
abbrev pub IsLiveAt : List Cell → ℕ → Bool → Type 0
IsLiveAt cells i live = (d : Cell) → (slice_index_or cells i d).live ≡ live

-- what may still come has room among the cells, and a place in each of the lists that a Shut fills
pub record IsKept (stored : Stored) (due given : Vec DueItem Global) (room : ℕ) : Type 0 where
  pub rises : Climb 0 stored.cells
  pub places : room ≤ stored.room
  pub due_places : length (living stored.cells) + room ≤ vec_capacity due
  pub given_places : length (living stored.cells) + room ≤ vec_capacity given
  pub no_due : vec_len due ≡ 0
  pub no_given : vec_len given ≡ 0
