-- Handles that stand in a slab while they are live, with an index by serial.
use Rattle.std.specs.Prelude.{◌≡◌, ◌≢◌, ℕ, ◌+◌, ◌-◌, ◌<◌, ◌≤◌, ◌^◌, ◌==◌, Option, Some, None, MatchOption, if◌then◌else◌, List, [], ◌∷◌, length, map, slice_index_or, Vec, vec_len, vec_capacity}
use Rattle.std.specs.List.{AllByRecursion}
use Rattle.std.specs.declared.alloc.Global.{Global}
use Rattle.slab.specs.Slab.{Slab, get, slab_len, HasRoomFor}
use Rattle.handle_model.specs.declared.entry.DueItem.{DueItem}
use Rattle.handle_table.specs.declared.places.Place.{Place}
use Rattle.handle_table.specs.Cells.{Cell, live_cell, dead_cell, living}

-- the key of no handle, which a place has whose handle was closed
abbrev pub no_key : ℕ
no_key = 2 ^ 32 - 1

-- the handle of a place, while it is live
abbrev pub held : Slab DueItem → Place → Option DueItem
held s p = if p.key == no_key then None else get s p.key

-- the cell of a place, and of each place of an index
abbrev pub cell_of : ℕ → Option DueItem → Cell
cell_of h None = dead_cell h
cell_of h (Some i) = live_cell i

abbrev pub cell_at : Slab DueItem → Place → Cell
cell_at s p = cell_of p.serial (held s p)

abbrev pub cells_in : Slab DueItem → List Place → List Cell
cells_in s ps = map (cell_at s) ps

-- under its key stands the handle of the serial
abbrev pub Stands : Slab DueItem → Place → Type 0
Stands s p = p.key ≢ no_key → MatchOption (get s p.key) ⊥ (λ i. i.serial ≡ p.serial)

-- no two live ones have one key
abbrev pub Apart : List Place → Type 0
Apart [] = Unit {0}
Apart (p ∷ ps) = (p.key ≢ no_key → AllByRecursion (λ q. q.key ≢ p.key) ps) × Apart ps

-- what may still come has a place in the slab and in the index; the slab's keys are below that of no handle
pub record IsStored (s : Slab DueItem) (places : Vec Place Global) (room : ℕ) : Type 0 where
  pub stand : AllByRecursion (Stands s) places.items
  pub apart : Apart places.items
  pub counted : slab_len s ≡ length (living (cells_in s places.items))
  pub room_there : vec_len places + room ≤ vec_capacity places
  pub spare : HasRoomFor s room
  pub narrow : s.capacity ≤ no_key

-- SEARCH

-- the serials of an index rise, from this one on
abbrev pub PlacesRise : ℕ → List Place → Type 0
PlacesRise low [] = Unit {0}
PlacesRise low (p ∷ ps) = (low ≤ p.serial) × PlacesRise (p.serial + 1) ps

-- those before place i are below h, and no others
pub record IsSerialPlace (ps : List Place) (h i : ℕ) : Type 0 where
  pub within : i ≤ length ps
  pub low : (j : ℕ) (d : Place) → j < i → (slice_index_or ps j d).serial < h
  pub high : (j : ℕ) (d : Place) → i ≤ j → j < length ps → h ≤ (slice_index_or ps j d).serial

-- GROWTH

-- the same handles under the same keys, with room for n more
pub record IsGrown (s t : Slab DueItem) (n : ℕ) : Type 0 where
  pub same : t.slots ≡ s.slots
  pub room : HasRoomFor t n
  pub narrow : t.capacity ≤ no_key
