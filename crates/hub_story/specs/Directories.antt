-- The directory of a shard: its marks, the newest first.
use Rattle.std.specs.Prelude.{ℕ, zero, suc, ◌+◌, ◌-◌, ◌*◌, ◌/◌, ◌^◌, Bool, false, ◌&&◌, not, ◌==◌, nat_lt, Option, Some, None, List, [], ◌∷◌, length, filter}
use Rattle.std.specs.List.{list_any, filter_map}
use Rattle.hub_story.specs.declared.item.Mark.{Mark}
use Rattle.hub_story.specs.declared.item.Mark.TheVariants.{Opened, Missed, Retired}

-- ONE MARK

abbrev pub opens_id : ℕ → Mark → Bool
opens_id g (Opened h) = h == g
opens_id g _ = false

abbrev pub retires_id : ℕ → Mark → Bool
retires_id g (Retired h) = h == g
retires_id g _ = false

abbrev pub opened_by : Mark → Option ℕ
opened_by (Opened h) = Some h
opened_by _ = None

-- A DIRECTORY

-- the ids that were opened, the newest first
abbrev pub opened_ids : List Mark → List ℕ
opened_ids marks = filter_map opened_by marks

abbrev pub is_opened_id : List Mark → ℕ → Bool
is_opened_id marks g = list_any (opens_id g) marks

abbrev pub is_retired_id : List Mark → ℕ → Bool
is_retired_id marks g = list_any (retires_id g) marks

-- opened and not retired
abbrev pub is_open_id : List Mark → ℕ → Bool
is_open_id marks g = is_opened_id marks g && not (is_retired_id marks g)

abbrev pub open_ids : List Mark → List ℕ
open_ids marks = filter (is_open_id marks) (opened_ids marks)

-- THE IDS OF A SHARD

-- the id of index n, from 0, of the shard s: s + 1, s + 17, s + 33 and so on
abbrev pub id_of : ℕ → ℕ → ℕ
id_of s n = s + 1 + 16 * n

-- the index of an id in its shard
abbrev pub index_of : ℕ → ℕ
index_of g = (g - 1) / 16

abbrev pub is_of : ℕ → ℕ → Bool
is_of s g = g == id_of s (index_of g)

-- its first n ids, the last first
abbrev pub first_ids : ℕ → ℕ → List ℕ
first_ids s zero = []
first_ids s (suc n) = id_of s n ∷ first_ids s n

-- the least id that was not opened, where the first ones were
abbrev pub next_id : ℕ → List Mark → ℕ
next_id s marks = id_of s (length (opened_ids marks))

-- ROOM FOR A GROUP MORE

-- 64 groups are open; every id below 2 ^ 32 was opened
abbrev pub is_full : List Mark → Bool
is_full marks = not (nat_lt (length (open_ids marks)) 64)

abbrev pub is_used_up : ℕ → List Mark → Bool
is_used_up s marks = not (nat_lt (next_id s marks) (2 ^ 32))
