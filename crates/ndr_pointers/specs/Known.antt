-- What is known of the pointers of a stub.
use Rattle.std.specs.Prelude.{ℕ, ◌+◌, ◌*◌, ◌<◌, ◌^◌, ◌≡◌, List, [], map, length, Option, Some, None, Bool, false, ◌==◌, is_none, unwrap_or}
use Rattle.std.specs.Ordering.{nat_cmp}
use Rattle.std.specs.Map.{lookup}
use Rattle.std.specs.BTreeMap.{BTreeMap, get, is_at}
use Rattle.ndr_value.specs.Forms.{Form, form}
use Rattle.ndr_model.specs.Places.{look}
use Rattle.ndr_pointers.specs.declared.full.FullPointer.{FullPointer}

-- the ids of full pointers met, oldest first, with the shapes behind them; how many ids were given to pointers that are written, and the
-- ids of the heap's items, by number
pub record Known : Type 0 where
  pub met : List (ℕ × Form)
  pub given : ℕ
  pub ids : List (ℕ × ℕ)

abbrev pub mets : List FullPointer → List (ℕ × Form)
mets ms = map (λ m. (m.id, form m.shape.now)) ms

abbrev pub nothing : Known
nothing = record { met = []; given = 0; ids = [] }

-- the same after one more was met
abbrev pub known_with : Known → List (ℕ × Form) → Known
known_with k met = record { met = met; given = k.given; ids = k.ids }

abbrev pub number_of : Option (ℕ × Form) → Option ℕ
number_of None = None
number_of (Some m) = Some m.0

-- the index has the number of each id that was met
pub record IsIndex (index : BTreeMap ℕ ℕ) (met : List (ℕ × Form)) : Type 0 where
  pub each : (id : ℕ) → get nat_cmp index id ≡ number_of (look met id)
  pub few : length met < 2 ^ 32

-- ---- ids that are written

-- the id of an item of the heap to which a pointer was written
abbrev pub item_id : List (ℕ × ℕ) → ℕ → Option ℕ
item_id ids n = lookup (is_at (nat_cmp n)) ids

abbrev pub known_id : Known → Option ℕ → Option ℕ
known_id k None = None
known_id k (Some n) = item_id k.ids n

-- ids count from 0x00020000 by fours
abbrev pub next_id : Known → ℕ
next_id k = 131072 + 4 * k.given

-- the id of a pointer that is written: that of the item, or else the next one
abbrev pub id_of : Known → Option ℕ → ℕ
id_of k item = unwrap_or (known_id k item) (next_id k)

-- its referent follows, unless it is an item to which a pointer was written
abbrev pub follows : Known → Option ℕ → Bool
follows k item = is_none (known_id k item)

abbrev pub is_item : ℕ → Option ℕ → Bool
is_item n None = false
is_item n (Some m) = n == m
