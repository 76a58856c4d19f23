-- A shard, and the history that it tells.
use Rattle.std.specs.Prelude.{◌≡◌, ℕ, ◌<◌, ◌≤◌, false, List, [], ◌∷◌, ◌++◌, length, slice_index_or, slice_set}
use Rattle.handle_model.specs.Bases.{empty_base}
use Rattle.handle_model.specs.History.{History, IsSound, since}
use Rattle.hub_story.specs.declared.item.Mark.{Mark}
use Rattle.hub_story.specs.declared.item.Item.{Item}
use Rattle.hub_story.specs.Directories.{opened_ids, open_ids, is_retired_id, id_of, index_of}
use Rattle.hub_story.specs.Histories.{marks_in, past_in, journal_in, home_of, IsStory}
use Rattle.hub_story.specs.Folded.{kept}
use Rattle.hub_shard.specs.declared.shard.Listed.{Listed}

-- the boot word of its server and its number, the marks of its directory, the newest first, its groups by index, and how many of
-- them are open
pub record ShardView : Type 0 where
  pub boot : ℕ
  pub number : ℕ
  pub marks : List Mark
  pub groups : List Listed
  pub open_groups : ℕ

abbrev pub unlisted : Listed
unlisted = record { group = since (home_of 0 0) empty_base []; retired = false }

-- the group of an index, and that of an id
abbrev pub listed_at : ShardView → ℕ → Listed
listed_at x i = slice_index_or x.groups i unlisted

abbrev pub group_of : ShardView → ℕ → History
group_of x g = (listed_at x (index_of g)).group

-- a shard stands for its history: each group keeps its journal
pub record Told (x : ShardView) (log : List Item) : Type 0 where
  pub story : IsStory x.boot x.number log
  pub small : x.number < 16
  pub marks_are : x.marks ≡ marks_in log
  pub count : length x.groups ≡ length (opened_ids x.marks)
  pub open_is : x.open_groups ≡ length (open_ids x.marks)
  pub groups_are : (i : ℕ) → i < length x.groups → (listed_at x i).group ≡ kept (journal_in x.boot (id_of x.number i) log)
  pub flags_are : (i : ℕ) → i < length x.groups → (listed_at x i).retired ≡ is_retired_id x.marks (id_of x.number i)

-- ACTS

-- an act added so many items to the history, of which none was folded away at once
pub record Acted (x y : ShardView) (log : List Item) (added : ℕ) (Gives : List Item → Type 0) : Type 0 where
  pub more : List Item
  pub count : length more ≡ added
  pub newest : (g : ℕ) → length (past_in g more) ≤ length (group_of y g).past
  pub told : Told y (log ++ more)
  pub gives : Gives more

-- the group of the id g is there
abbrev pub Has : ShardView → ℕ → Type 0
Has x g = (1 ≤ g) × (index_of g < length x.groups)

-- the group of that index alone changed, and is this
pub record TouchedAt (x : ShardView) (i : ℕ) (l : Listed) (y : ShardView) : Type 0 where
  pub is : y ≡ record x { groups = slice_set x.groups i l }
  pub flag : l.retired ≡ (listed_at x i).retired
  pub sound : IsSound l.group

abbrev pub Touched : ShardView → ℕ → Listed → ShardView → Type 0
Touched x g l y = TouchedAt x (index_of g) l y

-- a mark was added to the directory
abbrev pub MarkedBy : ShardView → Mark → ShardView → Type 0
MarkedBy x m y = y ≡ record x { marks = m ∷ x.marks }

-- no group has that id
pub record IsNoId (x : ShardView) (g : ℕ) : Type 0 where
  pub none : (i : ℕ) → i < length x.groups → g ≡ id_of x.number i → ⊥
