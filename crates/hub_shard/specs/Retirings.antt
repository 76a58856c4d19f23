-- What is answered where a group is retired, and what that adds.
use Rattle.std.specs.Prelude.{◌≡◌, ℕ, ◌-◌, true, false, List, [], ◌∷◌, slice_set}
use Rattle.std.specs.List.{list_any}
use Rattle.handle_model.specs.Journal.{is_shut}
use Rattle.hub_story.specs.declared.item.Mark.TheVariants.{Retired as MarkedRetired}
use Rattle.hub_story.specs.declared.item.Item.{Item}
use Rattle.hub_story.specs.declared.item.Item.TheVariants.{Listed as Marked}
use Rattle.hub_story.specs.Directories.{is_open_id, index_of}
use Rattle.hub_story.specs.Histories.{marks_in, past_in}
use Rattle.hub_shard.specs.declared.answer.Retired.{Retired as Answered}
use Rattle.hub_shard.specs.declared.retiring.Retire.{Retire}
use Rattle.hub_shard.specs.declared.shard.Listed.{Listed}
use Rattle.hub_shard.specs.Shards.{ShardView, listed_at}

abbrev pub retired_listed : Listed → Listed
retired_listed l = record l { retired = true }

abbrev pub RetiresAs : ShardView → ℕ → ShardView → Type 0
RetiresAs x g y =
    y ≡ record x { marks = MarkedRetired g ∷ x.marks; groups = slice_set x.groups (index_of g) (retired_listed (listed_at x (index_of g))); open_groups = x.open_groups - 1 }

-- the group is open, and has ended
abbrev pub asks_retire : Retire → ℕ → List Item → Type 0
asks_retire a boot log = (is_open_id (marks_in log) a.key ≡ true) × (list_any is_shut (past_in a.key log) ≡ true)

abbrev pub gives_retire : Retire → ℕ → ℕ → List Item → Answered → List Item → Type 0
gives_retire a boot s log r more = (r ≡ record { group = a.key }) × (more ≡ Marked (MarkedRetired a.key) ∷ [])
