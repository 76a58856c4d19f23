-- What is answered where a group is opened, and what that adds.
use Rattle.std.specs.Prelude.{◌≡◌, ℕ, ◌+◌, ◌<◌, ◌≤◌, ◌^◌, true, false, Result, Ok, Err, List, [], ◌∷◌, ◌++◌, length}
use Rattle.handle_model.specs.declared.entry.Home.{Home}
use Rattle.handle_model.specs.declared.entry.Entry.TheVariants.{Join}
use Rattle.handle_model.specs.Bases.{empty_base}
use Rattle.handle_model.specs.History.{History, IsSound, since}
use Rattle.group_core.specs.Conns.{Joins}
use Rattle.hub_story.specs.declared.item.Mark.TheVariants.{Opened}
use Rattle.hub_story.specs.declared.item.Item.{Item}
use Rattle.hub_story.specs.Directories.{is_opened_id, id_of, next_id, is_full, is_used_up}
use Rattle.hub_story.specs.Histories.{marks_in, past_in, home_of}
use Rattle.hub_shard.specs.declared.answer.OpenRefusal.{OpenRefusal}
use Rattle.hub_shard.specs.declared.answer.OpenRefusal.TheVariants.{GroupsFull, Ids, Memory}
use Rattle.hub_shard.specs.declared.opening.OpenNext.{OpenNext}
use Rattle.hub_shard.specs.declared.shard.Listed.{Listed}
use Rattle.hub_shard.specs.Shards.{ShardView}

-- a new group, which its first connection joined
pub record IsFirst (home : Home) (l : Listed) : Type 0 where
  pub conn : ℕ
  pub joins : Joins (since home empty_base []) (Ok conn) l.group
  pub sound : IsSound l.group
  pub flag : l.retired ≡ false

-- the next id is opened
pub record OpensAs (x : ShardView) (id : ℕ) (y : ShardView) : Type 0 where
  pub room : x.open_groups < 64
  pub id_is : id ≡ id_of x.number (length x.groups)
  pub small : id < 2 ^ 32
  pub listed : Listed
  pub first : IsFirst (home_of x.boot id) listed
  pub is : y ≡ record x { marks = Opened id ∷ x.marks; groups = x.groups ++ listed ∷ []; open_groups = x.open_groups + 1 }

abbrev pub Opens : ShardView → Result ℕ OpenRefusal → ShardView → Type 0
Opens x (Ok id) y = OpensAs x id y
Opens x (Err GroupsFull) y = (64 ≤ x.open_groups) × (y ≡ x)
Opens x (Err Ids) y = (x.open_groups < 64) × (2 ^ 32 ≤ id_of x.number (length x.groups)) × (y ≡ x)
Opens x (Err Memory) y = y ≡ x

abbrev pub asks_open : OpenNext → ℕ → List Item → Type 0
asks_open a boot log = Unit {0}

-- Opened and the first Join, of the least id that was not opened; or no group more may be open; or no id is left
abbrev pub gives_open : OpenNext → ℕ → ℕ → List Item → Result ℕ OpenRefusal → List Item → Type 0
gives_open a boot s log (Ok id) more =
    (is_full (marks_in log) ≡ false) × (is_used_up s (marks_in log) ≡ false) × (id ≡ next_id s (marks_in log)) × (is_opened_id (marks_in log) id ≡ false)
    × (length more ≡ 2) × (marks_in more ≡ Opened id ∷ []) × (past_in id more ≡ Join 1 ∷ [])
gives_open a boot s log (Err GroupsFull) more = (is_full (marks_in log) ≡ true) × (more ≡ [])
gives_open a boot s log (Err Ids) more = (is_full (marks_in log) ≡ false) × (is_used_up s (marks_in log) ≡ true) × (more ≡ [])
gives_open a boot s log (Err Memory) more = more ≡ []
