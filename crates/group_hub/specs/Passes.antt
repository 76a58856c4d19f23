-- What contracts see of a pass of a hub, and where a call changes it.
use Rattle.std.specs.Prelude.{◌≡◌, ◌≢◌, ℕ, ◌<◌, List, [], ◌++◌, length, slice_index_or}
use Rattle.handle_model.specs.History.{History}
use Rattle.hub_story.specs.declared.item.Item.{Item}
use Rattle.hub_story.specs.Passes.{Seen, HasShut}
use Rattle.hub_shard.specs.declared.answer.HubRest.{HubRest}
use Rattle.hub_shard.specs.declared.answer.HubRest.TheVariants.{Stays, Shut}
use Rattle.hub_story.specs.Calls.{Enters, Calls}
use Rattle.group_hub.specs.declared.lock.ShardLock.{ShardLock}
pub use Rattle.group_hub.specs.ShardPasses.{unseen, IsOf}
use Rattle.group_hub.specs.declared.hub.Hub.{Hub}
use Rattle.group_hub.specs.declared.pass.Pass.{Pass}
use Rattle.group_hub.specs.Shards.{shard_of}

-- what it has seen of the shard s, and its own places there
abbrev pub at_shard : Pass → ℕ → Seen
at_shard p s = slice_index_or p.shards s unseen

-- The pass is of the hub: at each shard it is of the shard's lock, what it has seen is a history of the shard, in which each journal is
-- legal and settled, and each of its own places is in it, once.
pub record IsPassOf (h : Hub) (p : Pass) : Type 0 where
  pub count : length p.shards ≡ 16
  pub each : (s : ℕ) (l : ShardLock) → s < 16 → l ≡ slice_index_or h.shards.items s l → IsOf l.lock.table.shared.table_id h.boot s (at_shard p s)

-- At the shard s the pass changed in that way, and at no other did it change.
pub record At (s : ℕ) (p q : Pass) (Changes : Seen → Seen → Type 0) : Type 0 where
  pub here : Changes (at_shard p s) (at_shard q s)
  pub others : (t : ℕ) → t ≢ s → at_shard q t ≡ at_shard p t

-- A call on the group g enters entries of it at the shard of its id, and answers by the journal before and after them.
abbrev pub CallsAt : ℕ → ℕ → Pass → Pass → (History → History → Type 0) → Type 0
CallsAt boot g p q Answers = At (shard_of g) p q (λ v w. Calls boot (shard_of g) v w g Answers)

-- It enters these items, of which, and of the history before them, that holds.
abbrev pub EntersAt : ℕ → ℕ → Pass → Pass → (List Item → List Item → Type 0) → Type 0
EntersAt boot g p q Holds =
    At (shard_of g) p q (λ v w. (between : List Item) × (more : List Item) × Enters boot (shard_of g) v w between more × Holds (v.log ++ between) more)

-- It enters nothing, and that holds of the history.
abbrev pub LooksAt : ℕ → ℕ → Pass → Pass → (List Item → Type 0) → Type 0
LooksAt boot g p q Holds = At (shard_of g) p q (λ v w. (between : List Item) × Enters boot (shard_of g) v w between [] × Holds (v.log ++ between))

-- where the group has ended, the pass entered its Shut, and not its Retired
abbrev pub HasItsShut : Pass → HubRest → Type 0
HasItsShut p Stays = Unit {0}
HasItsShut p (Shut items key) = HasShut (at_shard p (shard_of key)) key
