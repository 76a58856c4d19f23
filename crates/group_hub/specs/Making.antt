-- How far a hub and its first pass are made.
use Rattle.std.specs.Prelude.{◌≡◌, ℕ, ◌<◌, ◌≤◌, List, [], ◌∷◌, length, slice_index_or}
use Rattle.hub_story.specs.declared.item.Item.TheVariants.{Begun}
use Rattle.hub_story.specs.Passes.{halved}
use Rattle.group_hub.specs.declared.lock.ShardLock.{ShardLock}
use Rattle.group_hub.specs.ShardPasses.{IsOf, Merges}
use Rattle.group_hub.specs.declared.hub.Hub.{Hub}
use Rattle.group_hub.specs.declared.pass.Pass.{Pass}
use Rattle.group_hub.specs.Passes.{at_shard}

-- the first n shards, and the pass there
pub record MadeBelow (boot n : ℕ) (locks : List ShardLock) (p : Pass) : Type 0 where
  pub count : length locks ≡ n
  pub shards : length p.shards ≡ 16
  pub whose : (s : ℕ) (l : ShardLock) → s < n → l ≡ slice_index_or locks s l → (l.boot ≡ boot) × (l.number ≡ s)
  pub of_it : (s : ℕ) (l : ShardLock) → s < n → l ≡ slice_index_or locks s l → IsOf l.lock.table.shared.table_id boot s (at_shard p s)
  pub empty : (s : ℕ) → s < n → ((at_shard p s).log ≡ Begun boot s ∷ []) × ((at_shard p s).own ≡ [])

-- the other pass is made at the first n shards
pub record SplitBelow (h : Hub) (n : ℕ) (p other : Pass) : Type 0 where
  pub shards : length other.shards ≡ 16
  pub of_it : (s : ℕ) (l : ShardLock) → s < n → l ≡ slice_index_or h.shards.items s l → IsOf l.lock.table.shared.table_id h.boot s (at_shard other s)
  pub half : (s : ℕ) → s < n → at_shard other s ≡ halved (at_shard p s)

-- the pass p has taken in the other at the first n shards, and is then q; of the other the rest is left
pub record JoinedBelow (boot n : ℕ) (p other q left : Pass) : Type 0 where
  pub shards : length left.shards ≡ 16
  pub merges : (s : ℕ) → s < n → Merges boot s (at_shard p s) (at_shard other s) (at_shard q s)
  pub ahead : (s : ℕ) → n ≤ s → at_shard q s ≡ at_shard p s
  pub rest : (s : ℕ) → n ≤ s → at_shard left s ≡ at_shard other s
