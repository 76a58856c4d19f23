-- The shards of a hub.
use Rattle.std.specs.Prelude.{◌≡◌, ℕ, ◌-◌, ◌%◌, ◌<◌, List, length, slice_index_or}
pub use Rattle.group_hub.specs.declared.lock.ShardLock.{ShardLock}

-- the shard of an id
abbrev pub shard_of : ℕ → ℕ
shard_of g = (g - 1) % 16

-- sixteen shards of one server, by their numbers
pub record AreShards (boot : ℕ) (locks : List ShardLock) : Type 0 where
  pub count : length locks ≡ 16
  pub whose : (s : ℕ) (l : ShardLock) → s < 16 → l ≡ slice_index_or locks s l → (l.boot ≡ boot) × (l.number ≡ s)
