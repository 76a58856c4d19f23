-- Which call a worker asks for.
use Rattle.std.specs.Prelude.{ℕ, Bool, List, map}
use Rattle.atomic_table.specs.Seated.{TableId}
use Rattle.group_hub.specs.declared.lock.ShardLock.{ShardLock}
use Rattle.group_hub.specs.declared.hub.Hub.{Hub}

-- a call of a group, at a hub of that boot word and these locks
pub record Spot : Type 0 where
  pub group : ℕ
  pub call : ℕ
  pub boot : ℕ
  pub locks : List TableId

-- the locks of the hub's shards, in order
abbrev pub locks_of : Hub → List TableId
locks_of h = map (λ (l : ShardLock). l.lock.table.shared.table_id) h.shards.items

abbrev pub place_at : Hub → ℕ → ℕ → Spot
place_at h g k = record { group = g; call = k; boot = h.boot; locks = locks_of h }

-- whether a cancel was told of, and for which call
pub record Asking : Type 0 where
  pub told : Bool
  pub place : Spot
