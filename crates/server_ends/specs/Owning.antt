-- What a connection's pass came to have since it was another.
use Rattle.std.specs.Prelude.{◌≡◌, ◌≢◌, ℕ, ◌<◌, List, ◌++◌, map}
use mathlib.Core.Option.{some}
use lib.ListN.{get_elem?}
use Rattle.turn_lock.specs.Histories.{StartsWith}
use Rattle.hub_story.specs.declared.item.Item.{Item}
use Rattle.hub_story.specs.Passes.{Seen}
use Rattle.group_hub.specs.declared.pass.Pass.{Pass}
use Rattle.group_hub.specs.Passes.{at_shard}

-- these items, the oldest first, stand at the own places that came since
abbrev pub Owns : Seen → Seen → List Item → Type 0
Owns v w items = (ps : List ℕ) × (w.own ≡ v.own ++ ps) × (map (λ p. get_elem? w.log p) ps ≡ map some items)

-- What was seen of each shard begins with what had been seen. These items are all that the pass entered since, at the shard s.
pub record Grown (s : ℕ) (p q : Pass) (items : List Item) : Type 0 where
  pub fronts : (t : ℕ) → t < 16 → StartsWith (at_shard q t).log (at_shard p t).log
  pub owns : Owns (at_shard p s) (at_shard q s) items
  pub others : (t : ℕ) → t < 16 → t ≢ s → (at_shard q t).own ≡ (at_shard p t).own
