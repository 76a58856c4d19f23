-- The passes of a round: with which each of its connections begins, and what the round's pass takes in.
use Rattle.std.specs.Prelude.{◌≡◌, ℕ, ◌<◌, List, [], ◌++◌}
use Rattle.std.specs.List.{AllByRecursion, flat_map}
use Rattle.turn_lock.specs.Histories.{StartsWith}
use Rattle.group_hub.specs.declared.pass.Pass.{Pass}
use Rattle.group_hub.specs.Passes.{at_shard}

-- A pass for a connection: it has seen what the pass p had seen, and entered nothing.
pub record StartsFrom (p q : Pass) : Type 0 where
  pub fronts : (s : ℕ) → s < 16 → StartsWith (at_shard q s).log (at_shard p s).log
  pub none : (s : ℕ) → s < 16 → (at_shard q s).own ≡ []

-- The pass q has seen what p and each of these had seen. Its entries are those of p, and then theirs, in their order.
pub record TakesIn (p : Pass) (others : List Pass) (q : Pass) : Type 0 where
  pub fronts : (s : ℕ) → s < 16 → StartsWith (at_shard q s).log (at_shard p s).log
  pub theirs : (s : ℕ) → s < 16 → AllByRecursion (λ o. StartsWith (at_shard q s).log (at_shard o s).log) others
  pub own : (s : ℕ) → s < 16 → (at_shard q s).own ≡ (at_shard p s).own ++ flat_map (λ o. (at_shard o s).own) others
