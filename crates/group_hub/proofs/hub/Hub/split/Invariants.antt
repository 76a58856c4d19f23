use Rattle.std.proofs.Common.{◌≡◌, ℕ}
use Rattle.group_hub.specs.Passes.{IsPassOf, at_shard}
use Rattle.group_hub.specs.Making.{SplitBelow}
use Rattle.group_hub.proofs.hub.Hub.split.Given as goal

abbrev pub invariant-loop-number : goal.invariant-loop-number
invariant-loop-number l = IsPassOf l.self l.pass × ((s : ℕ) → at_shard l.pass s ≡ at_shard l.initial.pass s) × SplitBelow l.self l.number l.initial.pass l.other
