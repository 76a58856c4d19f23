-- A pass with which it is asked whether a call was cancelled.
use Rattle.std.specs.Prelude.{◌≡◌, ℕ, ◌<◌, Bool, true, []}
use Rattle.group_core.specs.Stages.{is_asked}
use Rattle.hub_story.specs.Histories.{journal_in}
use Rattle.hub_story.specs.Passes.{Knows}
use Rattle.group_hub.specs.declared.hub.Hub.{Hub}
use Rattle.group_hub.specs.declared.pass.Pass.{Pass}
use Rattle.group_hub.specs.Shards.{shard_of}
use Rattle.group_hub.specs.Passes.{IsPassOf, at_shard}

-- the pass has entered nothing
abbrev pub OwnsNone : Pass → Type 0
OwnsNone p = (s : ℕ) → s < 16 → (at_shard p s).own ≡ []

-- by what the pass has seen, the call was cancelled while it ran
abbrev pub HasAsked : ℕ → ℕ → ℕ → Pass → Type 0
HasAsked boot g k p = is_asked (journal_in boot g (at_shard p (shard_of g)).log) k ≡ true

-- With the pass it may be asked for the call k: it has seen the call accepted, and has entered nothing.
pub record MayAsk (hub : Hub) (g k : ℕ) (p : Pass) : Type 0 where
  pub pass : IsPassOf hub p
  pub none : OwnsNone p
  pub known : Knows (at_shard p (shard_of g)) g k

-- and where a cancel was told of, it was seen
pub record IsAsking (hub : Hub) (g k : ℕ) (p : Pass) (told : Bool) : Type 0 where
  pub may : MayAsk hub g k p
  pub asked : told ≡ true → HasAsked hub.boot g k p
