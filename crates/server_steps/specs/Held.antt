-- What a connection that is served has entered, and what its group's journal says of it.
use Rattle.std.specs.Prelude.{◌≡◌, ◌≢◌, ℕ, Bool, Option, Some, List, [], ◌∷◌}
use Rattle.handle_model.specs.declared.entry.Entry.{Entry}
use Rattle.handle_model.specs.declared.entry.Entry.TheVariants.{Join, End}
use Rattle.hub_story.specs.declared.item.Item.{Item}
use Rattle.hub_story.specs.declared.item.Item.TheVariants.{Of, Listed}
use Rattle.hub_story.specs.declared.item.Mark.{Mark}
use Rattle.hub_story.specs.declared.item.Mark.TheVariants.{Retired as MarkedRetired}
use Rattle.hub_story.specs.Still.{StillHas}
use Rattle.hub_story.specs.Histories.{home_of, past_in, marks_in}
use Rattle.hub_story.specs.Passes.{HasOwn}
use Rattle.group_hub.specs.declared.pass.Pass.{Pass}
use Rattle.group_hub.specs.Shards.{shard_of}
use Rattle.group_hub.specs.Passes.{at_shard, EntersAt}
use Rattle.hub_shard.specs.declared.answer.Retired.{Retired}
use Rattle.hub_shard.specs.declared.answer.HubRest.{HubRest}
use Rattle.hub_shard.specs.declared.answer.HubRest.TheVariants.{Stays, Shut}
use Rattle.server_ends.specs.Owning.{Grown}
use Rattle.server_calls.specs.declared.running.Answered.{Answered}
use Rattle.conn_histories.specs.declared.turn.Turn.{Turn}
use Rattle.conn_histories.specs.Stories.{Server, Made}
use Rattle.server_ends.specs.Finishes.{retired_by, marks_of}

-- the journal of a group, as far as the pass has seen it
abbrev pub past_at : Pass → ℕ → List Entry
past_at q g = past_in g (at_shard q (shard_of g)).log

-- The connection c of the group g has come to these turns since its pass was p: what it entered, in this group alone, is what they
-- make, `retired` tells whether it ended the group, and it entered these marks in directories, the newest first.
pub record HeldMarked (server : Server) (boot : ℕ) (p q : Pass) (g c : ℕ) (retired : Option Retired) (marks : List Mark) (gone : Bool) (turns : List Turn) : Type 0 where
  pub items : List Item
  pub grown : Grown (shard_of g) p q items
  pub mine : List Entry
  pub own : past_in g items ≡ mine
  pub others : (h : ℕ) → h ≢ g → past_in h items ≡ []
  pub joined : HasOwn (at_shard q (shard_of g)) (Of g (Join c))
  pub made : Made server (home_of boot g) c (past_at q g) gone turns mine
  pub retired_is : retired ≡ retired_by g mine
  pub marks_are : marks_in items ≡ marks

-- and the marks are those of its turns, and of the group as retired where it ended it
abbrev pub Held : Server → ℕ → Pass → Pass → ℕ → ℕ → Option Retired → Bool → List Turn → Type 0
Held server boot p q g c retired gone turns = HeldMarked server boot p q g c retired (marks_of retired turns) gone turns

-- the pass entered the call's End, which says what was answered
abbrev pub HasItsEnd : Pass → ℕ → ℕ → Answered → Type 0
HasItsEnd q g k a = HasOwn (at_shard q (shard_of g)) (Of g (End k a.results a.said))

-- that a group was retired, behind an entry with which it ended or not
abbrev pub retired_after : HubRest → Option Retired → Option Retired
retired_after Stays before = before
retired_after (Shut items key) before = Some (record { group = key })

-- nothing comes then where the group goes on, and its Retired where it has ended
abbrev pub Settles : ℕ → HubRest → Pass → Pass → Type 0
Settles boot Stays p q = q ≡ p
Settles boot (Shut items key) p q =
    EntersAt boot key p q (λ log more. more ≡ Listed (MarkedRetired key) ∷ [])
    × StillHas (at_shard p (shard_of key)) (at_shard q (shard_of key)) (Listed (MarkedRetired key) ∷ [])
