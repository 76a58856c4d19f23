-- What a connection that looks for a group is answered.
use Rattle.std.specs.Prelude.{ℕ, Result, IfOk, List}
use Rattle.hub_story.specs.declared.item.Item.{Item}
use Rattle.hub_story.specs.Histories.{journal_in}
use Rattle.hub_story.specs.Calls.{IsNewConn}
use Rattle.hub_shard.specs.declared.answer.FindRefusal.{FindRefusal}
use Rattle.hub_shard.specs.Finds.{gives_find}

-- It joins the group of an id at the shard s, or why it doesn't. Nothing stood of a connection of its number before.
abbrev pub FindsGroup : ℕ → ℕ → ℕ → Result ℕ FindRefusal → List Item → List Item → Type 0
FindsGroup boot s id r log more = gives_find (record { id = id }) boot s log r more × IfOk r (λ conn. IsNewConn conn (journal_in boot id log))
