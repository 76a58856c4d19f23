-- A shard's lock, and the passes that are of it.
use Rattle.hub_story.specs.Passes.{Seen}
use Rattle.group_hub.specs.declared.lock.ShardLock.{ShardLock}
use Rattle.group_hub.specs.ShardPasses.{IsOf}

abbrev pub IsPassOf : ShardLock → Seen → Type 0
IsPassOf l v = IsOf l.lock.table.shared.table_id l.boot l.number v
