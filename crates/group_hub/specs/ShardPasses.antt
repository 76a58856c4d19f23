-- What contracts see of a pass at one shard.
use Rattle.std.specs.Prelude.{◌≡◌, ℕ, false, List, [], Option, Some, None, length, ◌++◌}
use Rattle.atomic_table.specs.Seated.{TableId}
use Rattle.atomic_table.specs.declared.shared.Seat.{Seat}
use Rattle.turn_lock.specs.declared.views.View.{View}
use Rattle.turn_lock.specs.Histories.{StartsWith, Within, AtMostOnce}
use Rattle.turn_lock.specs.Passes.{front, own}
use Rattle.hub_story.specs.declared.item.Item.{Item}
use Rattle.hub_story.specs.Histories.{IsStory}
use Rattle.hub_story.specs.Passes.{Seen, HasShut}
use Rattle.hub_story.specs.Calls.{Enters}
use Rattle.hub_story.specs.Still.{StillHas}
use Rattle.hub_shard.specs.declared.answer.HubRest.{HubRest}
use Rattle.hub_shard.specs.declared.answer.HubRest.TheVariants.{Stays, Shut}
use Rattle.hub_shard.specs.Shards.{ShardView}

abbrev pub ShardSeat : Type 0
ShardSeat = Seat (Option ShardView) (View Item)

abbrev pub seen_by : ShardSeat → Seen
seen_by s = record { lock = s.table_id; log = front s; own = own s }

abbrev pub no_lock : TableId
no_lock = record { words = 0; slots = 0; views_name = 0; atom = 0; block = 0; offset = 0; slot_names = [] }

-- of no shard
abbrev pub unseen : Seen
unseen = record { lock = no_lock; log = []; own = [] }

abbrev pub seen : Option ShardSeat → Seen
seen (Some s) = seen_by s
seen None = unseen

-- it doesn't have the turn
abbrev pub IsHome : Option ShardSeat → Type 0
IsHome (Some s) = (s.me.1 ≡ []) × (s.me.0.holds ≡ false)
IsHome None = Unit {0}

-- A pass of that lock, which is of the shard s of a server with that boot word. What it has seen is a history of the shard, in which
-- each journal is legal and settled, and each of its own places is in it, once.
pub record IsOf (lock : TableId) (boot s : ℕ) (v : Seen) : Type 0 where
  pub lock_is : v.lock ≡ lock
  pub story : IsStory boot s v.log
  pub within : Within v.own (length v.log)
  pub once : AtMostOnce v.own

-- The pass v took in the pass o. It has then seen what both had seen, and has the entries of both. Where o had none, that is as if v had
-- entered nothing behind what others entered, and it still has what it had to call with.
pub record Merges (boot s : ℕ) (v o w : Seen) : Type 0 where
  pub between : List Item
  pub lock : w.lock ≡ v.lock
  pub log : w.log ≡ v.log ++ between
  pub other : StartsWith w.log o.log
  pub own : w.own ≡ v.own ++ o.own
  pub within : Within w.own (length w.log)
  pub once : AtMostOnce w.own
  pub story : IsStory boot s w.log
  pub enters : o.own ≡ [] → Enters boot s v w between []
  pub still : o.own ≡ [] → StillHas v w []

-- where the group has ended, the pass entered its Shut, and not its Retired
abbrev pub HasItsShut : Seen → HubRest → Type 0
HasItsShut w Stays = Unit {0}
HasItsShut w (Shut items key) = HasShut w key
