-- What contracts see of a pass at one shard, and the conditions of calls: by own entries, and by what was seen.
use Rattle.std.specs.Prelude.{◌≡◌, ℕ, ◌<◌, Bool, true, false, ◌&&◌, ◌==◌, List, [], Option}
use Rattle.std.specs.List.{list_any}
use mathlib.Core.Option.{some}
use lib.ListN.{get_elem?}
use Rattle.atomic_table.specs.Seated.{TableId}
use Rattle.turn_lock.specs.Histories.{times}
use Rattle.handle_model.specs.declared.entry.Outcome.{Outcome}
use Rattle.handle_model.specs.declared.entry.Slot.{Slot}
use Rattle.handle_model.specs.declared.entry.Said.{Said}
use Rattle.handle_model.specs.declared.entry.DueItem.{DueItem}
use Rattle.handle_model.specs.declared.entry.Entry.{Entry}
use Rattle.handle_model.specs.declared.entry.Entry.TheVariants.{Join, Accept, Take, End, Leave, Shut}
use Rattle.handle_model.specs.Journal.{slots, suit}
use Rattle.handle_model.specs.CallLaws.{accepts}
use Rattle.hub_story.specs.declared.item.Mark.TheVariants.{Retired}
use Rattle.hub_story.specs.declared.item.Item.{Item}
use Rattle.hub_story.specs.declared.item.Item.TheVariants.{Listed, Of}
use Rattle.hub_story.specs.Histories.{past_in, journal_in, boot_in}

-- the lock, the history as far as it was seen, and the places of the own entries
pub record Seen : Type 0 where
  pub lock : TableId
  pub log : List Item
  pub own : List ℕ

-- what was seen, and nothing of its own
abbrev pub halved : Seen → Seen
halved v = record { lock = v.lock; log = v.log; own = [] }

-- the item stands at an own place
abbrev pub HasOwn : Seen → Item → Type 0
HasOwn v a = (p : ℕ) × (0 < times p v.own) × (get_elem? v.log p ≡ some a)

-- the call is accepted, of that connection
abbrev pub accepts_of : ℕ → ℕ → Entry → Bool
accepts_of c k (Accept m asked) = (m == k) && (asked.conn == c)
accepts_of c k _ = false

-- CONDITIONS

-- the pass entered the connection's Join, and not its Leave
pub record Serves (v : Seen) (g c : ℕ) : Type 0 where
  pub joined : HasOwn v (Of g (Join c))
  pub stays : HasOwn v (Of g (Leave c)) → ⊥

-- and the call's Accept was seen
pub record HasCall (v : Seen) (g c k : ℕ) : Type 0 where
  pub serves : Serves v g c
  pub accepted : list_any (accepts_of c k) (past_in g v.log) ≡ true

-- the call's Accept was seen
abbrev pub Knows : Seen → ℕ → ℕ → Type 0
Knows v g k = list_any (accepts k) (past_in g v.log) ≡ true

-- the slots of what it asked, where its Accept was seen
abbrev pub slots_seen : Seen → ℕ → ℕ → List Slot
slots_seen v g k = slots (journal_in (boot_in v.log) g v.log) k

-- the pass entered the call's Take, and not its End, and the results suit the slots of what it asked
pub record Runs (v : Seen) (g k : ℕ) (results : List Outcome) : Type 0 where
  pub cookies : List (Option ℕ)
  pub taken : HasOwn v (Of g (Take k cookies))
  pub runs : (others : List Outcome) (said : Said) → HasOwn v (Of g (End k others said)) → ⊥
  pub suits : suit (slots_seen v g k) results ≡ true

-- the pass entered the group's Shut, and not its Retired
pub record HasShut (v : Seen) (g : ℕ) : Type 0 where
  pub items : List DueItem
  pub shut : HasOwn v (Of g (Shut items))
  pub stays : HasOwn v (Listed (Retired g)) → ⊥
