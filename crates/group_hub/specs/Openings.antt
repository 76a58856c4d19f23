-- What is answered where a group is opened, and what that changes.
use Rattle.std.specs.Prelude.{◌≡◌, ◌≢◌, ◌⊎◌, ℕ, ◌+◌, ◌<◌, ◌≤◌, Bool, true, false, Result, Ok, Err, IfOk, List, [], ◌++◌}
use Rattle.hub_story.specs.declared.item.Item.{Item}
use Rattle.hub_story.specs.Directories.{is_full, is_used_up}
use Rattle.hub_story.specs.Histories.{marks_in, journal_in}
use Rattle.hub_story.specs.Passes.{Seen}
use Rattle.hub_story.specs.Calls.{IsNewConn, Enters}
use Rattle.hub_shard.specs.declared.answer.OpenRefusal.{OpenRefusal}
use Rattle.hub_shard.specs.declared.answer.OpenRefusal.TheVariants.{GroupsFull, Ids, Memory}
use Rattle.hub_shard.specs.Openings.{gives_open}
use Rattle.group_hub.specs.declared.pass.Pass.{Pass}
use Rattle.group_hub.specs.declared.opening.Looked.{Looked}
use Rattle.group_hub.specs.declared.opening.Looked.TheVariants.{Opened, NoRoom, NoMemory}
use Rattle.group_hub.specs.Shards.{shard_of}
use Rattle.group_hub.specs.Passes.{at_shard}

-- The shard s was looked at and had no room: 64 groups were open there, where `full` says so, and else no id was left. Nothing was entered.
pub record HadNoRoom (boot s : ℕ) (full : Bool) (v w : Seen) : Type 0 where
  pub between : List Item
  pub enters : Enters boot s v w between []
  pub full_is : is_full (marks_in (v.log ++ between)) ≡ full
  pub used_up : full ≡ false → is_used_up s (marks_in (v.log ++ between)) ≡ true

-- It was looked at and had no room, or it wasn't looked at.
abbrev pub PassedBy : ℕ → ℕ → Seen → Seen → Type 0
PassedBy boot s v w = ((full : Bool) × HadNoRoom boot s full v w) ⊎ (w ≡ v)

-- Nothing was entered there.
abbrev pub Quiet : ℕ → ℕ → Seen → Seen → Type 0
Quiet boot s v w = ((between : List Item) × Enters boot s v w between []) ⊎ (w ≡ v)

-- The shard s had room, and the group of this id was opened there, with its first Join. Nothing stood of that connection before.
abbrev pub OpensThere : ℕ → ℕ → ℕ → Seen → Seen → Type 0
OpensThere boot s id v w =
    (between : List Item) × (more : List Item) × Enters boot s v w between more
    × (gives_open (record {}) boot s (v.log ++ between) (Ok id) more × IsNewConn 1 (journal_in boot id (v.log ++ between)))

-- One look at the shard s had that result.
abbrev pub Tries : ℕ → ℕ → Result ℕ OpenRefusal → Seen → Seen → Type 0
Tries boot s r v w =
    (between : List Item) × (more : List Item) × Enters boot s v w between more
    × (gives_open (record {}) boot s (v.log ++ between) r more × IfOk r (λ id. IsNewConn 1 (journal_in boot id (v.log ++ between))))

-- The group of an id is opened at the id's shard, where the others that were looked at had no room; or no shard had room, and one had 64
-- open groups, or none had.
abbrev pub Opens : ℕ → Pass → Result (ℕ × ℕ) OpenRefusal → Pass → Type 0
Opens boot p (Ok (id, c)) q =
    (c ≡ 1) × OpensThere boot (shard_of id) id (at_shard p (shard_of id)) (at_shard q (shard_of id))
    × ((t : ℕ) → t < 16 → t ≢ shard_of id → PassedBy boot t (at_shard p t) (at_shard q t))
Opens boot p (Err GroupsFull) q =
    ((t : ℕ) → t < 16 → (full : Bool) × HadNoRoom boot t full (at_shard p t) (at_shard q t))
    × ((t : ℕ) × (t < 16) × HadNoRoom boot t true (at_shard p t) (at_shard q t))
Opens boot p (Err Ids) q = (t : ℕ) → t < 16 → HadNoRoom boot t false (at_shard p t) (at_shard q t)
Opens boot p (Err Memory) q = (t : ℕ) → t < 16 → Quiet boot t (at_shard p t) (at_shard q t)

-- AMONG SOME SHARDS

-- none of those from a on and below b had room; `full` says whether one of them had 64 open groups
pub record NoneHadRoom (boot a b : ℕ) (p : Pass) (full : Bool) (q : Pass) : Type 0 where
  pub each : (t : ℕ) → a ≤ t → t < b → (f : Bool) × HadNoRoom boot t f (at_shard p t) (at_shard q t)
  pub used_up : full ≡ false → (t : ℕ) → a ≤ t → t < b → HadNoRoom boot t false (at_shard p t) (at_shard q t)
  pub one_full : full ≡ true → (t : ℕ) × (a ≤ t) × (t < b) × HadNoRoom boot t true (at_shard p t) (at_shard q t)
  pub below : (t : ℕ) → t < a → at_shard q t ≡ at_shard p t
  pub above : (t : ℕ) → b ≤ t → at_shard q t ≡ at_shard p t

-- one of them had room, and those that were looked at before had none
pub record OneHadRoom (boot a b : ℕ) (p : Pass) (id : ℕ) (q : Pass) : Type 0 where
  pub low : a ≤ shard_of id
  pub high : shard_of id < b
  pub opens : OpensThere boot (shard_of id) id (at_shard p (shard_of id)) (at_shard q (shard_of id))
  pub others : (t : ℕ) → t < 16 → t ≢ shard_of id → PassedBy boot t (at_shard p t) (at_shard q t)
  pub below : (t : ℕ) → t < a → at_shard q t ≡ at_shard p t
  pub above : (t : ℕ) → b ≤ t → at_shard q t ≡ at_shard p t

-- nothing was entered
pub record NoneEntered (boot a b : ℕ) (p q : Pass) : Type 0 where
  pub quiet : (t : ℕ) → t < 16 → Quiet boot t (at_shard p t) (at_shard q t)
  pub below : (t : ℕ) → t < a → at_shard q t ≡ at_shard p t
  pub above : (t : ℕ) → b ≤ t → at_shard q t ≡ at_shard p t

abbrev pub LooksAmong : ℕ → ℕ → ℕ → Pass → Looked → Pass → Type 0
LooksAmong boot a b p (Opened id) q = OneHadRoom boot a b p id q
LooksAmong boot a b p (NoRoom full) q = NoneHadRoom boot a b p full q
LooksAmong boot a b p NoMemory q = NoneEntered boot a b p q

-- what has come of looking, where one look more had that result and `full` says whether a shard before it had 64 open groups
abbrev pub looked_of : Result ℕ OpenRefusal → Bool → Looked
looked_of (Ok id) full = Opened id
looked_of (Err GroupsFull) full = NoRoom true
looked_of (Err Ids) full = NoRoom full
looked_of (Err Memory) full = NoMemory

-- the shard n was the last of those from a on and below b that was looked at
abbrev pub StandsSo : ℕ → ℕ → ℕ → ℕ → Pass → Looked → Pass → Type 0
StandsSo boot a n b p (Opened id) q = OneHadRoom boot a b p id q
StandsSo boot a n b p (NoRoom full) q = NoneHadRoom boot a (n + 1) p full q
StandsSo boot a n b p NoMemory q = NoneEntered boot a b p q
