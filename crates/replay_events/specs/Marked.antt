-- What comes to a call that was accepted, and what its client is then told.
use Rattle.std.specs.Prelude.{◌≡◌, ℕ, Bool, true, ◌||◌, Option, Some, None, if◌then◌else◌, ⊤}
use Rattle.ndr_table.specs.Tables.{TableForm}
use Rattle.handle_model.specs.declared.entry.Said.{Said}
use Rattle.handle_model.specs.declared.reply.Reply.{Reply}
use Rattle.handle_model.specs.declared.reply.Reply.TheVariants.{Never, Ran, Dropped}
use Rattle.handle_model.specs.Journal as journals
use Rattle.handle_model.specs.Replies.{replies, context_mismatch}
use Rattle.group_core.specs.declared.answer.Taking.{Taking}
use Rattle.group_core.specs.declared.answer.Taking.TheVariants.{Run, Denied}
use Rattle.desk_service.specs.State.{Services}
use Rattle.replay_world.specs.declared.peer.Member.{Member}
use Rattle.replay_world.specs.declared.peer.Standing.{Standing}
use Rattle.replay_world.specs.declared.peer.Standing.TheVariants.{Open}
use Rattle.replay_world.specs.Worlds.{World, journal}
use Rattle.replay_world.specs.Groups.{CancelsIn, CancelsMarked, OrphansIn}
use Rattle.replay_events.specs.declared.played.Kept.{Kept}
use Rattle.replay_groups.specs.declared.realm.Realm.{Realm}
use Rattle.replay_groups.specs.Holding.{Known}

-- the reply to the call, where it is known
abbrev pub TellsReply : World Services → Member → ℕ → Option Reply → Type 0
TellsReply v m k told = (reply : Reply) → told ≡ Some reply → replies (journal v m.group) k ≡ reply

-- the call is cancelled; or it is where its request was marked
abbrev pub CancelsAs : Member → ℕ → Option Reply → Option TableForm → World Services → World Services → Type 0
CancelsAs m k told echo w v = CancelsIn w m.group k v × TellsReply v m k told

abbrev pub MarksAs : Bool → Member → ℕ → Option Reply → Option TableForm → World Services → World Services → Type 0
MarksAs b m k told echo w v = CancelsMarked b w m.group k v × TellsReply v m k told

-- the connection is open in its group, if it is of one
abbrev pub IsHere : Realm → Option Member → Type 0
IsHere r None = ⊤
IsHere r (Some m) = Known r (λ w. journals.is_open (journal w m.group) m.number ≡ true)

-- it is orphaned, now or before
abbrev pub OrphansAs : Member → ℕ → Option Reply → Bool → Option TableForm → World Services → World Services → Type 0
OrphansAs m k told now echo w v =
    OrphansIn w m.group k v × TellsReply v m k told × (journals.is_orphaned (journal v m.group) k ≡ (now || journals.is_orphaned (journal w m.group) k))

-- what is kept of a call that is orphaned
abbrev pub with_orphan : Bool → Option Kept → Option Kept
with_orphan now None = None
with_orphan now (Some kept) = Some (record kept { orphaned = now || kept.orphaned })

-- what is kept of a call that is tried, and what its client is told
abbrev pub with_cookies : Taking → Option Kept → Option Kept
with_cookies (Run row serial) (Some kept) = Some (record kept { cookies = Some row })
with_cookies _ kept = kept

abbrev pub told_of : Taking → Option Reply
told_of (Denied slot) = Some (Never context_mismatch)
told_of _ = None

-- what the client of a call that ends is told
abbrev pub told_by : Bool → Said → Reply
told_by orphaned said = if orphaned then Dropped else Ran said

abbrev pub told_at : Standing → Bool → Said → Option Reply
told_at Open orphaned said = Some (told_by orphaned said)
told_at _ orphaned said = None
