-- What a bind's group comes to.
use Rattle.std.specs.Prelude.{◌≡◌, ◌≢◌, ◌⊎◌, ℕ, ◌<◌, ◌==◌, true, false, if◌then◌else◌, None, Result, Ok, Err, List, [], ◌∷◌, ◌++◌, length}
use Rattle.std.specs.List.{list_any}
use Rattle.turn_lock.specs.Histories.{StartsWith}
use Rattle.handle_model.specs.declared.entry.Entry.{Entry}
use Rattle.handle_model.specs.declared.entry.Entry.TheVariants.{Join}
use Rattle.handle_model.specs.Journal.{is_shut}
use Rattle.handle_model.specs.Limits.{join_limit}
use Rattle.hub_story.specs.declared.item.Mark.{Mark}
use Rattle.hub_story.specs.declared.item.Mark.TheVariants.{Opened, Missed}
use Rattle.hub_story.specs.declared.item.Item.{Item}
use Rattle.hub_story.specs.declared.item.Item.TheVariants.{Listed}
use Rattle.hub_story.specs.Directories.{is_open_id, is_full, is_used_up}
use Rattle.hub_story.specs.Histories.{marks_in, past_in, journal_in, IsStory}
use Rattle.hub_story.specs.Passes.{Seen, Serves}
use Rattle.hub_story.specs.Calls.{of_conn}
use Rattle.hub_shard.specs.declared.answer.OpenRefusal.{OpenRefusal}
use Rattle.hub_shard.specs.declared.answer.OpenRefusal.TheVariants.{GroupsFull, Ids}
use Rattle.hub_shard.specs.declared.answer.OpenRefusal.TheVariants as opening
use Rattle.hub_shard.specs.declared.answer.FindRefusal.{FindRefusal}
use Rattle.hub_shard.specs.declared.answer.FindRefusal.TheVariants.{NoGroup, TooMany, Numbers, Memory}
use Rattle.group_hub.specs.declared.pass.Pass.{Pass}
use Rattle.group_hub.specs.Shards.{shard_of}
use Rattle.group_hub.specs.Passes.{at_shard}
use Rattle.server_ends.specs.declared.joining.Membership.{Membership}
use Rattle.server_ends.specs.Owning.{Grown}

-- what a bind that asks for the group of an id and is answered by g marks in a directory: g as opened, where it asks for a new one
abbrev pub opened_for : ℕ → ℕ → List Mark
opened_for asked g = if asked == 0 then Opened g ∷ [] else []

-- The connection c joined the group g at a bind that asks for that id: nothing had been entered of a connection of that number, its
-- Join is the newest entry of the group's journal, and the only entry of a journal among what the pass entered. A new group is
-- marked as opened, and nothing else is marked.
pub record JoinedAs (boot : ℕ) (p : Pass) (asked g c : ℕ) (q : Pass) : Type 0 where
  pub items : List Item
  pub grown : Grown (shard_of g) p q items
  pub own : past_in g items ≡ Join c ∷ []
  pub others : (h : ℕ) → h ≢ g → past_in h items ≡ []
  pub marks : marks_in items ≡ opened_for asked g
  pub older : List Entry
  pub past : past_in g (at_shard q (shard_of g)).log ≡ Join c ∷ older
  pub new : list_any (of_conn c) older ≡ false
  pub serves : Serves (at_shard q (shard_of g)) g c
  pub story : IsStory boot (shard_of g) (at_shard q (shard_of g)).log

-- At some moment that the pass saw since, that held of the shard's history.
pub record Was (v w : Seen) (Holds : List Item → Type 0) : Type 0 where
  pub moment : List Item
  pub later : List Item
  pub since : List Item
  pub front : w.log ≡ moment ++ later
  pub starts : moment ≡ v.log ++ since
  pub holds : Holds moment

-- no further group may be opened at the shard s
abbrev pub NoRoom : ℕ → List Item → Type 0
NoRoom s log = (is_full (marks_in log) ≡ true) ⊎ (is_used_up s (marks_in log) ≡ true)

-- The id was marked as missed, at a new own place, behind items in which its group isn't open.
pub record Misses (g : ℕ) (v w : Seen) : Type 0 where
  pub before : List Item
  pub starts : StartsWith before v.log
  pub front : w.log ≡ before ++ Listed (Missed g) ∷ []
  pub own : w.own ≡ v.own ++ length before ∷ []
  pub absent : is_open_id (marks_in before) g ≡ false

-- the id was marked as missed, where its group isn't open; or the group has ended
abbrev pub IsNoGroup : ℕ → ℕ → Pass → Pass → List Item → Type 0
IsNoGroup boot g p q items =
    ((items ≡ Listed (Missed g) ∷ []) × Misses g (at_shard p (shard_of g)) (at_shard q (shard_of g)))
    ⊎ ((items ≡ []) × (list_any is_shut (past_in g (at_shard q (shard_of g)).log) ≡ true))

-- Why a bind is refused with that reason: there is no group of the id; no further group may be opened; the group takes no
-- further connection; or memory ran out.
abbrev pub IsRefusedFor : ℕ → Pass → ℕ → ℕ → Pass → List Item → Type 0
IsRefusedFor boot p asked reason q items =
    ((reason ≡ 0) × (asked ≢ 0) × IsNoGroup boot asked p q items)
    ⊎ (((reason ≡ 2) × (items ≡ [])
    × (((asked ≡ 0) × ((s : ℕ) → s < 16 → Was (at_shard p s) (at_shard q s) (NoRoom s)))
    ⊎ ((asked ≢ 0) × Was (at_shard p (shard_of asked)) (at_shard q (shard_of asked)) (λ log. join_limit (journal_in boot asked log) ≢ None))))
    ⊎ ((reason ≡ 1) × (items ≡ [])))

-- a connection joins the group that it asks for, or a new one, as its first; or it is refused, and enters nothing but that an id is
-- missed
abbrev pub Joins : ℕ → Pass → ℕ → Result Membership ℕ → Pass → Type 0
Joins boot p asked (Ok m) q = (asked ≢ 0 → m.group ≡ asked) × (asked ≡ 0 → m.number ≡ 1) × JoinedAs boot p asked m.group m.number q
Joins boot p asked (Err reason) q = (items : List Item) × Grown (shard_of asked) p q items × IsRefusedFor boot p asked reason q items

-- the answer, by that of the hub
abbrev pub by_opening : Result (ℕ × ℕ) OpenRefusal → Result Membership ℕ
by_opening (Ok (g, c)) = Ok (record { group = g; number = c })
by_opening (Err GroupsFull) = Err 2
by_opening (Err Ids) = Err 2
by_opening (Err opening.Memory) = Err 1

abbrev pub by_finding : ℕ → Result ℕ FindRefusal → Result Membership ℕ
by_finding g (Ok c) = Ok (record { group = g; number = c })
by_finding g (Err (NoGroup why)) = Err 0
by_finding g (Err TooMany) = Err 2
by_finding g (Err Numbers) = Err 2
by_finding g (Err Memory) = Err 1
