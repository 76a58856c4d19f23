-- What a connection of a server came to: in the journal of its group, on its link and in its pass.
use Rattle.std.specs.Prelude.{◌≡◌, ◌≢◌, ℕ, ◌<◌, Bool, true, false, if◌then◌else◌, Option, Some, None, List, [], ◌∷◌, ◌++◌}
use Rattle.std.specs.List.{list_any}
use Rattle.handle_model.specs.declared.entry.Entry.{Entry}
use Rattle.handle_model.specs.Entries.{is_shut}
use Rattle.rpc_outside.specs.Links.{Shown}
use Rattle.ndr_table.specs.Tables.{TableForm}
use Rattle.manager_api.specs.Answers.{Ans}
use Rattle.manager_api.specs.Calls.{Call}
use Rattle.conn_histories.specs.Requests.{ids_of}
use Rattle.hub_story.specs.declared.item.Mark.{Mark}
use Rattle.hub_story.specs.declared.item.Mark.TheVariants as mark
use Rattle.hub_story.specs.declared.item.Item.{Item}
use Rattle.hub_story.specs.Histories.{home_of, past_in, marks_in}
use Rattle.group_hub.specs.declared.pass.Pass.{Pass}
use Rattle.group_hub.specs.Shards.{shard_of}
use Rattle.group_hub.specs.Passes.{at_shard}
use Rattle.hub_shard.specs.declared.answer.Retired.{Retired}
use Rattle.server_ends.specs.Owning.{Grown}
use Rattle.server_ends.specs.Joins.{IsRefusedFor, opened_for}
use Rattle.conn_histories.specs.declared.turn.Turn.{Turn}
use Rattle.conn_histories.specs.declared.turn.Turn.TheVariants.{Bound, NotBound}
use Rattle.conn_histories.specs.Stories.{Server, AllDue}
use Rattle.conn_histories.specs.Stories as stories
use Rattle.server_ends.specs.declared.ended.Finished.{Finished}
use Rattle.server_ends.specs.Endings.{EndsAs}

-- a server of these interfaces, whose managers may answer so, and which may refuse binds for these reasons
abbrev pub serving : List TableForm → (Call → Bool → Ans → Type 0) → (ℕ → ℕ → Type 0) → Server
serving tables may naks = record { tables = tables; may = may; naks = naks }

-- one that refuses no bind
abbrev pub never_refused : ℕ → ℕ → Type 0
never_refused asked reason = ⊥

-- a bind was refused for the reason, by what the pass had seen before and then
abbrev pub Refuses : ℕ → Pass → Pass → ℕ → ℕ → Type 0
Refuses boot p q asked reason = (items : List Item) × Grown (shard_of asked) p q items × IsRefusedFor boot p asked reason q items

-- nothing was entered into a journal
abbrev pub EntersNone : Pass → Pass → Type 0
EntersNone p q = (s : ℕ) × (items : List Item) × Grown s p q items × ((g : ℕ) → past_in g items ≡ [])

-- no item at all was entered
abbrev pub OwnsNoMore : Pass → Pass → Type 0
OwnsNoMore p q = (s : ℕ) → s < 16 → (at_shard q s).own ≡ (at_shard p s).own

-- a bind was refused
abbrev pub refuses : Turn → Bool
refuses (NotBound asked reason octets) = true
refuses _ = false

-- the group, where the connection entered its Shut
abbrev pub retired_by : ℕ → List Entry → Option Retired
retired_by g mine = if list_any is_shut mine then Some (record { group = g }) else None

-- what binds marked in directories: a new group as opened
abbrev pub opened_by : List Turn → List Mark
opened_by [] = []
opened_by (Bound asked group octets ∷ turns) = opened_for asked group ++ opened_by turns
opened_by (t ∷ turns) = opened_by turns

-- and the one that was retired
abbrev pub retired_in : Option Retired → List Mark
retired_in (Some r) = mark.Retired r.group ∷ []
retired_in None = []

-- The marks of a connection in directories, the newest first: its group as retired, where it retired it, and as opened, where its
-- bind asked for a new one.
abbrev pub marks_of : Option Retired → List Turn → List Mark
marks_of retired turns = retired_in retired ++ opened_by turns

module _ {K : Type 0} (shows : K → Shown) (may : Call → Bool → Ans → Type 0) (tables : List TableForm) (boot : ℕ) where
  -- The connection joined the group g as c: what it entered in the group's journal and in directories, and nothing else; why, and
  -- that no call of it waits or runs and it has left; what it answered, by that journal; and whether it retired the group.
  pub record AsMember (p : Pass) (a : Shown) (g c : ℕ) (r : Finished K) : Type 0 where
    pub items : List Item
    pub grown : Grown (shard_of g) p r.pass items
    pub mine : List Entry
    pub own : past_in g items ≡ mine
    pub others : (h : ℕ) → h ≢ g → past_in h items ≡ []
    pub turns : List Turn
    pub story : stories.Finished (serving tables may never_refused) (home_of boot g) c (past_in g (at_shard r.pass (shard_of g)).log) turns mine
    pub ends : EndsAs (ids_of tables) (home_of boot g) (past_in g (at_shard r.pass (shard_of g)).log) turns a r.ending (shows r.link)
    pub retired : r.retired ≡ retired_by g mine
    pub marks : marks_in items ≡ marks_of r.retired turns

  -- The connection joined no group: it entered nothing but what the refusal of its bind marks as missed, and what it answered is
  -- answered by no journal.
  pub record Alone (p : Pass) (a : Shown) (r : Finished K) : Type 0 where
    pub enters : EntersNone p r.pass
    pub turns : List Turn
    pub unmarked : list_any refuses turns ≡ false → OwnsNoMore p r.pass
    pub due : AllDue (serving tables may (Refuses boot p r.pass)) (home_of boot 0) 0 [] turns
    pub ends : EndsAs (ids_of tables) (home_of boot 0) [] turns a r.ending (shows r.link)
    pub retired : r.retired ≡ None

  abbrev pub FinishesAs : Option (ℕ × ℕ) → Pass → Shown → Finished K → Type 0
  FinishesAs (Some (g, c)) p a r = AsMember p a g c r
  FinishesAs None p a r = Alone p a r

  -- what a connection came to, whose pass and link were so before
  abbrev pub Finishes : Pass → Shown → Finished K → Type 0
  Finishes p a r = FinishesAs r.joined p a r
