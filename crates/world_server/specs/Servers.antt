-- A server of some interfaces with one group: the group's journal as the group keeps it, and whole.
use Rattle.std.specs.Prelude.{◌≡◌, ◌≢◌, ℕ, ◌+◌, ◌≤◌, Bool, true, false, None, Some, Option, Ok, List, ◌∷◌, length, reverse, ⊤}
use Rattle.std.specs.List.{AllByRecursion}
use Rattle.handle_model.specs.declared.entry.Home.{Home}
use Rattle.handle_model.specs.declared.entry.Asked.{Asked}
use Rattle.handle_model.specs.declared.entry.Entry.{Entry}
use Rattle.handle_model.specs.declared.entry.Entry.TheVariants.{Join, Accept, Shut}
use Rattle.handle_model.specs.Bases.{empty_base}
use Rattle.handle_model.specs.History.{History, IsSound, since}
use Rattle.handle_model.specs.Journal.{join_count}
use Rattle.handle_model.specs.Limits.{join_limit, accept_limit}
use Rattle.group_core.specs.declared.answer.Rest.{Rest}
use Rattle.group_core.specs.declared.answer.Rest.TheVariants as rest
use Rattle.group_core.specs.declared.answer.Cancelled.{Cancelled}
use Rattle.group_core.specs.declared.answer.Orphaned.{Orphaned}
use Rattle.group_core.specs.Calls.{Accepts}
use Rattle.group_core.specs.Calls as calls
use Rattle.hub_story.specs.Folded.{kept_since}
use Rattle.ndr_table.specs.Tables.{TableForm}
use Rattle.manager_api.specs.Served.{tables_in}
use Rattle.conn_histories.specs.Requests.{HasSlots}
use Rattle.world_server.specs.declared.server.Server.{Server}

-- the interfaces, the journal as the group keeps it, and all its entries, the newest first
pub record ServerView : Type 0 where
  pub tables : List TableForm
  pub group : History
  pub past : List Entry

abbrev pub seen : Server → ServerView
seen s = record { tables = tables_in s.served; group = s.group; past = reverse s.entries.items }

-- the server's boot word, and the id of its group
abbrev pub home : Home
home = record { boot = 1; group = 1 }

-- the whole journal
abbrev pub whole : List Entry → History
whole past = since home empty_base past

-- what was asked is a request of the interfaces, with its slots
abbrev pub IsServed : List TableForm → Entry → Type 0
IsServed tables (Accept k a) = HasSlots tables a.iface a.op a.order a.stub a.slots × (length a.slots ≤ 4)
IsServed tables _ = ⊤

-- The group keeps the journal of these entries. It is legal, no Shut is due, and what was accepted is of the interfaces.
pub record IsWhole (s : ServerView) : Type 0 where
  pub kept : s.group ≡ kept_since home s.past
  pub sound : IsSound (whole s.past)
  pub served : AllByRecursion (IsServed s.tables) s.past

-- The journal goes on so, and is kept.
pub record Goes (s : ServerView) (Says : List Entry → List Entry → Type 0) (t : ServerView) : Type 0 where
  pub tables : t.tables ≡ s.tables
  pub is_whole : IsWhole t
  pub says : Says s.past t.past

-- the same of what the whole journals say
abbrev pub Whole : (History → History → Type 0) → List Entry → List Entry → Type 0
Whole Says past new = Says (whole past) (whole new)

-- a connection joins, with the next number; or a limit is reached
abbrev pub Joins : Option ℕ → List Entry → List Entry → Type 0
Joins (Some c) past new = (join_limit (whole past) ≡ None) × (c ≡ join_count (whole past) + 1) × (new ≡ Join c ∷ past)
Joins None past new = (join_limit (whole past) ≢ None) × (new ≡ past)

-- a call is accepted, with the next number; or a limit is reached
abbrev pub Takes : Asked → Option ℕ → List Entry → List Entry → Type 0
Takes a (Some k) past new = Accepts (whole past) a (Ok k) (whole new)
Takes a None past new = (accept_limit (whole past) a.slots ≢ None) × (new ≡ past)

-- an entry, and the Shut behind it where the group has ended
abbrev pub behind : Rest → Entry → List Entry → List Entry
behind rest.Stays e past = e ∷ past
behind (rest.Shut items) e past = Shut items ∷ e ∷ past

abbrev pub is_end : Rest → Bool
is_end rest.Stays = false
is_end (rest.Shut items) = true

-- a call is cancelled or orphaned, whatever has become of it
abbrev pub Cancels : ServerView → ℕ → ServerView → Type 0
Cancels s k t = (answer : Cancelled) × Goes s (Whole (λ i j. calls.Cancels i k answer j)) t

abbrev pub Orphans : ServerView → ℕ → ServerView → Type 0
Orphans s k t = (answer : Orphaned) × Goes s (Whole (λ i j. calls.Orphans i k answer j)) t
