-- Groups at the end of a round.
use Rattle.std.specs.Prelude.{◌≡◌, ◌⊎◌, ℕ, Bool, true, Some, List, [], ◌∷◌}
use Rattle.std.specs.List.{list_any}
use Rattle.turn_lock.specs.Histories.{StartsWith}
use Rattle.rpc_outside.specs.Links.{Shown}
use Rattle.rpc_outside.specs.Doors.{DoorShown}
use Rattle.handle_model.specs.declared.entry.Asked.{Asked}
use Rattle.handle_model.specs.History.{History}
use Rattle.handle_model.specs.Journal.{joins, is_shut, is_open, runs, asked}
use Rattle.ndr_table.specs.Tables.{TableForm}
use Rattle.manager_api.specs.Answers.{Ans}
use Rattle.manager_api.specs.Calls.{Call}
use Rattle.hub_story.specs.declared.item.Item.{Item}
use Rattle.hub_story.specs.Histories.{past_in, journal_in, IsStory}
use Rattle.group_hub.specs.declared.hub.Hub.{Hub}
use Rattle.group_hub.specs.declared.pass.Pass.{Pass}
use Rattle.group_hub.specs.Shards.{shard_of}
use Rattle.group_hub.specs.Passes.{at_shard}
use Rattle.server_rounds.specs.declared.settled.Settled.{Settled}
use Rattle.server_rounds.specs.declared.round.Round.{Round}
use Rattle.server_rounds.specs.Rounds.{IsRound}

-- the connection c of the group is one of these
abbrev pub HasConn : {K : Type 0} → ℕ → ℕ → List (Settled K) → Type 0
HasConn g c [] = ⊥
HasConn g c (x ∷ xs) = (x.joined ≡ Some (g, c)) ⊎ HasConn g c xs

-- the connection is open in the journal, or a call of it runs
abbrev pub IsThere : History → ℕ → Type 0
IsThere j d = (is_open j d ≡ true) ⊎ ((k : ℕ) × (a : Asked) × (runs j k ≡ true) × (asked j k ≡ Some a) × (a.conn ≡ d))

-- At the end of a round, and in each history that goes on from it, a group that a connection joined has ended, where each connection that
-- is still there is of the round.
abbrev pub GroupsEnd : {S K : Type 0} → (K → Shown) → (S → Call → Bool → Ans → Type 0) → (S → List TableForm) → Type 0
GroupsEnd {S} {K} shows may tables =
    (service : S) (h : Hub) (p : Pass) (a b : DoorShown K) (most : ℕ) (r : Round K) → IsRound shows (may service) (tables service) h p a most r b
    → (g c : ℕ) (log : List Item) → StartsWith log (at_shard r.pass (shard_of g)).log → IsStory h.boot (shard_of g) log
    → list_any (joins c) (past_in g log) ≡ true → ((d : ℕ) → IsThere (journal_in h.boot g log) d → HasConn g d r.finished.items)
    → list_any is_shut (past_in g log) ≡ true
