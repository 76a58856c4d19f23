-- What the services of a server did for its connections, and where it stands in their histories.
use Rattle.std.specs.Prelude.{◌≡◌, ℕ, Bool, Option, Some, None, List, [], ◌∷◌, is_some, ⊤}
use Rattle.std.specs.List.{flat_map}
use Rattle.rpc_outside.specs.declared.address.Address.{Address}
use Rattle.rpc_outside.specs.Links.{Shown}
use Rattle.rpc_outside.specs.Doors.{DoorShown}
use Rattle.hub_story.specs.declared.item.Item.{Item}
use Rattle.hub_story.specs.Histories.{home_of, past_in}
use Rattle.group_hub.specs.declared.pass.Pass.{Pass}
use Rattle.group_hub.specs.Shards.{shard_of}
use Rattle.ndr_table.specs.Tables.{TableForm}
use Rattle.server_calls.specs.Chains.{Deed}
use Rattle.server_ends.specs.Owning.{Grown}
use Rattle.server_steps.specs.Deeds.{Tells}
use Rattle.server_rounds.specs.declared.settled.Settled.{Settled}
use Rattle.desk_told.specs.Deeds.{DeedForm}
use Rattle.desk_told.specs.Passes.{history}
use Rattle.desk_locks.specs.declared.pass.SharedPass.{SharedPass}
use Rattle.desk_locks.specs.Calls.{tables_of}
use Rattle.desk_locks.specs.Tellings.{StandAt, Ascends, EachService, EachHasAll}
use Rattle.server_command.specs.Desks.{ServesDesks}

-- ---- the deeds of one connection

-- What the hub's pass entered of the group since it was the first tells of these deeds.
pub record TellsOf (tables : List TableForm) (boot g : ℕ) (began now : Pass) (deeds : List Deed) : Type 0 where
  pub items : List Item
  pub grown : Grown (shard_of g) began now items
  pub tells : Tells (home_of boot g) tables (past_in g items) deeds

-- Nothing was done for one that joined no group.
abbrev pub TellsIn : List TableForm → ℕ → Option (ℕ × ℕ) → Pass → Pass → List Deed → Type 0
TellsIn tables boot (Some (g, c)) began now deeds = TellsOf tables boot g began now deeds
TellsIn tables boot None began now deeds = deeds ≡ []

-- ---- where they stand

module _ {S : Type 0} where
  -- these deeds stand in the history, in this order
  pub record StandInOrder (whole deeds : List (DeedForm S)) : Type 0 where
    pub places : List ℕ
    pub stand : StandAt whole places deeds
    pub ascends : Ascends 0 places

-- those of each service stand so in what the last pass has seen of its history
abbrev pub EachInOrder : Bool → SharedPass → List Deed → SharedPass → Type 0
EachInOrder = EachService (λ S first deeds last. StandInOrder (history last) deeds)

module _ {K : Type 0} (tables : List TableForm) (boot : ℕ) (echoes : Bool) (first last : SharedPass) where
  -- of these deeds its entries tell, and they stand in this order
  pub record IsDone (c : Settled K) (deeds : List Deed) : Type 0 where
    pub tells : TellsIn tables boot c.joined c.began.value c.pass.value deeds
    pub in_order : EachInOrder echoes first deeds last

  abbrev pub AreDone : List (Settled K) → List (List Deed) → Type 0
  AreDone [] [] = ⊤
  AreDone (c ∷ cs) (deeds ∷ more) = IsDone c deeds × AreDone cs more
  AreDone _ _ = ⊥

  -- Each connection had such deeds. Those of all of them stand in the histories once each.
  pub record DeedsStandOnce (finished : List (Settled K)) : Type 0 where
    pub deeds : List (List Deed)
    pub done : AreDone finished deeds
    pub once : EachHasAll echoes first (flat_map (λ ds. ds) deeds) last

-- ---- the law

-- of whatever server that served connections with the built-in services
abbrev pub EachDeedStandsOnce : {K : Type 0} → (K → Shown) → Type 0
EachDeedStandsOnce {K} shows =
    (echo : Option TableForm) (boot : ℕ) (a : DoorShown K) (at : Address) (most : ℕ) (b : DoorShown K) (out log : List ℕ) (status : ℕ) (s : ServesDesks shows echo boot a at most b out log status)
    → DeedsStandOnce (tables_of s.desks) s.had.serves.hub.boot (is_some s.desks.echo) s.first s.had.last s.had.serves.round.finished.items
