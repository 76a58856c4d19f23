-- What a round of connections comes to.
use Rattle.std.specs.Prelude.{◌≡◌, ℕ, ◌+◌, ◌<◌, Bool, List, ◌++◌, length, map, ⊤}
use Rattle.std.specs.Option.{option_map}
use Rattle.std.specs.List.{AllByRecursion}
use Rattle.rpc_base.specs.Causes.{Rose}
use Rattle.rpc_outside.specs.Links.{Shown, IsNothing}
use Rattle.rpc_outside.specs.Doors.{DoorShown, DoorCounts}
use Rattle.ndr_table.specs.Tables.{TableForm}
use Rattle.manager_api.specs.Answers.{Ans}
use Rattle.manager_api.specs.Calls.{Call}
use Rattle.group_hub.specs.declared.hub.Hub.{Hub}
use Rattle.group_hub.specs.declared.pass.Pass.{Pass}
use Rattle.server_rounds.specs.declared.round.Round.{Round}
use Rattle.server_rounds.specs.declared.round.Stop.{Stop}
use Rattle.server_rounds.specs.declared.round.Stop.TheVariants.{Done, DoorClosed, DoorFault, Memory}
use Rattle.server_rounds.specs.declared.settled.Settled.{Settled}
use Rattle.server_rounds.specs.Passes.{TakesIn}
use Rattle.server_rounds.specs.Served.{IsSettled}

module _ {K : Type 0} where
  -- the links as the door handed them out, and the passes at the end
  abbrev pub came : List (Settled K) → List K
  came = map (λ c. c.came.value)

  abbrev pub passes : List (Settled K) → List Pass
  passes = map (λ c. c.pass.value)

  -- these links, the next ones, were handed out
  pub record HandsOutAll (a b : DoorShown K) (links : List K) : Type 0 where
    pub counts : DoorCounts a b
    pub listens : b.listens ≡ a.listens
    pub to_come : a.to_come ≡ option_map (λ more. links ++ more) b.to_come
    pub back : b.back ≡ a.back
    pub out : b.out ≡ option_map (λ n. n + length links) a.out

  -- Why there are so many links: as many as there were to be; or fewer, since the door closed, with none to come, or failed; or
  -- memory ran out.
  abbrev pub Stops : DoorShown K → DoorShown K → ℕ → ℕ → Stop → Type 0
  Stops a b most count Done = count ≡ most
  Stops a b most count DoorClosed = (count < most) × Rose a.closings b.closings × IsNothing b.to_come
  Stops a b most count DoorFault = (count < most) × Rose a.faults b.faults
  Stops a b most count Memory = count < most

module _ {K : Type 0} (shows : K → Shown) (may : Call → Bool → Ans → Type 0) (tables : List TableForm) (h : Hub) where
  -- The door was a and is b, and handed out up to so many links. The connection of each is settled. The round's pass, which was p, has taken in
  -- the passes of all.
  pub record IsRound (p : Pass) (a : DoorShown K) (most : ℕ) (r : Round K) (b : DoorShown K) : Type 0 where
    pub door : HandsOutAll a b (came r.finished.items)
    pub stop : Stops a b most (length r.finished.items) r.stop
    pub settled : AllByRecursion (IsSettled shows may tables h p) r.finished.items
    pub takes : TakesIn p (passes r.finished.items) r.pass
