-- A round in the middle.
use Rattle.std.specs.Prelude.{◌≡◌, ℕ, ◌+◌, ◌<◌, ◌≤◌, Bool, Option, Some, None, List, [], ◌∷◌, ◌++◌, map, vec_len, vec_capacity}
use Rattle.std.specs.List.{AllByRecursion}
use Rattle.std.specs.VecDeque.{deque_len, deque_capacity}
use Rattle.rpc_base.specs.Causes.{Rose}
use Rattle.rpc_outside.specs.Links.{Shown, IsNew, IsNothing}
use Rattle.rpc_outside.specs.Doors.{DoorShown, DoorSame, HandsOut}
use Rattle.ndr_table.specs.Tables.{TableForm}
use Rattle.manager_api.specs.Answers.{Ans}
use Rattle.manager_api.specs.Calls.{Call}
use Rattle.group_hub.specs.declared.hub.Hub.{Hub}
use Rattle.group_hub.specs.declared.pass.Pass.{Pass}
use Rattle.group_hub.specs.Passes.{IsPassOf}
use Rattle.server_rounds.specs.declared.round.Stop.{Stop}
use Rattle.server_rounds.specs.declared.round.Stop.TheVariants.{Done, DoorClosed, DoorFault, Memory}
use Rattle.server_rounds.specs.declared.settled.Settled.{Settled}
use Rattle.server_rounds.specs.declared.running.Running.{Running}
use Rattle.server_rounds.specs.declared.serving.Serving.{Serving}
use Rattle.server_rounds.specs.Passes.{StartsFrom, TakesIn}
use Rattle.server_rounds.specs.Served.{IsSettled}
use Rattle.server_rounds.specs.Running.{WillKeep}
use Rattle.server_rounds.specs.Rounds.{came, passes}
use Rattle.server_rounds.specs.Running.{WillKeep}

module _ {S K P : Type 0} where
  -- in the order of the door
  abbrev pub links_of : Serving S K P → List K
  links_of st = came st.finished.items ++ map (λ r. r.promise.came.value) st.running.items

  -- there is room for one connection more
  pub record HasRoom (st : Serving S K P) : Type 0 where
    pub running : deque_len st.running < deque_capacity st.running
    pub finished : vec_len st.finished + deque_len st.running < vec_capacity st.finished

  -- the same service, and the same pass at first
  pub record Keeps (a b : Serving S K P) : Type 0 where
    pub service : b.service.value ≡ a.service.value
    pub first : b.first.value ≡ a.first.value
    pub first_desks : b.first_desks.value ≡ a.first_desks.value

  -- all but the room stays
  pub record Same (a b : Serving S K P) : Type 0 where
    pub keeps : Keeps a b
    pub pass : b.pass ≡ a.pass
    pub desks : b.desks ≡ a.desks
    pub finished : b.finished.items ≡ a.finished.items
    pub running : b.running.items ≡ a.running.items
    pub finished_len : vec_len b.finished ≡ vec_len a.finished
    pub running_len : deque_len b.running ≡ deque_len a.running
    pub room : vec_capacity a.finished ≤ vec_capacity b.finished

module _ {S K P : Type 0} (shows : K → Shown) (may : S → Call → Bool → Ans → Type 0) (tables : S → List TableForm) (h : Hub) where
  -- the connection of a new link is being served with a pass of its own
  pub record IsRunning (service : S) (p : Pass) (r : Running S K P) : Type 0 where
    pub service_is : r.promise.service.value ≡ service
    pub hub_is : r.promise.hub.value ≡ h
    pub new : IsNew (shows r.promise.came.value)
    pub starts : StartsFrom p r.promise.began.value
    pub kept : WillKeep shows may tables r.place r.promise

  -- The round's pass, which was p at first, is q: it has taken in those of the connections that are over.
  pub record Stands (service : S) (p q : Pass) (finished : List (Settled K)) (running : List (Running S K P)) : Type 0 where
    pub pass : IsPassOf h q
    pub takes : TakesIn p (passes finished) q
    pub settled : AllByRecursion (IsSettled shows (may service) (tables service) h p) finished
    pub served : AllByRecursion (IsRunning service p) running

  pub record IsServing (st : Serving S K P) : Type 0 where
    pub stands : Stands st.service.value st.first.value st.pass st.finished.items st.running.items
    pub room : vec_len st.finished + deque_len st.running ≤ vec_capacity st.finished

-- What one look at the door comes to: a link more, or why there is none.
abbrev pub Goes : {K : Type 0} → DoorShown K → List K → Option Stop → DoorShown K → List K → Type 0
Goes {K} a links None b more = (link : K) × HandsOut a b link × (more ≡ links ++ link ∷ [])
Goes a links (Some Done) b more = ⊥
Goes a links (Some DoorClosed) b more = (more ≡ links) × DoorSame a b × Rose a.closings b.closings × IsNothing a.to_come
Goes a links (Some DoorFault) b more = (more ≡ links) × DoorSame a b × Rose a.faults b.faults
Goes a links (Some Memory) b more = (more ≡ links) × DoorSame a b
