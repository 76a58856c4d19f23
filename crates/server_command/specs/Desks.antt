-- What the connections of a server had their service do, in chains of the service's passes.
use Rattle.std.specs.Prelude.{◌≡◌, ℕ, Bool, Option, List}
use Rattle.rpc_outside.specs.declared.address.Address.{Address}
use Rattle.rpc_outside.specs.Links.{Shown}
use Rattle.rpc_outside.specs.Doors.{DoorShown}
use Rattle.handle_model.specs.declared.entry.DueItem.{DueItem}
use Rattle.ndr_table.specs.Tables.{TableForm}
use Rattle.manager_api.specs.Answers.{Ans}
use Rattle.manager_api.specs.Calls.{Call}
use Rattle.server_rounds.specs.Desks.{RoundHad}
use Rattle.desk_locks.specs.declared.pass.SharedPass.{SharedPass}
use Rattle.desk_locks.specs.declared.shared.SharedDesks.{SharedDesks}
use Rattle.desk_locks.specs.Calls.{echo_of, tables_of, May}
use Rattle.desk_locks.specs.Offers.{OffersAll}
use Rattle.desk_locks.specs.Entering.{Enters}
use Rattle.desk_locks.specs.Rundowns.{RanDown}
use Rattle.desk_locks.specs.Passes.{IsFresh, IsPassOf, Splits, Joins}
use Rattle.server_command.specs.Serves.{Serves}

module _ {S K P : Type 0} (shows : K → Shown) (may : S → Call → Bool → Ans → Type 0) (tables : S → List TableForm) (is_pass : S → P → Type 0) (enters : S → P → Call → Bool → Ans → P → Type 0)
    (runs_down : S → P → DueItem → P → Type 0) (splits joins : S → P → P → P → Type 0) (service : S) (first : P) where
  -- A server served connections with that service, whose pass was the first once. Each of them had its calls answered and its handles
  -- run down in a chain of passes that were split off it, as its entries tell, and the last pass has taken in what each gave back.
  pub record ServesHad (boot : ℕ) (a : DoorShown K) (at : Address) (most : ℕ) (b : DoorShown K) (out log : List ℕ) (status : ℕ) : Type 0 where
    pub serves : Serves shows (may service) (tables service) boot a at most b out log status
    pub last : P
    pub last_pass : is_pass service last
    pub had : RoundHad tables enters runs_down splits joins service serves.hub.boot first serves.round.finished.items last

module _ {K : Type 0} (shows : K → Shown) (echo : Option TableForm) where
  -- With the built-in services and an echo of that interface, which were registered in the endpoint map at the address, and for which nothing
  -- was done before. Each deed of theirs then stands once in the history of its service (`each_deed_stands_once` of `served_desks`).
  pub record ServesDesks (boot : ℕ) (a : DoorShown K) (at : Address) (most : ℕ) (b : DoorShown K) (out log : List ℕ) (status : ℕ) : Type 0 where
    pub desks : SharedDesks
    pub echo_is : echo_of desks ≡ echo
    pub offers : OffersAll at desks
    pub first : SharedPass
    pub fresh : IsFresh desks first
    pub had : ServesHad shows (λ d call told answer. May (echo_of d) call told answer) tables_of IsPassOf Enters RanDown (λ d before kept other. Splits before kept other)
        (λ d before other after. Joins before other after) desks first boot a at most b out log status
