-- What the service of a server did, by what is printed of the connections.
use Rattle.std.specs.Prelude.{ℕ, Bool, List}
use Rattle.rpc_outside.specs.declared.address.Address.{Address}
use Rattle.rpc_outside.specs.Links.{Shown}
use Rattle.rpc_outside.specs.Doors.{DoorShown}
use Rattle.handle_model.specs.declared.entry.DueItem.{DueItem}
use Rattle.ndr_table.specs.Tables.{TableForm}
use Rattle.manager_api.specs.Answers.{Ans}
use Rattle.manager_api.specs.Calls.{Call}
use Rattle.server_command.specs.declared.printed.Printed.{Printed}
use Rattle.server_command.specs.Desks.{ServesHad}

module _ {S K P : Type 0} (shows : K → Shown) (may : S → Call → Bool → Ans → Type 0) (tables : S → List TableForm) (is_pass : S → P → Type 0) (enters : S → P → Call → Bool → Ans → P → Type 0)
    (runs_down : S → P → DueItem → P → Type 0) (splits joins : S → P → P → P → Type 0) (service : S) (first : P) where
  -- A server served connections with that service, and that was printed.
  abbrev pub OverHad : ℕ → DoorShown K → Address → ℕ → DoorShown K → Printed → Type 0
  OverHad boot a at most b p = ServesHad shows may tables is_pass enters runs_down splits joins service first boot a at most b p.out p.log p.status
