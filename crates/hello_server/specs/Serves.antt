-- What a server of hello comes to.
use Rattle.std.specs.Prelude.{ℕ, List}
use Rattle.rpc_outside.specs.declared.address.Address.{Address}
use Rattle.rpc_outside.specs.Links.{Shown}
use Rattle.rpc_outside.specs.Doors.{DoorShown}
use Rattle.ndr_table.specs.Tables.{TableForm}
use Rattle.desk_text.specs.Interfaces as text
use Rattle.server_command.specs.Serves as served
use Rattle.hello_desk.specs.declared.idl.TheConstants.{HELLO_IDL}
use Rattle.hello_server.specs.declared.served.ServeFault.{ServeFault}
use Rattle.hello_server.specs.declared.served.ServeFault.TheVariants as faults
use Rattle.hello_server.specs.Calls.{May, tables_with}

-- the text of hello's interface
abbrev pub hello_idl : List ℕ
hello_idl = HELLO_IDL.now

-- The connections are served with the interface of hello's text, the endpoint map and management.
pub record ServesHello {K : Type 0} (shows : K → Shown) (boot : ℕ) (a : DoorShown K) (at : Address) (most : ℕ) (b : DoorShown K) (out log : List ℕ) (status : ℕ) : Type 0 where
  pub hello : TableForm
  pub of_text : text.IsInterface hello_idl hello
  pub serves : served.Serves shows (May hello) (tables_with hello) boot a at most b out log status

-- Why nothing is printed: hello's text has no interface, or a server with it prints nothing, as the door failed or memory ran out.
abbrev pub IsWhy : {K : Type 0} → (K → Shown) → ℕ → DoorShown K → Address → ℕ → DoorShown K → ServeFault → Type 0
IsWhy shows boot a at most b (faults.Text fault) = text.IsWhy hello_idl fault
IsWhy shows boot a at most b (faults.Out fault) = (hello : TableForm) × text.IsInterface hello_idl hello × served.IsWhy shows (May hello) (tables_with hello) boot a at most b fault
