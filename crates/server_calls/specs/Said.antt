-- What is said at the table of a call's interface.
use Rattle.std.specs.Prelude.{◌≡◌, ℕ, List, Some, slice_get}
use Rattle.rpc_base.specs.declared.identifiers.Order.{Order}
use Rattle.rpc_base.specs.declared.identifiers.WireHandle.{WireHandle}
use Rattle.handle_model.specs.declared.entry.Asked.{Asked}
use Rattle.handle_model.specs.declared.entry.Home.{Home}
use Rattle.handle_model.specs.declared.entry.Outcome.{Outcome}
use Rattle.handle_model.specs.declared.entry.Said.{Said}
use Rattle.handle_model.specs.declared.entry.Said.TheVariants.{Fault}
use Rattle.ndr_value.specs.Values.{Msg}
use Rattle.ndr_table.specs.Tables.{OpForm, TableForm}
use Rattle.ndr_model.specs.declared.way.Way.TheVariants.{Response}
use Rattle.ndr_model.specs.Written.{stub}
use Rattle.manager_api.specs.Answers.{Ans, AOut, AFault}
use Rattle.conn_histories.specs.Ends.{SaysStub, Says, with_wires}
use Rattle.conn_histories.specs.Requests.{op_of}

-- the octets of the response with these handles, as that of the operation to a request, or why there are none; or the fault
abbrev pub SaysAt : TableForm → OpForm → Order → Msg → List WireHandle → Ans → Said → Type 0
SaysAt t o order asked wires (AOut out kepts) said = SaysStub (stub t.types o Response order (Some asked) (with_wires out wires)) said
SaysAt t o order asked wires (AFault status) said = said ≡ Fault status

-- the same, at the operation of a number
abbrev pub SaysOfOperation : TableForm → ℕ → Order → Msg → List WireHandle → Ans → Said → Type 0
SaysOfOperation t op order asked wires answer said = (o : OpForm) → slice_get t.ops op ≡ Some o → SaysAt t o order asked wires answer said

-- what the end of a call says at its operation, in a group with this home
abbrev pub SaysOfCall : Home → List TableForm → Asked → Msg → List Outcome → Ans → Said → Type 0
SaysOfCall home tables c message results answer said = (o : OpForm) → op_of tables c.iface c.op ≡ Some o → Says home tables c o message results answer said
