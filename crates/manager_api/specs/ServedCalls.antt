-- Calls of the interfaces that a server offers.
use Rattle.std.specs.Prelude.{◌≡◌, ◌<◌, true, List, length, slice_get, Some}
use Rattle.ndr_table.specs.Tables.{TableForm}
use Rattle.manager_api.specs.Answers.{Ans}
use Rattle.manager_api.specs.Calls.{Call, Owes, has_cookies, uses_at}
use Rattle.manager_api.specs.Messages.{IsRequest}

-- The call is of an operation of a served interface, with a message of that operation's request, and with a cookie for each handle
-- that the group has.
pub record IsCall (tables : List TableForm) (c : Call) : Type 0 where
  pub table : TableForm
  pub served : slice_get tables c.iface ≡ Some table
  pub number : c.op < length table.ops
  pub request : IsRequest table c.op c.message
  pub handles : has_cookies (uses_at table c.op) c.message.wires c.cookies ≡ true

-- the call is of an operation of a served interface
pub record IsNumbered (tables : List TableForm) (c : Call) : Type 0 where
  pub table : TableForm
  pub served : slice_get tables c.iface ≡ Some table
  pub number : c.op < length table.ops

-- what the answer owes to the call's interface
abbrev pub Owed : List TableForm → Call → Ans → Type 0
Owed tables c answer = (t : TableForm) → slice_get tables c.iface ≡ Some t → Owes t c.op c.message answer
