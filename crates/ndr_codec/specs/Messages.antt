-- What a message is to an operation of a table, and what a call says.
use Rattle.std.specs.Prelude.{◌≡◌, ℕ, List, Option, Some, slice_get}
use Rattle.rpc_base.specs.declared.identifiers.Order.{Order}
use Rattle.rpc_base.specs.declared.identifiers.Order.TheVariants.{Little}
use Rattle.rpc_base.specs.Fields.{IsOctets}
use Rattle.ndr_value.specs.Forms.{Form}
use Rattle.ndr_value.specs.Values.{Msg}
use Rattle.ndr_table.specs.declared.table.Table.{Table}
use Rattle.ndr_table.specs.Shown.{shown}
use Rattle.ndr_table.specs.Tables.{OpForm}
use Rattle.ndr_model.specs.declared.way.Way.{Way}
use Rattle.ndr_model.specs.Message.{IsStub}
use Rattle.ndr_model.specs.Fits.{IsOfOp}
use Rattle.ndr_model.specs.Written.{stub}
use Rattle.ndr_agree.specs.declared.call.Call.{Call}
use Rattle.ndr_agree.specs.Views.{types_in, call_of}

-- so it is for the operation of that number and the table's types
abbrev pub WhereOp : Table → ℕ → (List Form → OpForm → Type 0) → Type 0
WhereOp t op P = (o : OpForm) → slice_get (shown t).ops op ≡ Some o → P (shown t).types o

-- so it is where octets, in any order, are a stub of the message
abbrev pub WhereStub : Table → ℕ → Way → Option Msg → Msg → Type 0 → Type 0
WhereStub t op way asked m P = (o : OpForm) (order : Order) (octets : List ℕ) → slice_get (shown t).ops op ≡ Some o → IsOctets octets → IsStub (shown t).types o way order asked m octets → P

-- the message's canonical octets are a stub of it
abbrev pub HasStub : List Form → OpForm → Way → Option Msg → Msg → Type 0
HasStub types o way asked m = IsStub types o way Little asked m (stub types o way Little asked m)

-- ---- what a call says

abbrev pub IsStubOf : Call → Order → List ℕ → Type 0
IsStubOf c order octets = IsStub (types_in c) (call_of c).op (call_of c).way order (call_of c).asked (call_of c).said octets

abbrev pub stub_of : Call → Order → List ℕ
stub_of c order = stub (types_in c) (call_of c).op (call_of c).way order (call_of c).asked (call_of c).said

abbrev pub IsSaidOf : Call → Type 0
IsSaidOf c = IsOfOp (types_in c) (call_of c).op (call_of c).way (call_of c).asked (call_of c).said
