-- What the relation between messages and stubs and the reading of stubs have to do with one another.
use Rattle.std.specs.Prelude.{◌≡◌, ℕ, List, slice_get, Option, Some, Ok}
use Rattle.rpc_base.specs.declared.identifiers.Order.{Order}
use Rattle.ndr_value.specs.Forms.{Form}
use Rattle.ndr_value.specs.Values.{Msg}
use Rattle.ndr_table.specs.declared.operation.HandleUse.{HandleUse}
use Rattle.ndr_table.specs.Tables.{OpForm, IsTable}
use Rattle.ndr_table.specs.Nested.{IsShallow}
use Rattle.ndr_model.specs.declared.way.Way.{Way}
use Rattle.ndr_model.specs.Message.{IsStub, read_stub}

-- a message that is read from octets has them as a stub
abbrev pub ReadIsStub : Type 0
ReadIsStub = (types : List Form) (op : OpForm) (way : Way) (order : Order) (asked : Option Msg) (octets : List ℕ) (m : Msg)
    → read_stub types op way order asked octets ≡ Ok m → IsStub types op way order asked m octets

-- an operation of a table
pub record IsOp (types : List Form) (op : OpForm) : Type 0 where
  pub ops : List OpForm
  pub uses : List (List HandleUse)
  pub number : ℕ
  pub table : IsTable types ops uses
  pub shallow : IsShallow types ops
  pub is : slice_get ops number ≡ Some op

-- a message that has octets as a stub is read from them
abbrev pub StubIsRead : Type 0
StubIsRead = (types : List Form) (op : OpForm) (way : Way) (order : Order) (asked : Option Msg) (octets : List ℕ) (m : Msg)
    → IsOp types op → IsStub types op way order asked m octets → read_stub types op way order asked octets ≡ Ok m

-- octets are a stub of one message at most
abbrev pub OneMessage : Type 0
OneMessage = (types : List Form) (op : OpForm) (way : Way) (order : Order) (asked : Option Msg) (octets : List ℕ) (m n : Msg)
    → IsOp types op → IsStub types op way order asked m octets → IsStub types op way order asked n octets → m ≡ n
