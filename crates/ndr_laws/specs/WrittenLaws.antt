-- What the messages of an operation, their stubs and their canonical octets have to do with one another.
use Rattle.std.specs.Prelude.{◌≡◌, ℕ, ◌≤◌, ◌^◌, List, length, Option, Ok}
use Rattle.rpc_base.specs.declared.identifiers.Order.{Order}
use Rattle.rpc_base.specs.Fields.{IsOctets}
use Rattle.ndr_value.specs.Forms.{Form}
use Rattle.ndr_value.specs.Values.{Msg}
use Rattle.ndr_table.specs.Tables.{OpForm}
use Rattle.ndr_model.specs.declared.way.Way.{Way}
use Rattle.ndr_model.specs.Message.{IsStub, read_stub}
use Rattle.ndr_laws.specs.Laws.{IsOp}
use Rattle.ndr_model.specs.Written.{stub}
use Rattle.ndr_model.specs.Fits.{IsOfOp}

-- ids of pointers have 32 bits, and each pointer has four octets
abbrev pub HasIds : List ℕ → Type 0
HasIds octets = length octets ≤ 2 ^ 31

-- the canonical octets of a message of the operation are a stub of it, in each order
abbrev pub WrittenIsStub : Type 0
WrittenIsStub = (types : List Form) (op : OpForm) (way : Way) (order : Order) (asked : Option Msg) (m : Msg)
    → IsOp types op → IsOfOp types op way asked m → HasIds (stub types op way order asked m) → IsStub types op way order asked m (stub types op way order asked m)

-- they are read as that message
abbrev pub WrittenIsRead : Type 0
WrittenIsRead = (types : List Form) (op : OpForm) (way : Way) (order : Order) (asked : Option Msg) (m : Msg)
    → IsOp types op → IsOfOp types op way asked m → HasIds (stub types op way order asked m) → read_stub types op way order asked (stub types op way order asked m) ≡ Ok m

-- a message that has a stub is of the operation
abbrev pub StubIsOfOp : Type 0
StubIsOfOp = (types : List Form) (op : OpForm) (way : Way) (order : Order) (asked : Option Msg) (octets : List ℕ) (m : Msg)
    → IsOctets octets → IsStub types op way order asked m octets → IsOfOp types op way asked m

-- a message that is read is of the operation
abbrev pub ReadIsOfOp : Type 0
ReadIsOfOp = (types : List Form) (op : OpForm) (way : Way) (order : Order) (asked : Option Msg) (octets : List ℕ) (m : Msg)
    → IsOctets octets → read_stub types op way order asked octets ≡ Ok m → IsOfOp types op way asked m
