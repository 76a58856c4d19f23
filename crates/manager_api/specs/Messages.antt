-- Messages of a table's operations, and their stubs.
use Rattle.std.specs.Prelude.{◌≡◌, ℕ, slice_get, Some, None}
use Rattle.ndr_value.specs.Values.{Msg}
use Rattle.ndr_table.specs.Tables.{OpForm, TableForm}
pub use Rattle.ndr_model.specs.declared.way.Way.TheVariants.{Request, Response}
pub use Rattle.ndr_model.specs.declared.departure.Departure.{Departure}
pub use Rattle.ndr_model.specs.Message.{IsStub, read_stub}
pub use Rattle.ndr_model.specs.Faults.{fault_of, status_of}
pub use Rattle.ndr_model.specs.Written.{stub}
use Rattle.ndr_model.specs.Fits.{IsOfOp}

-- P of the operation of that number
abbrev pub ForOp : TableForm → ℕ → (OpForm → Type 0) → Type 0
ForOp t op P = (o : OpForm) → slice_get t.ops op ≡ Some o → P o

-- a message of the operation's request
abbrev pub IsRequest : TableForm → ℕ → Msg → Type 0
IsRequest t op m = ForOp t op (λ o. IsOfOp t.types o Request None m)

-- a message of the operation's response to a request
abbrev pub IsResponse : TableForm → ℕ → Msg → Msg → Type 0
IsResponse t op asked m = ForOp t op (λ o. IsOfOp t.types o Response (Some asked) m)
