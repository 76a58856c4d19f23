-- What is told of a call is a message of its operation.
use Rattle.std.specs.Prelude.{◌≡◌, Option, Some, slice_get, ⊤}
use Rattle.ndr_value.specs.Values.{Msg}
use Rattle.ndr_table.specs.Tables.{OpForm, TableForm}
use Rattle.ndr_model.specs.declared.way.Way.TheVariants.{Response}
use Rattle.ndr_model.specs.Fits.{IsOfOp}
use Rattle.client_core.specs.States.{Outcome, Calling, ClientState}
use Rattle.client_core.specs.States.Outcome.{TDone}

-- the message is one of the call's operation, as a response to what was asked
abbrev pub IsOfCall : TableForm → Calling → Msg → Type 0
IsOfCall interface c m = (o : OpForm) × (slice_get interface.ops c.op ≡ Some o) × IsOfOp interface.types o Response (Some c.message) m

-- where a message is told, it is one of the operation of the call that is out
abbrev pub AnswersOut : ClientState → Option Outcome → Type 0
AnswersOut s (Some (TDone m)) = (c : Calling) × (s.call ≡ Some c) × IsOfCall s.interface c m
AnswersOut s _ = ⊤
