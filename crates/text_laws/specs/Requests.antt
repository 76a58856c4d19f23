-- Which messages of a table's operations have a text in a call script, as requests.
use Rattle.std.specs.Prelude.{◌≡◌, ℕ, true, List, [], ◌∷◌, Option, Some, slice_get}
use Rattle.rpc_base.specs.declared.identifiers.WireHandle.{WireHandle}
use Rattle.ndr_value.specs.Forms.{Form}
use Rattle.ndr_value.specs.Values.{Msg}
use Rattle.ndr_table.specs.declared.operation.HandleUse.{HandleUse}
use Rattle.ndr_table.specs.Tables.{OpForm, IsTable}
use Rattle.ndr_table.specs.Sound.{IsSound}
use Rattle.ndr_model.specs.declared.way.Way.TheVariants.{Request}
use Rattle.ndr_model.specs.Fits.{IsOfOp}
use Rattle.value_text.specs.Texts.{AllSized}
use Rattle.client_texts.specs.Handles.{has_name}
use Rattle.client_texts.specs.Texts.{inwards, IsRequestText}

-- each of the handles is null, or is among those that came
abbrev pub HaveNames : List WireHandle → List WireHandle → Type 0
HaveNames known [] = Unit {0}
HaveNames known (w ∷ ws) = (has_name known w ≡ true) × HaveNames known ws

-- Of a table as each of the library is: a message of an operation, as a request, whose handles are null or came, and whose numbers and
-- octets are those that its types hold, has a text.
abbrev pub EachRequestHasAText : Type 0
EachRequestHasAText = (types : List Form) (ops : List OpForm) (uses : List (List HandleUse)) (number : ℕ) (op : OpForm) (asked : Option Msg) (m : Msg) (known : List WireHandle)
    → IsTable types ops uses → IsSound types ops uses → slice_get ops number ≡ Some op → IsOfOp types op Request asked m → AllSized m.values → AllSized m.heap → HaveNames known m.wires
    → (text : List ℕ) × IsRequestText types (inwards op.params) known m text
