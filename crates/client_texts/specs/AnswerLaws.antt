-- Laws of the texts of answers: a message that is of an operation has a text, where its handles have come, and no outcome has two lines.
use Rattle.std.specs.Prelude.{◌≡◌, ℕ, List, Option}
use Rattle.rpc_base.specs.declared.identifiers.WireHandle.{WireHandle}
use Rattle.ndr_value.specs.Forms.{Form}
use Rattle.ndr_value.specs.Values.{Msg}
use Rattle.ndr_table.specs.Tables.{OpForm}
use Rattle.ndr_model.specs.declared.way.Way.{Way}
use Rattle.ndr_model.specs.Fits.{IsOfOp}
use Rattle.client_core.specs.States.{Outcome}
use Rattle.client_core.specs.States.Outcome.{TDone}
use Rattle.client_texts.specs.Handles.{with_handles}
use Rattle.client_texts.specs.Texts.{IsCallText}
use Rattle.client_texts.specs.Laws.{AreFew}
use Rattle.client_texts.specs.Answers.{IsLine}

abbrev pub HasText : Type 0
HasText = (types : List Form) (op : OpForm) (way : Way) (asked : Option Msg) (m : Msg) (known : List WireHandle) → IsOfOp types op way asked m
    → (text : List ℕ) × IsCallText (with_handles known m.wires) m.wires m.values text

abbrev pub HasLine : Type 0
HasLine = (types : List Form) (op : OpForm) (way : Way) (asked : Option Msg) (m : Msg) (known : List WireHandle) (connection : ℕ) → IsOfOp types op way asked m
    → (line : List ℕ) × IsLine (with_handles known m.wires) connection (TDone m) line

-- no more handles come with an outcome than any memory holds
abbrev pub HasFew : Outcome → Type 0
HasFew (TDone m) = AreFew m.wires
HasFew _ = Unit {0}

abbrev pub OneLine : Type 0
OneLine = (known : List WireHandle) (connection : ℕ) (outcome : Outcome) (s t : List ℕ) → HasFew outcome → IsLine known connection outcome s → IsLine known connection outcome t → s ≡ t
