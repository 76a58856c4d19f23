-- The lines in which the outcomes of a call script are told.
use Rattle.std.specs.Prelude.{◌≡◌, ℕ, Bool, true, false, List, ◌++◌, codes, decimal}
use Rattle.rpc_base.specs.declared.identifiers.WireHandle.{WireHandle}
use Rattle.base_words.specs.Words.{hex_u32}
use Rattle.client_core.specs.States.{Outcome}
use Rattle.client_core.specs.States.Outcome.{TBound, TNotBound, TDone, TFault, TBroken}
use Rattle.client_texts.specs.Texts.{IsCallText}

-- whether a call that failed ran
abbrev pub ran_text : Bool → List ℕ
ran_text true = codes " not-run"
ran_text false = codes " run"

unfoldable pub bound_text : ℕ → List ℕ
bound_text group = codes " bound " ++ decimal group

unfoldable pub refused_text : ℕ → List ℕ
refused_text reason = codes " refused " ++ decimal reason

unfoldable pub fault_text : ℕ → Bool → List ℕ
fault_text status not_run = codes " fault " ++ (hex_u32 status ++ ran_text not_run)

-- What is said of an outcome, where these handles have come. A breach of the protocol is no outcome.
abbrev pub Says : List WireHandle → Outcome → List ℕ → Type 0
Says known (TBound group) said = said ≡ bound_text group
Says known (TNotBound reason) said = said ≡ refused_text reason
Says known (TDone m) said = (text : List ℕ) × IsCallText known m.wires m.values text × (said ≡ codes " done " ++ text)
Says known (TFault status not_run) said = said ≡ fault_text status.0 not_run
Says known (TBroken fault) said = ⊥

-- the line of a connection's outcome
abbrev pub IsLine : List WireHandle → ℕ → Outcome → List ℕ → Type 0
IsLine known connection outcome line = (said : List ℕ) × Says known outcome said × (line ≡ decimal connection ++ (said ++ codes "\n"))

-- the line of a connection that is lost with a call out
unfoldable pub lost_line : ℕ → List ℕ
lost_line connection = decimal connection ++ codes " lost\n"

-- whether the line of an outcome was added; it wasn't where there is none
abbrev pub WritesLine : Bool → List WireHandle → ℕ → Outcome → List ℕ → List ℕ → Type 0
WritesLine true known connection outcome before now = (line : List ℕ) × IsLine known connection outcome line × (now ≡ before ++ line)
WritesLine false known connection outcome before now = (line : List ℕ) → IsLine known connection outcome line → ⊥

-- the same of what is said. Only private clauses speak of this
abbrev pub Said : Bool → List WireHandle → Outcome → List ℕ → List ℕ → Type 0
Said true known outcome before now = (said : List ℕ) × Says known outcome said × (now ≡ before ++ said)
Said false known outcome before now = (said : List ℕ) → Says known outcome said → ⊥
