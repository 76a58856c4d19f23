-- Laws of the texts of calls: nothing is spelled in two ways, and no spelling has two meanings.
use Rattle.std.specs.Prelude.{◌≡◌, ℕ, ◌<◌, ◌^◌, List, length}
use Rattle.rpc_base.specs.declared.identifiers.WireHandle.{WireHandle}
use Rattle.ndr_value.specs.Forms.{Form, Forms}
use Rattle.ndr_value.specs.Values.{Msg, Vals}
use Rattle.client_texts.specs.Texts.{IsRequestText, IsCallText}

-- so many handles are in any memory
abbrev pub AreFew : List WireHandle → Type 0
AreFew wires = length wires < 2 ^ 64

-- a text is that of one request's message at most
abbrev pub OneMessage : Type 0
OneMessage = (types : List Form) (shapes : Forms) (known : List WireHandle) (m n : Msg) (text : List ℕ)
    → AreFew known → IsRequestText types shapes known m text → IsRequestText types shapes known n text → m ≡ n

-- a request's message has one text at most
abbrev pub OneRequest : Type 0
OneRequest = (types : List Form) (shapes : Forms) (known : List WireHandle) (m : Msg) (s t : List ℕ) → IsRequestText types shapes known m s → IsRequestText types shapes known m t → s ≡ t

-- and so have the values of an answer's
abbrev pub OneAnswer : Type 0
OneAnswer = (known wires : List WireHandle) (vs : Vals) (s t : List ℕ) → AreFew wires → IsCallText known wires vs s → IsCallText known wires vs t → s ≡ t
