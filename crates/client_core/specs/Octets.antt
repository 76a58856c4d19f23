-- The octets that a caller sends (C706, "Connection-oriented RPC PDUs"): little-endian, of minor version 0.
use Rattle.std.specs.Prelude.{◌≡◌, ℕ, ◌+◌, ◌==◌, Bool, true, false, List, [], ◌∷◌, length}
use Rattle.std.specs.List.{flat_map}
use Rattle.rpc_base.specs.declared.identifiers.Order.TheVariants.{Little}
use Rattle.rpc_base.specs.declared.identifiers.SyntaxId.{SyntaxId}
use Rattle.pdu_codec.specs.declared.pdu.Pdu.{Pdu}
use Rattle.pdu_codec.specs.declared.pdu.Body.{Body}
use Rattle.pdu_codec.specs.declared.pdu.Body.TheVariants as bodies
use Rattle.pdu_codec.specs.declared.pdu.Element.{Element}
use Rattle.pdu_codec.specs.declared.fragments.FragmentHead.{FragmentHead}
use Rattle.pdu_codec.specs.Constants.{only_frag, maybe_flag, stub_offset, most_fragment}
use Rattle.pdu_codec.specs.Pdus.{pdu_octets}
use Rattle.pdu_codec.specs.Fragments.{request_pdu}
use Rattle.pdu_stream.specs.Pieces.{piece_size, ArePieces}
use Rattle.presentation.specs.Serving.{ndr}
use Rattle.conn_asks.specs.Answers.{flags_of, octets_in}
use Rattle.client_core.specs.States.{bind_id}

-- a PDU of its own
abbrev pub sent : ℕ → Body → Pdu
sent id body = record { minor = 0; flags = only_frag; order = Little; call_id = id; body = body }

-- ---- offers

-- one presentation context: the interface over NDR
abbrev pub offer : SyntaxId → ℕ → List Element
offer syntax context = record { context = context; syntax = syntax; transfers = ndr ∷ [] } ∷ []

-- a bind offers context 0
abbrev pub bind_pdu : SyntaxId → ℕ → Pdu
bind_pdu syntax group = sent bind_id (bodies.Bind (record { max_xmit = most_fragment; max_recv = most_fragment; group = group; elements = offer syntax 0 }))

-- its sizes and its group mean nothing
abbrev pub alter_pdu : ℕ → SyntaxId → ℕ → Pdu
alter_pdu id syntax context = sent id (bodies.Alter (record { max_xmit = most_fragment; max_recv = most_fragment; group = 0; elements = offer syntax context }))

-- ---- calls

abbrev pub co_cancel : ℕ → Pdu
co_cancel id = sent id bodies.CoCancel

-- MAYBE stands in each fragment of a request that wants no answer
abbrev pub request_flags : Bool → Bool → Bool → ℕ
request_flags true first last = maybe_flag + flags_of first last
request_flags false first last = flags_of first last

-- A fragment of a request: its piece of the stub, and how many octets of the stub later fragments have. The last one has
-- nothing after it. The hint is the number of octets in it and in later ones.
abbrev pub request_head : ℕ → Bool → Bool → List ℕ → ℕ → FragmentHead
request_head id maybe first piece later =
    record { flags = request_flags maybe first (later == 0); order = Little; call_id = id; alloc_hint = length piece + later; context = 0 }

abbrev pub request_fragment : ℕ → ℕ → Bool → Bool → List ℕ → ℕ → Pdu
request_fragment id op maybe first piece later = request_pdu (request_head id maybe first piece later) op piece

-- the fragments of a request whose stub comes in these pieces
unfoldable pub request_fragments : ℕ → ℕ → Bool → Bool → List (List ℕ) → List Pdu
request_fragments id op maybe first [] = []
request_fragments id op maybe first (piece ∷ later) =
    request_fragment id op maybe first piece (octets_in later) ∷ request_fragments id op maybe false later

-- The octets are a request of an operation with the stub, in fragments of at most so many octets.
abbrev pub IsRequest : ℕ → ℕ → Bool → ℕ → List ℕ → List ℕ → Type 0
IsRequest id op maybe most stub octets =
    (pieces : List (List ℕ)) × ArePieces (piece_size most stub_offset) stub pieces × (octets ≡ flat_map pdu_octets (request_fragments id op maybe true pieces))
