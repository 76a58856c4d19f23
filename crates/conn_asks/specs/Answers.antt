-- The octets that a server answers (C706, "Connection-oriented RPC PDUs"): each in the order of the PDU that it answers,
-- with its call id.
use Rattle.std.specs.Prelude.{◌≡◌, ℕ, ◌+◌, ◌<◌, ◌≤◌, ◌^◌, ◌==◌, Bool, true, false, Option, Some, None, List, [], ◌∷◌, ◌++◌, length, min, max, ⊤}
use Rattle.std.specs.List.{AllByRecursion}
use Rattle.rpc_base.specs.declared.identifiers.Status.{Status}
use Rattle.rpc_base.specs.Fields.{FitsSyntax}
use Rattle.pdu_codec.specs.declared.pdu.Pdu.{Pdu}
use Rattle.pdu_codec.specs.declared.pdu.Body.{Body}
use Rattle.pdu_codec.specs.declared.pdu.Body.TheVariants as bodies
use Rattle.pdu_codec.specs.declared.pdu.BindBody.{BindBody}
use Rattle.pdu_codec.specs.declared.pdu.BindAckBody.{BindAckBody}
use Rattle.pdu_codec.specs.declared.pdu.ContextResult.{ContextResult}
use Rattle.pdu_codec.specs.declared.fragments.FragmentHead.{FragmentHead}
use Rattle.pdu_codec.specs.Constants.{first_frag, last_frag, only_frag, did_not_execute, major_version, stub_offset, least_fragment, most_fragment}
use Rattle.pdu_codec.specs.Pdus.{pdu_octets}
use Rattle.pdu_codec.specs.Fragments.{response_pdu}
use Rattle.pdu_stream.specs.Fragments.{most_stub}
use Rattle.pdu_stream.specs.Pieces.{piece_size, ArePieces}
use Rattle.handle_model.specs.declared.entry.Said.{Said}
use Rattle.handle_model.specs.declared.entry.Said.TheVariants.{Out, Fault}
use Rattle.conn_asks.specs.declared.events.Caller.{Caller}
use Rattle.conn_asks.specs.declared.events.Agreement.{Agreement}
use Rattle.conn_asks.specs.declared.events.ConnFault.{ConnFault}
use Rattle.conn_asks.specs.declared.events.ConnFault.TheVariants.{Nak}

abbrev pub answer : Caller → ℕ → Body → Pdu
answer c flags body = record { minor = 0; flags = flags; order = c.order; call_id = c.call_id; body = body }

-- ---- binds

-- What a bind_ack says, where the client sends fragments of max_xmit octets and takes those of max_recv: no more than
-- this runtime sends and takes at most, nor than the client takes or sends, though the server takes the least fragment.
abbrev pub agreement_at : ℕ → ℕ → ℕ → Agreement
agreement_at max_xmit max_recv group = record { max_xmit = min most_fragment max_recv; max_recv = max least_fragment (min most_fragment max_xmit); group = group }

abbrev pub agreement_of : BindBody → ℕ → Agreement
agreement_of b group = agreement_at b.max_xmit b.max_recv group

-- the agreement of a bind_ack that is ready but for its group
abbrev pub agreement_with : BindAckBody → ℕ → Agreement
agreement_with ack group = record { max_xmit = ack.max_xmit; max_recv = ack.max_recv; group = group }

-- no more results than a PDU's count tells, each with a transfer syntax of 20 octets
abbrev pub AreResults : List ContextResult → Type 0
AreResults results = (length results < 256) × AllByRecursion (λ r. FitsSyntax r.transfer) results

abbrev pub bind_ack : Caller → ℕ → Agreement → List ContextResult → Pdu
bind_ack c flags agreement results =
    answer c flags (bodies.BindAck (record { max_xmit = agreement.max_xmit; max_recv = agreement.max_recv; group = agreement.group; address = []; results = results }))

-- the body of a bind_ack
abbrev pub ack_in : Body → Option BindAckBody
ack_in (bodies.BindAck ack) = Some ack
ack_in _ = None

-- the sizes and the group are those of the bind_ack
abbrev pub alter_resp : Caller → Agreement → List ContextResult → Pdu
alter_resp c agreement results =
    answer c only_frag (bodies.AlterResp (record { max_xmit = agreement.max_xmit; max_recv = agreement.max_recv; group = agreement.group; address = []; results = results }))

-- a refusal, with the version of the protocol that the server knows, 5.0
abbrev pub bind_nak : Caller → ℕ → Pdu
bind_nak c reason = answer c only_frag (bodies.BindNak (record { reason = reason; versions = record { major = major_version; minor = 0 } ∷ [] }))

-- ---- faults

-- those of an only fragment, and DID_NOT_EXECUTE where the call didn't run
abbrev pub fault_flags : Bool → ℕ
fault_flags true = only_frag
fault_flags false = only_frag + did_not_execute

abbrev pub fault : Caller → Bool → Status → Pdu
fault c executed status = answer c (fault_flags executed) (bodies.Fault (record { alloc_hint = 0; context = c.context; cancel_count = 0; status = status }))

-- nca_s_proto_error, nca_s_invalid_pres_context_id
abbrev pub proto_error : Status
proto_error = record { 0 = 0x1C01000B }

abbrev pub invalid_context : Status
invalid_context = record { 0 = 0x1C00001C }

-- the last answer of a connection
abbrev pub closing : Caller → ConnFault → Pdu
closing c (Nak reason) = bind_nak c reason
closing c _ = fault c false proto_error

-- ---- calls

-- FIRST_FRAG at the first fragment, LAST_FRAG at the last
abbrev pub flags_of : Bool → Bool → ℕ
flags_of true true = only_frag
flags_of true false = first_frag
flags_of false true = last_frag
flags_of false false = 0

-- A fragment of a response: its piece of the stub, and how many octets of the stub later fragments have. The last one
-- has nothing behind it. The hint is the number of octets in it and in later ones.
abbrev pub response_head : Caller → Bool → List ℕ → ℕ → FragmentHead
response_head c first piece later =
    record { flags = flags_of first (later == 0); order = c.order; call_id = c.call_id; alloc_hint = length piece + later; context = c.context }

abbrev pub response_fragment : Caller → Bool → List ℕ → ℕ → Pdu
response_fragment c first piece later = response_pdu (response_head c first piece later) piece

-- how many octets some pieces have
abbrev pub octets_in : List (List ℕ) → ℕ
octets_in [] = 0
octets_in (piece ∷ later) = length piece + octets_in later

-- the octets of a response whose stub comes in these pieces
unfoldable pub response_octets : Caller → Bool → List (List ℕ) → List ℕ
response_octets c first [] = []
response_octets c first (piece ∷ later) = pdu_octets (response_fragment c first piece (octets_in later)) ++ response_octets c false later

-- The octets are a response with the stub, in fragments of at most so many octets.
abbrev pub IsResponse : Caller → ℕ → List ℕ → List ℕ → Type 0
IsResponse c most stub octets =
    (pieces : List (List ℕ)) × ArePieces (piece_size most stub_offset) stub pieces × (octets ≡ response_octets c true pieces)

-- a response has no more stub data than a request may have
abbrev pub FitsStub : Option Said → Type 0
FitsStub None = ⊤
FitsStub (Some (Fault status)) = ⊤
FitsStub (Some (Out stub)) = length stub ≤ most_stub

-- What a call's end says is answered, unless the client wants no answer.
abbrev pub Replies : Caller → ℕ → Bool → Bool → Option Said → List ℕ → Type 0
Replies c most true executed said octets = octets ≡ []
Replies c most false executed None octets = octets ≡ []
Replies c most false executed (Some (Fault status)) octets = octets ≡ pdu_octets (fault c executed status)
Replies c most false executed (Some (Out stub)) octets = IsResponse c most stub octets

-- a request whose context isn't accepted
abbrev pub refusal : Caller → Bool → List ℕ
refusal c true = []
refusal c false = pdu_octets (fault c false invalid_context)
