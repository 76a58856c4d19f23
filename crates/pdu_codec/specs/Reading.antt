-- Reading a body's fields from left to right: a field and the octets after it, or none where they end early.
use Rattle.std.specs.Prelude.{◌≡◌, ℕ, zero, suc, ◌+◌, List, [], ◌∷◌, length, take, drop, ◌==◌, Option, Some, None, Result, Ok, Err, nat_lt, if◌then◌else◌, ⊤}
use Rattle.std.specs.Int.{w16, w32}
use Rattle.rpc_base.specs.declared.identifiers.Order.{Order}
use Rattle.rpc_base.specs.declared.identifiers.SyntaxId.{SyntaxId}
use Rattle.rpc_base.specs.Fields.{number_of, uuid_octets, syntax_of}
use Rattle.pdu_codec.specs.Constants.{request_type, response_type, fault_type, bind_type, bind_ack_type, bind_nak_type, alter_context_type, alter_context_resp_type, shutdown_type, co_cancel_type, orphaned_type}
use Rattle.pdu_codec.specs.declared.pdu.Body.{Body}
use Rattle.pdu_codec.specs.declared.pdu.Body.TheVariants.{Request, Response, Fault, Bind, BindAck, BindNak, Alter, AlterResp, Shutdown, CoCancel, Orphaned}
use Rattle.pdu_codec.specs.declared.pdu.RequestBody.{RequestBody}
use Rattle.pdu_codec.specs.declared.pdu.ResponseBody.{ResponseBody}
use Rattle.pdu_codec.specs.declared.pdu.FaultBody.{FaultBody}
use Rattle.pdu_codec.specs.declared.pdu.BindBody.{BindBody}
use Rattle.pdu_codec.specs.declared.pdu.BindAckBody.{BindAckBody}
use Rattle.pdu_codec.specs.declared.pdu.BindNakBody.{BindNakBody}
use Rattle.pdu_codec.specs.declared.pdu.AlterBody.{AlterBody}
use Rattle.pdu_codec.specs.declared.pdu.AlterRespBody.{AlterRespBody}
use Rattle.pdu_codec.specs.declared.pdu.Version.{Version}
use Rattle.pdu_codec.specs.declared.pdu.Element.{Element}
use Rattle.pdu_codec.specs.declared.pdu.ContextResult.{ContextResult}
use Rattle.pdu_codec.specs.declared.fault.PduFault.{PduFault}
use Rattle.pdu_codec.specs.declared.fault.PduFault.TheVariants as faults
use Rattle.pdu_codec.specs.Pdus.{has_object, gap}

infixl 10 ◌>>=◌
abbrev pub ◌>>=◌ : {A B : Type 0} → Option A → (A → Option B) → Option B
(Some x) >>= f = f x
None >>= f = None

-- A call failed where reading gives nothing, or for want of memory.
abbrev pub BodyFails : {Y : Type 0} → PduFault → Option Y → Type 0
BodyFails faults.Version read = ⊥
BodyFails faults.Kind read = ⊥
BodyFails faults.Length read = ⊥
BodyFails faults.Auth read = ⊥
BodyFails faults.Characters read = ⊥
BodyFails faults.Body read = read ≡ None
BodyFails faults.Memory read = ⊤

-- What a call returned, seen by view, is what reading gives, unless memory ran out.
abbrev pub Gives : {X Y : Type 0} → (X → Y) → Result X PduFault → Option Y → Type 0
Gives view (Ok x) read = read ≡ Some (view x)
Gives view (Err fault) read = BodyFails fault read

-- a field of some octets, which a function reads
abbrev pub field_at : {A : Type 0} → ℕ → (List ℕ → A) → List ℕ → Option (A × List ℕ)
field_at size f octets = if nat_lt (length octets) size then None else Some (f (take size octets), drop size octets)

unfoldable pub u16_at : Order → List ℕ → Option (ℕ × List ℕ)
u16_at order octets = field_at 2 (number_of order w16) octets

unfoldable pub u32_at : Order → List ℕ → Option (ℕ × List ℕ)
u32_at order octets = field_at 4 (number_of order w32) octets

unfoldable pub uuid_at : Order → List ℕ → Option (List ℕ × List ℕ)
uuid_at order octets = field_at 16 (uuid_octets order) octets

unfoldable pub syntax_at : Order → List ℕ → Option (SyntaxId × List ℕ)
syntax_at order octets = field_at 20 (syntax_of order) octets

-- so many octets
unfoldable pub piece_at : ℕ → List ℕ → Option (List ℕ × List ℕ)
piece_at size octets = field_at size (λ xs. xs) octets

-- one octet
abbrev pub octet_at : List ℕ → Option (ℕ × List ℕ)
octet_at [] = None
octet_at (x ∷ rest) = Some (x, rest)

unfoldable pub object_at : Order → ℕ → List ℕ → Option (Option (List ℕ) × List ℕ)
object_at order flags octets =
    if has_object flags then (uuid_at order octets >>= λ id. Some (Some id.0, id.1)) else Some (None, octets)

unfoldable pub request_at : Order → ℕ → List ℕ → Option RequestBody
request_at order flags octets = do
  hint ← u32_at order octets
  context ← u16_at order hint.1
  op ← u16_at order context.1
  object ← object_at order flags op.1
  Some (record { alloc_hint = hint.0; context = context.0; op = op.0; object = object.0; stub = object.1 })

unfoldable pub response_at : Order → List ℕ → Option ResponseBody
response_at order octets = do
  hint ← u32_at order octets
  context ← u16_at order hint.1
  cancels ← octet_at context.1
  reserved ← octet_at cancels.1
  Some (record { alloc_hint = hint.0; context = context.0; cancel_count = cancels.0; stub = reserved.1 })

unfoldable pub fault_at : Order → List ℕ → Option FaultBody
fault_at order octets = do
  hint ← u32_at order octets
  context ← u16_at order hint.1
  cancels ← octet_at context.1
  reserved ← octet_at cancels.1
  status ← u32_at order reserved.1
  last ← piece_at 4 status.1
  Some (record { alloc_hint = hint.0; context = context.0; cancel_count = cancels.0; status = record { 0 = status.0 } })

-- so many items, one after the other
unfoldable pub items_at : {A : Type 0} → (List ℕ → Option (A × List ℕ)) → ℕ → List ℕ → Option (List A × List ℕ)
items_at read zero octets = Some ([], octets)
items_at read (suc n) octets = do
  first ← read octets
  others ← items_at read n first.1
  Some (first.0 ∷ others.0, others.1)

unfoldable pub element_at : Order → List ℕ → Option (Element × List ℕ)
element_at order octets = do
  context ← u16_at order octets
  count ← octet_at context.1
  reserved ← octet_at count.1
  syntax ← syntax_at order reserved.1
  transfers ← items_at (syntax_at order) count.0 syntax.1
  Some (record { context = context.0; syntax = syntax.0; transfers = transfers.0 }, transfers.1)

unfoldable pub bind_at : Order → List ℕ → Option BindBody
bind_at order octets = do
  max_xmit ← u16_at order octets
  max_recv ← u16_at order max_xmit.1
  group ← u32_at order max_recv.1
  count ← octet_at group.1
  reserved ← piece_at 3 count.1
  elements ← items_at (element_at order) count.0 reserved.1
  Some (record { max_xmit = max_xmit.0; max_recv = max_recv.0; group = group.0; elements = elements.0 })

unfoldable pub result_at : Order → List ℕ → Option (ContextResult × List ℕ)
result_at order octets = do
  result ← u16_at order octets
  reason ← u16_at order result.1
  transfer ← syntax_at order reason.1
  Some (record { result = result.0; reason = reason.0; transfer = transfer.0 }, transfer.1)

-- an address after ten octets of a body, with its length and its padding
unfoldable pub address_at : Order → List ℕ → Option (List ℕ × List ℕ)
address_at order octets = do
  size ← u16_at order octets
  address ← piece_at size.0 size.1
  padding ← piece_at (gap (10 + size.0)) address.1
  Some (address.0, padding.1)

unfoldable pub bind_ack_at : Order → List ℕ → Option BindAckBody
bind_ack_at order octets = do
  max_xmit ← u16_at order octets
  max_recv ← u16_at order max_xmit.1
  group ← u32_at order max_recv.1
  address ← address_at order group.1
  count ← octet_at address.1
  reserved ← piece_at 3 count.1
  results ← items_at (result_at order) count.0 reserved.1
  Some (record { max_xmit = max_xmit.0; max_recv = max_recv.0; group = group.0; address = address.0; results = results.0 })

abbrev pub version_at : List ℕ → Option (Version × List ℕ)
version_at octets = do
  major ← octet_at octets
  minor ← octet_at major.1
  Some (record { major = major.0; minor = minor.0 }, minor.1)

unfoldable pub bind_nak_at : Order → List ℕ → Option BindNakBody
bind_nak_at order octets = do
  reason ← u16_at order octets
  count ← octet_at reason.1
  versions ← items_at version_at count.0 count.1
  Some (record { reason = reason.0; versions = versions.0 })

-- an alter_context with a bind's fields, and an answer to it with a bind_ack's
abbrev pub as_alter : BindBody → AlterBody
as_alter b = record { max_xmit = b.max_xmit; max_recv = b.max_recv; group = b.group; elements = b.elements }

abbrev pub as_alter_resp : BindAckBody → AlterRespBody
as_alter_resp b = record { max_xmit = b.max_xmit; max_recv = b.max_recv; group = b.group; address = b.address; results = b.results }

unfoldable pub alter_at : Order → List ℕ → Option AlterBody
alter_at order octets = bind_at order octets >>= λ b. Some (as_alter b)

unfoldable pub alter_resp_at : Order → List ℕ → Option AlterRespBody
alter_resp_at order octets = bind_ack_at order octets >>= λ b. Some (as_alter_resp b)

-- a body of that PTYPE
unfoldable pub body_at : Order → ℕ → ℕ → List ℕ → Option Body
body_at order flags kind octets =
    if kind == request_type then (request_at order flags octets >>= λ b. Some (Request b))
    else if kind == response_type then (response_at order octets >>= λ b. Some (Response b))
    else if kind == fault_type then (fault_at order octets >>= λ b. Some (Fault b))
    else if kind == bind_type then (bind_at order octets >>= λ b. Some (Bind b))
    else if kind == bind_ack_type then (bind_ack_at order octets >>= λ b. Some (BindAck b))
    else if kind == bind_nak_type then (bind_nak_at order octets >>= λ b. Some (BindNak b))
    else if kind == alter_context_type then (alter_at order octets >>= λ b. Some (Alter b))
    else if kind == alter_context_resp_type then (alter_resp_at order octets >>= λ b. Some (AlterResp b))
    else if kind == shutdown_type then Some Shutdown
    else if kind == co_cancel_type then Some CoCancel
    else if kind == orphaned_type then Some Orphaned
    else None
