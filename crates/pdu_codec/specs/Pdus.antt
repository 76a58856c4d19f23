-- PDUs of the connection-oriented protocol, and the octets that spell them (C706, "Connection-oriented RPC
-- PDUs"). Octets that may be anything when they are read, as reserved ones, are free in `IsPdu`, and zero
-- in `pdu_octets`.
use Rattle.std.specs.Prelude.{◌≡◌, ℕ, ◌+◌, ◌-◌, ◌%◌, ◌^◌, ◌<◌, ◌≤◌, ◌==◌, bit_and, Bool, not, List, [], ◌∷◌, ◌++◌, length, Option, Some, None, is_some, IfSome, replicate, ⊤}
use Rattle.std.specs.List.{flat_map, AllByRecursion}
use Rattle.rpc_base.specs.declared.identifiers.Order.{Order}
use Rattle.rpc_base.specs.declared.identifiers.Order.TheVariants.{Big, Little}
use Rattle.rpc_base.specs.declared.identifiers.SyntaxId.{SyntaxId}
use Rattle.rpc_base.specs.Fields.{u16_octets, u32_octets, uuid_octets, syntax_octets, FitsSyntax}
use Rattle.pdu_codec.specs.Constants.{request_type, response_type, fault_type, bind_type, bind_ack_type, bind_nak_type, alter_context_type, alter_context_resp_type, shutdown_type, co_cancel_type, orphaned_type, object_uuid_flag, major_version, most_minor, header_size}
use Rattle.pdu_codec.specs.declared.pdu.Pdu.{Pdu}
use Rattle.pdu_codec.specs.declared.pdu.Head.{Head}
use Rattle.pdu_codec.specs.declared.pdu.Body.{Body}
use Rattle.pdu_codec.specs.declared.pdu.Body.TheVariants.{Request, Response, Fault, Bind, BindAck, BindNak, Alter, AlterResp, Shutdown, CoCancel, Orphaned}
use Rattle.pdu_codec.specs.declared.pdu.RequestBody.{RequestBody}
use Rattle.pdu_codec.specs.declared.pdu.ResponseBody.{ResponseBody}
use Rattle.pdu_codec.specs.declared.pdu.FaultBody.{FaultBody}
use Rattle.pdu_codec.specs.declared.pdu.BindBody.{BindBody}
use Rattle.pdu_codec.specs.declared.pdu.BindAckBody.{BindAckBody}
use Rattle.pdu_codec.specs.declared.pdu.BindNakBody.{BindNakBody}
use Rattle.pdu_codec.specs.declared.pdu.AlterBody.{AlterBody}
use Rattle.pdu_codec.specs.declared.pdu.AlterRespBody.{AlterRespBody}
use Rattle.pdu_codec.specs.declared.pdu.Version.{Version}
use Rattle.pdu_codec.specs.declared.pdu.Element.{Element}
use Rattle.pdu_codec.specs.declared.pdu.ContextResult.{ContextResult}

-- ---- the common header

-- the PTYPE of a body
abbrev pub kind_of : Body → ℕ
kind_of (Request b) = request_type
kind_of (Response b) = response_type
kind_of (Fault b) = fault_type
kind_of (Bind b) = bind_type
kind_of (BindAck b) = bind_ack_type
kind_of (BindNak b) = bind_nak_type
kind_of (Alter b) = alter_context_type
kind_of (AlterResp b) = alter_context_resp_type
kind_of Shutdown = shutdown_type
kind_of CoCancel = co_cancel_type
kind_of Orphaned = orphaned_type

-- the first octet of a data representation with ASCII characters
abbrev pub drep_octet : Order → ℕ
drep_octet Big = 0
drep_octet Little = 16

abbrev pub zeros_3 : List ℕ
zeros_3 = 0 ∷ 0 ∷ 0 ∷ []

-- the octets of a header with no authentication data, given the three octets after the first of its
-- data representation
unfoldable pub head_octets : ℕ → List ℕ → Head → List ℕ
head_octets minor drep h =
    major_version ∷ minor ∷ h.kind ∷ h.flags ∷ drep_octet h.order ∷ (drep ++ (u16_octets h.order h.length ++ (u16_octets h.order 0 ++ u32_octets h.order h.call_id)))

-- ---- bodies: each with its reserved octets, and with what may follow its last field, as arguments

-- whether the flag OBJECT_UUID is set
abbrev pub has_object : ℕ → Bool
has_object flags = not (bit_and flags object_uuid_flag == 0)

abbrev pub object_octets : Order → Option (List ℕ) → List ℕ
object_octets order None = []
object_octets order (Some id) = uuid_octets order id

unfoldable pub request_octets : Order → RequestBody → List ℕ
request_octets order b =
    u32_octets order b.alloc_hint ++ u16_octets order b.context ++ u16_octets order b.op ++ object_octets order b.object ++ b.stub

unfoldable pub response_octets : Order → ℕ → ResponseBody → List ℕ
response_octets order reserved b = u32_octets order b.alloc_hint ++ u16_octets order b.context ++ b.cancel_count ∷ reserved ∷ b.stub

unfoldable pub fault_octets : Order → ℕ → List ℕ → FaultBody → List ℕ
fault_octets order reserved rest b =
    u32_octets order b.alloc_hint ++ u16_octets order b.context ++ b.cancel_count ∷ reserved ∷ (u32_octets order b.status.0 ++ rest)

-- what a bind and its answer begin with: the two maxima and the group
abbrev pub maxima_octets : Order → ℕ → ℕ → ℕ → List ℕ → List ℕ
maxima_octets order max_xmit max_recv group rest = u16_octets order max_xmit ++ u16_octets order max_recv ++ u32_octets order group ++ rest

abbrev pub syntaxes_octets : Order → List SyntaxId → List ℕ
syntaxes_octets order syntaxes = flat_map (syntax_octets order) syntaxes

-- the context, the number of transfer syntaxes, a reserved octet, the abstract syntax, the transfer syntaxes
unfoldable pub element_octets : Order → ℕ → Element → List ℕ
element_octets order reserved e =
    u16_octets order e.context ++ length e.transfers ∷ reserved ∷ (syntax_octets order e.syntax ++ syntaxes_octets order e.transfers)

unfoldable pub bind_octets : Order → List ℕ → List ℕ → List ℕ → BindBody → List ℕ
bind_octets order reserved elements rest b =
    maxima_octets order b.max_xmit b.max_recv b.group (length b.elements ∷ (reserved ++ elements ++ rest))

-- how many octets lie between an index and the next multiple of four
abbrev pub gap : ℕ → ℕ
gap i = (4 - i % 4) % 4

unfoldable pub result_octets : Order → ContextResult → List ℕ
result_octets order r = u16_octets order r.result ++ u16_octets order r.reason ++ syntax_octets order r.transfer

abbrev pub results_octets : Order → List ContextResult → List ℕ
results_octets order results = flat_map (result_octets order) results

unfoldable pub bind_ack_octets : Order → List ℕ → List ℕ → List ℕ → BindAckBody → List ℕ
bind_ack_octets order padding reserved rest b =
    maxima_octets order b.max_xmit b.max_recv b.group
    (u16_octets order (length b.address) ++ b.address ++ padding ++ length b.results ∷ (reserved ++ results_octets order b.results ++ rest))

-- an alter_context has the fields of a bind, and its answer those of a bind_ack
abbrev pub as_bind : AlterBody → BindBody
as_bind b = record { max_xmit = b.max_xmit; max_recv = b.max_recv; group = b.group; elements = b.elements }

abbrev pub as_bind_ack : AlterRespBody → BindAckBody
as_bind_ack b = record { max_xmit = b.max_xmit; max_recv = b.max_recv; group = b.group; address = b.address; results = b.results }

abbrev pub version_octets : Version → List ℕ
version_octets v = v.major ∷ v.minor ∷ []

abbrev pub versions_octets : List Version → List ℕ
versions_octets versions = flat_map version_octets versions

unfoldable pub bind_nak_octets : Order → List ℕ → BindNakBody → List ℕ
bind_nak_octets order rest b = u16_octets order b.reason ++ length b.versions ∷ (versions_octets b.versions ++ rest)

-- ---- what spells what

-- an element, whatever its reserved octet
pub record IsElement (order : Order) (e : Element) (octets : List ℕ) : Type 0 where
  pub few : length e.transfers < 256
  pub reserved : ℕ
  pub whole : octets ≡ element_octets order reserved e

-- what spells items, one after the other
abbrev pub AreSpelled : {A : Type 0} → (A → List ℕ → Type 0) → List A → List ℕ → Type 0
AreSpelled Spells [] octets = octets ≡ []
AreSpelled Spells (x ∷ xs) octets = (first : List ℕ) × (others : List ℕ) × (octets ≡ first ++ others) × Spells x first × AreSpelled Spells xs others

-- An object UUID stands there exactly under its flag, and the stub goes to the end.
pub record IsRequest (order : Order) (flags : ℕ) (b : RequestBody) (octets : List ℕ) : Type 0 where
  pub object : is_some b.object ≡ has_object flags
  pub whole : octets ≡ request_octets order b

pub record IsResponse (order : Order) (b : ResponseBody) (octets : List ℕ) : Type 0 where
  pub reserved : ℕ
  pub whole : octets ≡ response_octets order reserved b

-- Four reserved octets follow the status, and then anything.
pub record IsFaultBody (order : Order) (b : FaultBody) (octets : List ℕ) : Type 0 where
  pub reserved : ℕ
  pub rest : List ℕ
  pub four : 4 ≤ length rest
  pub whole : octets ≡ fault_octets order reserved rest b

-- Three reserved octets follow the count. Anything may follow the elements.
pub record IsBind (order : Order) (b : BindBody) (octets : List ℕ) : Type 0 where
  pub few : length b.elements < 256
  pub reserved : List ℕ
  pub three : length reserved ≡ 3
  pub elements : List ℕ
  pub are : AreSpelled (IsElement order) b.elements elements
  pub rest : List ℕ
  pub whole : octets ≡ bind_octets order reserved elements rest b

-- The body begins at a multiple of four of the PDU. The address has ten octets before it, and the octets
-- to the next multiple of four after it. Three reserved octets follow the count, and anything the results.
pub record IsBindAck (order : Order) (b : BindAckBody) (octets : List ℕ) : Type 0 where
  pub short : length b.address < 2 ^ 16
  pub few : length b.results < 256
  pub padding : List ℕ
  pub aligned : length padding ≡ gap (10 + length b.address)
  pub reserved : List ℕ
  pub three : length reserved ≡ 3
  pub rest : List ℕ
  pub whole : octets ≡ bind_ack_octets order padding reserved rest b

-- Anything may follow the versions.
pub record IsBindNak (order : Order) (b : BindNakBody) (octets : List ℕ) : Type 0 where
  pub few : length b.versions < 256
  pub rest : List ℕ
  pub whole : octets ≡ bind_nak_octets order rest b

-- A shutdown, a co_cancel and an orphaned have no fields: anything is their body.
abbrev pub IsBody : Order → ℕ → Body → List ℕ → Type 0
IsBody order flags (Request b) octets = IsRequest order flags b octets
IsBody order flags (Response b) octets = IsResponse order b octets
IsBody order flags (Fault b) octets = IsFaultBody order b octets
IsBody order flags (Bind b) octets = IsBind order b octets
IsBody order flags (BindAck b) octets = IsBindAck order b octets
IsBody order flags (BindNak b) octets = IsBindNak order b octets
IsBody order flags (Alter b) octets = IsBind order (as_bind b) octets
IsBody order flags (AlterResp b) octets = IsBindAck order (as_bind_ack b) octets
IsBody order flags Shutdown octets = ⊤
IsBody order flags CoCancel octets = ⊤
IsBody order flags Orphaned octets = ⊤

-- ---- what the types of the fields hold: a stub, an address and a UUID are octets where a PDU's octets are

pub record FitsRequest (b : RequestBody) : Type 0 where
  pub alloc_hint : b.alloc_hint < 2 ^ 32
  pub context : b.context < 2 ^ 16
  pub op : b.op < 2 ^ 16
  pub object : IfSome b.object (λ id. length id ≡ 16)

pub record FitsResponse (b : ResponseBody) : Type 0 where
  pub alloc_hint : b.alloc_hint < 2 ^ 32
  pub context : b.context < 2 ^ 16
  pub cancel_count : b.cancel_count < 2 ^ 8

pub record FitsFaultBody (b : FaultBody) : Type 0 where
  pub alloc_hint : b.alloc_hint < 2 ^ 32
  pub context : b.context < 2 ^ 16
  pub cancel_count : b.cancel_count < 2 ^ 8
  pub status : b.status.0 < 2 ^ 32

pub record FitsElement (e : Element) : Type 0 where
  pub context : e.context < 2 ^ 16
  pub syntax : FitsSyntax e.syntax
  pub transfers : AllByRecursion FitsSyntax e.transfers

pub record FitsBind (b : BindBody) : Type 0 where
  pub max_xmit : b.max_xmit < 2 ^ 16
  pub max_recv : b.max_recv < 2 ^ 16
  pub group : b.group < 2 ^ 32
  pub elements : AllByRecursion FitsElement b.elements

pub record FitsResult (r : ContextResult) : Type 0 where
  pub result : r.result < 2 ^ 16
  pub reason : r.reason < 2 ^ 16
  pub transfer : FitsSyntax r.transfer

pub record FitsBindAck (b : BindAckBody) : Type 0 where
  pub max_xmit : b.max_xmit < 2 ^ 16
  pub max_recv : b.max_recv < 2 ^ 16
  pub group : b.group < 2 ^ 32
  pub results : AllByRecursion FitsResult b.results

pub record FitsVersion (v : Version) : Type 0 where
  pub major : v.major < 2 ^ 8
  pub minor : v.minor < 2 ^ 8

pub record FitsBindNak (b : BindNakBody) : Type 0 where
  pub reason : b.reason < 2 ^ 16
  pub versions : AllByRecursion FitsVersion b.versions

abbrev pub FitsBody : Body → Type 0
FitsBody (Request b) = FitsRequest b
FitsBody (Response b) = FitsResponse b
FitsBody (Fault b) = FitsFaultBody b
FitsBody (Bind b) = FitsBind b
FitsBody (BindAck b) = FitsBindAck b
FitsBody (BindNak b) = FitsBindNak b
FitsBody (Alter b) = FitsBind (as_bind b)
FitsBody (AlterResp b) = FitsBindAck (as_bind_ack b)
FitsBody Shutdown = ⊤
FitsBody CoCancel = ⊤
FitsBody Orphaned = ⊤

pub record FitsPdu (p : Pdu) : Type 0 where
  pub flags : p.flags < 2 ^ 8
  pub call_id : p.call_id < 2 ^ 32
  pub body : FitsBody p.body

-- ---- PDUs

-- the header of a PDU that has so many octets
abbrev pub head_of : Pdu → ℕ → Head
head_of p size = record { kind = kind_of p.body; flags = p.flags; order = p.order; length = size; call_id = p.call_id }

-- The octets spell the PDU.
pub record IsPdu (p : Pdu) (octets : List ℕ) : Type 0 where
  pub fits : FitsPdu p
  pub minor : p.minor ≤ most_minor
  pub drep : List ℕ
  pub three : length drep ≡ 3
  pub size : length octets < 2 ^ 16
  pub body : List ℕ
  pub is_body : IsBody p.order p.flags p.body body
  pub whole : octets ≡ head_octets p.minor drep (head_of p (length octets)) ++ body

-- the bodies of a bind and of its answer with zero reserved octets and nothing after the last field
abbrev pub written_bind : Order → BindBody → List ℕ
written_bind order b = bind_octets order zeros_3 (flat_map (element_octets order 0) b.elements) [] b

abbrev pub written_bind_ack : Order → BindAckBody → List ℕ
written_bind_ack order b = bind_ack_octets order (replicate (gap (10 + length b.address)) 0) zeros_3 [] b

abbrev pub acked_octets : Order → ℕ → ℕ → ℕ → List ℕ → List ContextResult → List ℕ
acked_octets order max_xmit max_recv group address results =
    written_bind_ack order (record { max_xmit = max_xmit; max_recv = max_recv; group = group; address = address; results = results })

-- the body with zero reserved octets and nothing after its last field
abbrev pub body_octets : Order → Body → List ℕ
body_octets order (Request b) = request_octets order b
body_octets order (Response b) = response_octets order 0 b
body_octets order (Fault b) = fault_octets order 0 (0 ∷ zeros_3) b
body_octets order (Bind b) = written_bind order b
body_octets order (BindAck b) = written_bind_ack order b
body_octets order (BindNak b) = bind_nak_octets order [] b
body_octets order (Alter b) = written_bind order (as_bind b)
body_octets order (AlterResp b) = written_bind_ack order (as_bind_ack b)
body_octets order Shutdown = []
body_octets order CoCancel = []
body_octets order Orphaned = []

-- the spelling that is written
unfoldable pub pdu_octets : Pdu → List ℕ
pdu_octets p =
    let body = body_octets p.order p.body in
    head_octets p.minor zeros_3 (head_of p (header_size + length body)) ++ body

-- the lists of a bind and of its answer have at most as many items as their counts tell
abbrev pub HasCounts : BindBody → Type 0
HasCounts b = (length b.elements < 256) × AllByRecursion (λ e. length e.transfers < 256) b.elements

abbrev pub HasAckCounts : BindAckBody → Type 0
HasAckCounts b = (length b.address < 2 ^ 16) × (length b.results < 256)

-- what a body must be to have a spelling, beside what the types of its fields hold
abbrev pub HasSpelling : ℕ → Body → Type 0
HasSpelling flags (Request b) = is_some b.object ≡ has_object flags
HasSpelling flags (Response b) = ⊤
HasSpelling flags (Fault b) = ⊤
HasSpelling flags (Bind b) = HasCounts b
HasSpelling flags (BindAck b) = HasAckCounts b
HasSpelling flags (BindNak b) = length b.versions < 256
HasSpelling flags (Alter b) = HasCounts (as_bind b)
HasSpelling flags (AlterResp b) = HasAckCounts (as_bind_ack b)
HasSpelling flags Shutdown = ⊤
HasSpelling flags CoCancel = ⊤
HasSpelling flags Orphaned = ⊤

-- The PDU has a spelling, and the one that is written has at most 65,535 octets.
pub record IsWritable (p : Pdu) : Type 0 where
  pub minor : p.minor ≤ most_minor
  pub body : HasSpelling p.flags p.body
  pub size : length (pdu_octets p) < 2 ^ 16
