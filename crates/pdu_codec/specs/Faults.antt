-- Why octets are no PDU: the first of the tests of a PDU's octets that fails.
use Rattle.std.specs.Prelude.{◌≡◌, ◌≢◌, ℕ, ◌/◌, ◌<◌, ◌≤◌, ◌^◌, ◌==◌, ◌||◌, ◌&&◌, nat_le, Bool, true, false, List, ◌++◌, length, take, drop, slice_index, Option, Some, None, ◌⊎◌, ⊤, if◌then◌else◌}
use Rattle.std.specs.Int.{w16, w32}
use Rattle.rpc_base.specs.declared.identifiers.Order.{Order}
use Rattle.rpc_base.specs.declared.identifiers.Order.TheVariants.{Big, Little}
use Rattle.rpc_base.specs.Fields.{number_of, order_of}
use Rattle.pdu_codec.specs.Constants.{request_type, response_type, fault_type, bind_type, alter_context_resp_type, shutdown_type, orphaned_type, major_version, most_minor, header_size}
use Rattle.pdu_codec.specs.declared.pdu.Head.{Head}
use Rattle.pdu_codec.specs.declared.pdu.RawHead.{RawHead}
use Rattle.pdu_codec.specs.declared.pdu.Body.{Body}
use Rattle.pdu_codec.specs.declared.fault.PduFault.{PduFault}
use Rattle.pdu_codec.specs.declared.fault.PduFault.TheVariants as faults
use Rattle.pdu_codec.specs.Pdus.{kind_of, FitsBody, IsBody, head_octets}

-- ---- what a header's octets say

abbrev pub kind_at : List ℕ → ℕ
kind_at octets = slice_index octets 2

abbrev pub flags_at : List ℕ → ℕ
flags_at octets = slice_index octets 3

-- The order of a header's lengths, as the high half of the first octet of its data representation names it:
-- 0 is big-endian, and anything else is read as little-endian.
abbrev pub length_order : ℕ → Order
length_order octet = if octet / 16 == 0 then Big else Little

abbrev pub frag_length : List ℕ → ℕ
frag_length octets = number_of (length_order (slice_index octets 4)) w16 (take 2 (drop 8 octets))

abbrev pub auth_length : List ℕ → ℕ
auth_length octets = number_of (length_order (slice_index octets 4)) w16 (take 2 (drop 10 octets))

-- ---- kinds of PDUs

-- the PTYPEs of the connection-oriented protocol
unfoldable pub is_known : ℕ → Bool
is_known kind =
    kind == request_type || kind == response_type || kind == fault_type
    || (nat_le bind_type kind && nat_le kind alter_context_resp_type) || (nat_le shutdown_type kind && nat_le kind orphaned_type)

-- ---- the tests of a header, each with those before it

-- `size` is the number of the PDU's octets where all of them are at hand.

abbrev pub PassesVersion : List ℕ → Type 0
PassesVersion octets = (slice_index octets 0 ≡ major_version) × (slice_index octets 1 ≤ most_minor)

abbrev pub PassesKind : List ℕ → Type 0
PassesKind octets = PassesVersion octets × (is_known (kind_at octets) ≡ true)

abbrev pub IsRightLength : Option ℕ → ℕ → Type 0
IsRightLength None n = header_size ≤ n
IsRightLength (Some size) n = (header_size ≤ n) × (n ≡ size)

abbrev pub IsWrongLength : Option ℕ → ℕ → Type 0
IsWrongLength None n = n < header_size
IsWrongLength (Some size) n = (n < header_size) ⊎ (n ≢ size)

abbrev pub PassesLength : Option ℕ → List ℕ → Type 0
PassesLength size octets = PassesKind octets × IsRightLength size (frag_length octets)

abbrev pub PassesAuth : Option ℕ → List ℕ → Type 0
PassesAuth size octets = PassesLength size octets × (auth_length octets ≡ 0)

-- The header has no fault, and its numbers are in the order.
abbrev pub PassesHead : Option ℕ → Order → List ℕ → Type 0
PassesHead size order octets = PassesAuth size octets × (order_of (slice_index octets 4) ≡ Some order)

-- The fault is the first one of a header.
abbrev pub IsHeadFault : Option ℕ → List ℕ → PduFault → Type 0
IsHeadFault size octets faults.Version = (slice_index octets 0 ≢ major_version) ⊎ (most_minor < slice_index octets 1)
IsHeadFault size octets faults.Kind = PassesVersion octets × (is_known (kind_at octets) ≡ false)
IsHeadFault size octets faults.Length = PassesKind octets × IsWrongLength size (frag_length octets)
IsHeadFault size octets faults.Auth = PassesLength size octets × (auth_length octets ≢ 0)
IsHeadFault size octets faults.Characters = PassesAuth size octets × (order_of (slice_index octets 4) ≡ None)
IsHeadFault size octets faults.Body = ⊥
IsHeadFault size octets faults.Memory = ⊥

-- what the fields of a header say, in the order
abbrev pub head_at : Order → List ℕ → Head
head_at order octets =
    record { kind = kind_at octets; flags = flags_at octets; order = order; length = frag_length octets; call_id = number_of order w32 (take 4 (drop 12 octets)) }

-- what a header says before any of it is tested, its numbers in the order of its lengths
abbrev pub raw_head_of : List ℕ → RawHead
raw_head_of octets =
    let order = length_order (slice_index octets 4) in
    record { kind = kind_at octets; order = order; call_id = number_of order w32 (take 4 (drop 12 octets)) }

-- The octets are a header that says this.
pub record IsHead (h : Head) (octets : List ℕ) : Type 0 where
  pub known : is_known h.kind ≡ true
  pub long : header_size ≤ h.length
  pub short : h.length < 2 ^ 16
  pub call_id : h.call_id < 2 ^ 32
  pub minor : ℕ
  pub below : minor ≤ most_minor
  pub drep : List ℕ
  pub three : length drep ≡ 3
  pub whole : octets ≡ head_octets minor drep h

-- ---- the first fault of a PDU

-- The octets spell a body of that PTYPE.
pub record Spells (order : Order) (flags kind : ℕ) (body : Body) (octets : List ℕ) : Type 0 where
  pub is_kind : kind_of body ≡ kind
  pub fits : FitsBody body
  pub is_body : IsBody order flags body octets

-- The octets end before the last field of a body of that PTYPE: with more octets after them they spell one,
-- alone they spell none.
pub record EndsEarly (order : Order) (flags kind : ℕ) (octets : List ℕ) : Type 0 where
  pub body : Body
  pub more : List ℕ
  pub goes_on : Spells order flags kind body (octets ++ more)
  pub alone : (other : Body) → Spells order flags kind other octets → ⊥

-- The fault is the first one of a header that stands in front of the octets, all of which are a PDU's.
abbrev pub IsFrontFault : List ℕ → PduFault → Type 0
IsFrontFault octets fault = (header_size ≤ length octets) × IsHeadFault (Some (length octets)) octets fault

-- The fault is the first one of the octets. Fewer than a header's are a `Length` before all else. Want of memory
-- has no cause in the octets.
abbrev pub IsFault : List ℕ → PduFault → Type 0
IsFault octets faults.Version = IsFrontFault octets faults.Version
IsFault octets faults.Kind = IsFrontFault octets faults.Kind
IsFault octets faults.Length = (length octets < header_size) ⊎ IsFrontFault octets faults.Length
IsFault octets faults.Auth = IsFrontFault octets faults.Auth
IsFault octets faults.Characters = IsFrontFault octets faults.Characters
IsFault octets faults.Body =
    (header_size ≤ length octets) × (order : Order) × PassesHead (Some (length octets)) order octets
    × EndsEarly order (flags_at octets) (kind_at octets) (drop header_size octets)
IsFault octets faults.Memory = ⊤
