-- The fields of PDUs and of stub data as octets, in either order of octets.
use Rattle.std.specs.Prelude.{ℕ, ◌+◌, ◌*◌, ◌/◌, ◌%◌, ◌^◌, ◌<◌, ◌==◌, ◌≡◌, List, ◌++◌, length, Option, Some, None, if◌then◌else◌, take, drop, slice_index}
use Rattle.std.specs.Int.{Width, w16, w32, w64, w128, to_be_bytes, to_le_bytes, from_be_bytes, from_le_bytes}
use Rattle.uuid.specs.Parts.{swap_fields}
use Rattle.rpc_base.specs.declared.identifiers.Order.{Order}
use Rattle.rpc_base.specs.declared.identifiers.Order.TheVariants.{Big, Little}
use Rattle.rpc_base.specs.declared.identifiers.SyntaxId.{SyntaxId}
use Rattle.rpc_base.specs.declared.identifiers.WireHandle.{WireHandle}

-- each is below 256 (there is a 0 past the end)
abbrev pub IsOctets : List ℕ → Type 0
IsOctets octets = (i : ℕ) → slice_index octets i < 256

-- The order that the first octet of a data representation names. Its low half names the characters, and
-- is 0 for ASCII. Its high half is 0 for big-endian numbers and 1 for little-endian ones.
abbrev pub order_of : ℕ → Option Order
order_of octet =
    if octet % 16 == 0
    then (if octet / 16 == 0 then Some Big else (if octet / 16 == 1 then Some Little else None))
    else None

-- the octets of a number of a width
unfoldable pub number_octets : Order → Width → ℕ → List ℕ
number_octets Big w n = to_be_bytes w n
number_octets Little w n = to_le_bytes w n

-- the number in as many octets as the width has
unfoldable pub number_of : Order → Width → List ℕ → ℕ
number_of Big w octets = from_be_bytes w octets
number_of Little w octets = from_le_bytes w octets

abbrev pub u16_octets : Order → ℕ → List ℕ
u16_octets order n = number_octets order w16 n

abbrev pub u32_octets : Order → ℕ → List ℕ
u32_octets order n = number_octets order w32 n

abbrev pub u64_octets : Order → ℕ → List ℕ
u64_octets order n = number_octets order w64 n

-- A UUID, and back from its octets: its first three fields are numbers in the order, the eight octets
-- behind them stand as they are.
unfoldable pub uuid_octets : Order → List ℕ → List ℕ
uuid_octets Big id = id
uuid_octets Little id = swap_fields id

-- what the types of a syntax's fields hold
pub record FitsSyntax (syntax : SyntaxId) : Type 0 where
  pub id : length syntax.id ≡ 16
  pub major : syntax.major < 2 ^ 16
  pub minor : syntax.minor < 2 ^ 16

-- the version word of a syntax: the major number in its low 16 bits, the minor number in its high 16
abbrev pub version_word : SyntaxId → ℕ
version_word syntax = syntax.minor * 2 ^ 16 + syntax.major

-- a presentation syntax identifier: the UUID and the version word
unfoldable pub syntax_octets : Order → SyntaxId → List ℕ
syntax_octets order syntax = uuid_octets order syntax.id ++ u32_octets order (version_word syntax)

-- the syntax in 20 octets
unfoldable pub syntax_of : Order → List ℕ → SyntaxId
syntax_of order octets =
    let word = number_of order w32 (drop 16 octets) in
    record { id = uuid_octets order (take 16 octets); major = word % 2 ^ 16; minor = word / 2 ^ 16 }

-- what the types of a context handle's fields hold
pub record FitsHandle (handle : WireHandle) : Type 0 where
  pub attributes : handle.attributes < 2 ^ 32
  pub id : handle.id < 2 ^ 128

-- a context handle: the attributes and the identifier as a UUID
unfoldable pub handle_octets : Order → WireHandle → List ℕ
handle_octets order handle = u32_octets order handle.attributes ++ uuid_octets order (to_be_bytes w128 handle.id)

-- the context handle in 20 octets
unfoldable pub wire_of : Order → List ℕ → WireHandle
wire_of order octets =
    record { attributes = number_of order w32 (take 4 octets); id = from_be_bytes w128 (uuid_octets order (drop 4 octets)) }
