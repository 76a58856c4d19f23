-- Towers as octets (C706, "Protocol Tower Encoding").
use Rattle.std.specs.Prelude.{◌≡◌, ℕ, ◌+◌, ◌^◌, ◌<◌, List, [], ◌∷◌, ◌++◌, length}
use Rattle.rpc_base.specs.declared.identifiers.Order.TheVariants.{Big, Little}
use Rattle.rpc_base.specs.declared.identifiers.SyntaxId.{SyntaxId}
use Rattle.rpc_base.specs.Fields.{FitsSyntax, uuid_octets, u16_octets}
use Rattle.tower_codec.specs.declared.tower.Tower.{Tower}

-- the protocol identifiers: a UUID with its version, connection-oriented RPC, a TCP port, an IP address
abbrev pub uuid_protocol : ℕ
uuid_protocol = 13

abbrev pub rpc_protocol : ℕ
rpc_protocol = 11

abbrev pub tcp_protocol : ℕ
tcp_protocol = 7

abbrev pub ip_protocol : ℕ
ip_protocol = 9

-- A floor: on the left the protocol identifier and its data, on the right the related data, each side with its length in front.
abbrev pub floor : ℕ → List ℕ → List ℕ → List ℕ
floor protocol left right = u16_octets Little (length left + 1) ++ ((protocol ∷ left) ++ (u16_octets Little (length right) ++ right))

-- the floor of an interface or of a transfer syntax: the UUID and the major version on the left, the minor version on the right
abbrev pub syntax_floor : SyntaxId → List ℕ
syntax_floor syntax = floor uuid_protocol (uuid_octets Little syntax.id ++ u16_octets Little syntax.major) (u16_octets Little syntax.minor)

-- the sides of a floor say that syntax
pub record IsSyntaxFloor (syntax : SyntaxId) (left right : List ℕ) : Type 0 where
  pub fits : FitsSyntax syntax
  pub left_is : left ≡ uuid_octets Little syntax.id ++ u16_octets Little syntax.major
  pub right_is : right ≡ u16_octets Little syntax.minor

-- five floors, after their count
unfoldable pub tower_octets : Tower → List ℕ
tower_octets tower =
    u16_octets Little 5
    ++ (syntax_floor tower.iface
    ++ (syntax_floor tower.transfer
    ++ (floor rpc_protocol [] (u16_octets Little tower.minor)
    ++ (floor tcp_protocol [] (u16_octets Big tower.port)
    ++ floor ip_protocol [] tower.ip))))

-- what the types of a tower's fields hold
pub record FitsTower (tower : Tower) : Type 0 where
  pub iface : FitsSyntax tower.iface
  pub transfer : FitsSyntax tower.transfer
  pub minor : tower.minor < 2 ^ 16
  pub port : tower.port < 2 ^ 16
  pub ip : length tower.ip ≡ 4

-- the octets spell the tower
pub record IsTower (tower : Tower) (octets : List ℕ) : Type 0 where
  pub fits : FitsTower tower
  pub spelled : octets ≡ tower_octets tower
