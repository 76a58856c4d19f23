-- Where octets depart from the encoding of a tower.
use Rattle.std.specs.Prelude.{◌≡◌, ℕ, ◌+◌, nat_lt, if◌then◌else◌, Option, Some, None, List, [], ◌∷◌, length, take, drop}
use Rattle.std.specs.Str.{bytes_eq}
use Rattle.rpc_base.specs.declared.identifiers.Order.TheVariants.{Little}
use Rattle.rpc_base.specs.Fields.{u16_octets}
use Rattle.tower_codec.specs.Towers.{uuid_protocol, rpc_protocol, tcp_protocol, ip_protocol}
use Rattle.tower_codec.specs.declared.fault.TowerFault.{TowerFault}
use Rattle.tower_codec.specs.declared.fault.TowerFault.TheVariants.{Short, Floors, FloorKind, Trailing}

-- a field of the encoding: octets that stand in every tower, with the fault of others, or so many that are free
pub data Field : Type 0 where
  Fixed : List ℕ → TowerFault → Field
  Free : ℕ → Field

-- the fields of a floor of that number and protocol with so many octets of data on its sides, and those after it
abbrev pub floor_fields : ℕ → ℕ → ℕ → ℕ → List Field → List Field
floor_fields number protocol left right behind =
    Fixed (u16_octets Little (left + 1)) (FloorKind number)
    ∷ Fixed (protocol ∷ []) (FloorKind number)
    ∷ Free left
    ∷ Fixed (u16_octets Little right) (FloorKind number)
    ∷ Free right
    ∷ behind

-- the fields from a floor on
abbrev pub fields_5 : List Field
fields_5 = floor_fields 5 ip_protocol 0 4 []

abbrev pub fields_4 : List Field
fields_4 = floor_fields 4 tcp_protocol 0 2 fields_5

abbrev pub fields_3 : List Field
fields_3 = floor_fields 3 rpc_protocol 0 2 fields_4

abbrev pub fields_2 : List Field
fields_2 = floor_fields 2 uuid_protocol 18 2 fields_3

abbrev pub fields_1 : List Field
fields_1 = floor_fields 1 uuid_protocol 18 2 fields_2

-- all of them: five floors after their count
abbrev pub tower_fields : List Field
tower_fields = Fixed (u16_octets Little 5) Floors ∷ fields_1

-- the fault at the first field from which the octets depart
unfoldable pub departs : List Field → List ℕ → Option TowerFault
departs [] [] = None
departs [] (x ∷ octets) = Some Trailing
departs (Fixed wanted fault ∷ fields) octets =
    if nat_lt (length octets) (length wanted) then Some Short
    else (if bytes_eq (take (length wanted) octets) wanted then departs fields (drop (length wanted) octets) else Some fault)
departs (Free size ∷ fields) octets = if nat_lt (length octets) size then Some Short else departs fields (drop size octets)

abbrev pub departure : List ℕ → Option TowerFault
departure octets = departs tower_fields octets

-- whatever fields come after, octets that were to begin with those depart with that fault
abbrev pub StopsFixed : List ℕ → TowerFault → List ℕ → TowerFault → Type 0
StopsFixed wanted fault octets found = (behind : List Field) → departs (Fixed wanted fault ∷ behind) octets ≡ Some found

abbrev pub StopsFloor : ℕ → ℕ → ℕ → ℕ → List ℕ → TowerFault → Type 0
StopsFloor number protocol left right octets found = (behind : List Field) → departs (floor_fields number protocol left right behind) octets ≡ Some found

abbrev pub StopsFree : ℕ → List ℕ → TowerFault → Type 0
StopsFree size octets found = (behind : List Field) → departs (Free size ∷ behind) octets ≡ Some found
