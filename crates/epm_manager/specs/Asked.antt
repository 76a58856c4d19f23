-- What a request asks for. These are defined for all values; each part of a request has a value of its shape.
use Rattle.std.specs.Prelude.{ℕ, ◌+◌, ◌%◌, ◌^◌, ◌==◌, Bool, ◌&&◌, List, [], ◌∷◌, ◌++◌, length, take, drop, Option, Some, None, unwrap_or, bytes_eq, if◌then◌else◌}
use Rattle.std.specs.Int.{w16, w32, to_be_bytes}
use Rattle.std.specs.declared.vec.Vec.{Vec}
use Rattle.std.specs.declared.alloc.Global.{Global}
use Rattle.uuid.specs.Parts.{zero_bytes}
use Rattle.rpc_base.specs.declared.identifiers.Order.TheVariants.{Big, Little}
use Rattle.rpc_base.specs.declared.identifiers.SyntaxId.{SyntaxId}
use Rattle.rpc_base.specs.Fields.{number_of, uuid_octets}
use Rattle.ndr_value.specs.Values.{Val, VStruct, VArray, VText, VFull, Vals, no_val, then_val, Msg}
use Rattle.tower_codec.specs.declared.tower.Tower.{Tower}
use Rattle.tower_codec.specs.Towers.{tower_octets}
use Rattle.manager_api.specs.Arguments.{value_at, uint_of, text_of, bytes_of, uint_at}
use Rattle.epm_manager.specs.declared.entry.MapEntry.{MapEntry}
use Rattle.epm_manager.specs.declared.wanted.Versions.{Versions}
use Rattle.epm_manager.specs.declared.wanted.Versions.TheVariants as versions
use Rattle.epm_manager.specs.declared.wanted.Wanted.{Wanted}
use Rattle.epm_manager.specs.declared.wanted.Wanted.TheVariants as wanted
use Rattle.epm_manager.specs.Entries.{is_note}

-- ---- towers: the one whose octets these are, if there is one

-- the interface or transfer syntax of a floor at an index
abbrev pub syntax_at : ℕ → List ℕ → SyntaxId
syntax_at i octets = record {
  id = uuid_octets Little (take 16 (drop (i + 3) octets));
  major = number_of Little w16 (take 2 (drop (i + 19) octets));
  minor = number_of Little w16 (take 2 (drop (i + 23) octets));
}

-- the fields at the places where each tower has them
abbrev pub tower_at : List ℕ → Tower
tower_at octets = record {
  iface = syntax_at 2 octets;
  transfer = syntax_at 27 octets;
  minor = number_of Little w16 (take 2 (drop 57 octets));
  port = number_of Big w16 (take 2 (drop 64 octets));
  ip = take 4 (drop 71 octets);
}

abbrev pub tower_of : List ℕ → Option Tower
tower_of octets = if (length octets == 75) && bytes_eq (tower_octets (tower_at octets)) octets then Some (tower_at octets) else None

-- ---- parts of values

-- the members of a structure, and the elements of an array
abbrev pub members_of : Val → Vals
members_of (VStruct vs) = vs
members_of _ = no_val

abbrev pub elements_of : Val → Vals
elements_of (VArray vs) = vs
elements_of _ = no_val

-- what a full pointer points to; an empty text where it is null
abbrev pub item_of : Val → Option ℕ
item_of (VFull n) = n
item_of _ = None

abbrev pub item_at : Vals → Option ℕ → Val
item_at heap None = VText []
item_at heap (Some n) = value_at heap n

abbrev pub pointed_to : Vals → Val → Val
pointed_to heap v = item_at heap (item_of v)

-- a UUID: numbers of 32, 16 and 16 bits, and eight octets
abbrev pub uuid_octets_of : Vals → List ℕ
uuid_octets_of vs = to_be_bytes w32 (uint_of (value_at vs 0)) ++ (to_be_bytes w16 (uint_of (value_at vs 1)) ++ (to_be_bytes w16 (uint_of (value_at vs 2)) ++ bytes_of (value_at vs 3)))

abbrev pub if_uuid : List ℕ → Option (List ℕ)
if_uuid octets = if length octets == 16 then Some octets else None

abbrev pub uuid_of : Val → Option (List ℕ)
uuid_of v = if_uuid (uuid_octets_of (members_of v))

-- an interface: a UUID, and the two numbers of its version
abbrev pub with_version : Vals → Option (List ℕ) → Option SyntaxId
with_version vs None = None
with_version vs (Some id) = Some (record { id = id; major = uint_of (value_at vs 1) % 2 ^ 16; minor = uint_of (value_at vs 2) % 2 ^ 16 })

abbrev pub interface_of : Val → Option SyntaxId
interface_of v = with_version (members_of v) (uuid_of (value_at (members_of v) 0))

-- the tower in what a pointer points to: its length, and its octets
abbrev pub tower_in : Val → Option Tower
tower_in v = tower_of (bytes_of (value_at (members_of v) 1))

-- ---- entries of a request

-- an entry has a note, as each text of a request's entry is one
abbrev pub with_note : List ℕ → Tower → List ℕ → Option MapEntry
with_note object tower note = if is_note note then Some (record { object = object; tower = tower; note = note }) else None

abbrev pub entry_with : List ℕ → Option (List ℕ) → Option Tower → Option MapEntry
entry_with note (Some object) (Some tower) = with_note object tower note
entry_with note _ _ = None

-- an object, a pointer to a tower, and a note; none where the tower is null or unreadable
abbrev pub entry_of : Vals → Val → Option MapEntry
entry_of heap v = entry_with (text_of (value_at (members_of v) 2)) (uuid_of (value_at (members_of v) 0)) (tower_in (pointed_to heap (value_at (members_of v) 1)))

abbrev pub then_entry : Option MapEntry → Option (List MapEntry) → Option (List MapEntry)
then_entry (Some e) (Some es) = Some (e ∷ es)
then_entry _ _ = None

-- all of them, or none where one isn't any
abbrev pub entries_of : Vals → Vals → Option (List MapEntry)
entries_of heap no_val = Some []
entries_of heap (then_val v vs) = then_entry (entry_of heap v) (entries_of heap vs)

-- the list of a vector
abbrev pub listed : Option (Vec MapEntry Global) → Option (List MapEntry)
listed None = None
listed (Some v) = Some v.items

abbrev pub entries_at : Msg → Option (List MapEntry)
entries_at m = entries_of m.heap (elements_of (value_at m.values 1))

-- ---- what a lookup wants

abbrev pub versions_of : ℕ → Option Versions
versions_of n =
    if n == 1 then Some versions.All
    else (if n == 2 then Some versions.Compatible
    else (if n == 3 then Some versions.Exact
    else (if n == 4 then Some versions.SameMajor
    else (if n == 5 then Some versions.UpTo else None))))

abbrev pub by_interface : Option SyntaxId → Option Versions → Wanted
by_interface (Some asked) (Some which) = wanted.Interface asked which
by_interface _ _ = wanted.Nothing

abbrev pub by_object : Option (List ℕ) → Wanted
by_object (Some object) = wanted.Object object
by_object None = wanted.Nothing

abbrev pub by_both : Option SyntaxId → Option Versions → Option (List ℕ) → Wanted
by_both (Some asked) (Some which) (Some object) = wanted.Both asked which object
by_both _ _ _ = wanted.Nothing

abbrev pub inquiry : ℕ → Option (List ℕ) → Option SyntaxId → Option Versions → Wanted
inquiry n object asked which =
    if n == 0 then wanted.All
    else (if n == 1 then by_interface asked which
    else (if n == 2 then by_object object
    else (if n == 3 then by_both asked which object else wanted.Nothing)))

-- an inquiry's number, an object, an interface, and the number of its versions
abbrev pub lookup_wants : Msg → Wanted
lookup_wants m =
    inquiry (uint_at m 0) (uuid_of (pointed_to m.heap (value_at m.values 1))) (interface_of (pointed_to m.heap (value_at m.values 2))) (versions_of (uint_at m 3))

-- ---- what a mapping wants

abbrev pub leading : Option (List ℕ) → Option Tower → Wanted
leading object (Some tower) = wanted.Leading (unwrap_or object zero_bytes) tower
leading object None = wanted.Nothing

-- an object, the nil one where it is null, and a tower
abbrev pub map_wants : Msg → Wanted
map_wants m = leading (uuid_of (pointed_to m.heap (value_at m.values 0))) (tower_in (pointed_to m.heap (value_at m.values 1)))
