-- Responses of the endpoint map.
use Rattle.std.specs.Prelude.{ℕ, ◌+◌, List, [], ◌∷◌, length, Some}
use Rattle.ndr_value.specs.Values.{Val, VUint, VStruct, VArray, VText, VFull, VHandle, Vals, no_val, then_val, bytes, count_of, Msg}
use Rattle.desk_kit.specs.MessageParts.{uuid_value}
use Rattle.tower_codec.specs.declared.tower.Tower.{Tower}
use Rattle.tower_codec.specs.Towers.{tower_octets}
use Rattle.manager_api.specs.Responses.{null_handle, response}
use Rattle.epm_manager.specs.declared.entry.Numbered.{Numbered}

-- a tower: the number of its octets, and these
abbrev pub octets_value : List ℕ → Val
octets_value octets = VStruct (then_val (VUint (length octets)) (then_val (VArray (bytes octets)) no_val))

abbrev pub tower_value : Tower → Val
tower_value tower = octets_value (tower_octets tower)

-- an entry, whose tower is the item of that number
abbrev pub entry_value : ℕ → Numbered → Val
entry_value n e = VStruct (then_val (uuid_value e.entry.object) (then_val (VFull (Some n)) (then_val (VText e.entry.note) no_val)))

-- the towers of the entries, as items of the heap
abbrev pub tower_values : List Numbered → Vals
tower_values [] = no_val
tower_values (e ∷ es) = then_val (tower_value e.entry.tower) (tower_values es)

-- the entries, the first of whose towers is the item of that number
abbrev pub entry_values : ℕ → List Numbered → Vals
entry_values n [] = no_val
entry_values n (e ∷ es) = then_val (entry_value n e) (entry_values (n + 1) es)

-- a handle, how many there are, these, and a status
abbrev pub listing : Vals → Vals → ℕ → Msg
listing items heap status = record {
  values = then_val (VHandle 0) (then_val (VUint (count_of items)) (then_val (VArray items) (then_val (VUint status) no_val)));
  heap = heap;
  wires = null_handle ∷ [];
}

-- a status alone
abbrev pub status_alone : ℕ → Msg
status_alone status = response (then_val (VUint status) no_val) 0
