-- Identifiers and pointers as values.
use Rattle.std.specs.Prelude.{ℕ, zero, suc, List, take, drop, Some}
use Rattle.std.specs.Int.{w16, w32, from_be_bytes}
use Rattle.rpc_base.specs.declared.identifiers.SyntaxId.{SyntaxId}
use Rattle.ndr_value.specs.Values.{Val, VUint, VStruct, VArray, VFull, Vals, no_val, then_val, bytes}

-- a UUID: its first three fields as numbers, and its last eight octets
abbrev pub uuid_value : List ℕ → Val
uuid_value id = VStruct
    (then_val (VUint (from_be_bytes w32 (take 4 id)))
    (then_val (VUint (from_be_bytes w16 (take 2 (drop 4 id))))
    (then_val (VUint (from_be_bytes w16 (take 2 (drop 6 id))))
    (then_val (VArray (bytes (drop 8 id))) no_val))))

-- the identifier of an interface: a UUID, and the two numbers of its version
abbrev pub syntax_value : SyntaxId → Val
syntax_value s = VStruct (then_val (uuid_value s.id) (then_val (VUint s.major) (then_val (VUint s.minor) no_val)))

-- full pointers to so many items of the heap, from that number on
abbrev pub pointers : ℕ → ℕ → Vals
pointers n zero = no_val
pointers n (suc count) = then_val (VFull (Some n)) (pointers (suc n) count)
