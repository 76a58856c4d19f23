-- The test whether two values are the same, item by item.
use Rattle.std.specs.Prelude.{Bool, true, false, ◌&&◌, ◌==◌, bytes_eq, List, [], ◌∷◌}
use Rattle.std.specs.Ordering.{int_eq}
use Rattle.rpc_base.specs.declared.identifiers.WireHandle.{WireHandle}
use Rattle.ndr_value.specs.Values.{Val, VBool, VByte, VChar, VInt, VUint, VEnum, VStruct, VEmpty, VUnion, VArray, VText, VNull, VPtr, VFull, VHandle, Vals, no_val, then_val, Msg}
use Rattle.ndr_model.specs.Same.{same_bool, same_size}

abbrev mutual
  pub same : Val → Val → Bool
  same (VBool a) (VBool b) = same_bool a b
  same (VByte a) (VByte b) = a == b
  same (VChar a) (VChar b) = a == b
  same (VInt a) (VInt b) = int_eq a b
  same (VUint a) (VUint b) = a == b
  same (VEnum a) (VEnum b) = a == b
  same (VStruct vs) (VStruct ws) = same_each vs ws
  same (VEmpty a) (VEmpty b) = int_eq a b
  same (VUnion a v) (VUnion b w) = int_eq a b && same v w
  same (VArray vs) (VArray ws) = same_each vs ws
  same (VText a) (VText b) = bytes_eq a b
  same VNull VNull = true
  same (VPtr v) (VPtr w) = same v w
  same (VFull a) (VFull b) = same_size a b
  same (VHandle a) (VHandle b) = a == b
  same _ _ = false

  pub same_each : Vals → Vals → Bool
  same_each no_val no_val = true
  same_each (then_val v vs) (then_val w ws) = same v w && same_each vs ws
  same_each _ _ = false

abbrev pub same_wire : WireHandle → WireHandle → Bool
same_wire a b = (a.attributes == b.attributes) && (a.id == b.id)

abbrev pub same_wires : List WireHandle → List WireHandle → Bool
same_wires [] [] = true
same_wires (a ∷ as') (b ∷ bs) = same_wire a b && same_wires as' bs
same_wires _ _ = false

abbrev pub same_msg : Msg → Msg → Bool
same_msg m n = same_each m.values n.values && same_each m.heap n.heap && same_wires m.wires n.wires
