-- A value without where its parts lie in memory. Two values that are equal so are the same in every item.
use Rattle.std.specs.Prelude.{ℕ, suc, ℤ, Bool, List, [], ◌∷◌, Option}
use Rattle.rpc_base.specs.declared.identifiers.WireHandle.{WireHandle}
use Rattle.ndr_value.specs.declared.value.Value.{Value, Row_of-Value, end_of-Value, more_of-Value, Held-Value-Union-1, None', Some'}
use Rattle.ndr_value.specs.declared.value.Value.TheVariants as values
use Rattle.ndr_value.specs.declared.value.Message.{Message}

mutual
  pub data Val : Type 0 where
    VBool : Bool → Val
    VByte : ℕ → Val
    VChar : ℕ → Val
    VInt : ℤ → Val
    VUint : ℕ → Val
    VEnum : ℕ → Val
    VStruct : Vals → Val
    -- a union's tag, and the arm's value where the arm isn't empty
    VEmpty : ℤ → Val
    VUnion : ℤ → Val → Val
    VArray : Vals → Val
    VText : List ℕ → Val
    VNull : Val
    VPtr : Val → Val
    VFull : Option ℕ → Val
    VHandle : ℕ → Val

  pub data Vals : Type 0 where
    no_val : Vals
    then_val : Val → Vals → Vals

-- octets, each a Byte
abbrev pub bytes : List ℕ → Vals
bytes [] = no_val
bytes (n ∷ ns) = then_val (VByte n) (bytes ns)

abbrev mutual
  pub val : Value → Val
  val (values.Bool b) = VBool b
  val (values.Byte n) = VByte n
  val (values.Char n) = VChar n
  val (values.Int z) = VInt z
  val (values.Uint n) = VUint n
  val (values.Enum n) = VEnum n
  val (values.Struct' _ row) = VStruct (row_vals row)
  val (values.Union' tag arm) = in_union tag arm
  val (values.Array' _ row) = VArray (row_vals row)
  val (values.Octets octets) = VArray (bytes octets)
  val (values.Text octets) = VText octets
  val (values.Ptr' held) = pointed held
  val (values.Full n) = VFull n
  val (values.Handle slot) = VHandle slot

  pub row_vals : {n : _} → Row_of-Value n → Vals
  row_vals end_of-Value = no_val
  row_vals (more_of-Value v rest) = then_val (val v) (row_vals rest)

  pub in_union : ℤ → Held-Value-Union-1 → Val
  in_union tag None' = VEmpty tag
  in_union tag (Some' _ v) = VUnion tag (val v)

  pub pointed : Held-Value-Union-1 → Val
  pointed None' = VNull
  pointed (Some' _ v) = VPtr (val v)

abbrev pub vals : List Value → Vals
vals [] = no_val
vals (v ∷ vs) = then_val (val v) (vals vs)

-- how many there are
abbrev pub count_of : Vals → ℕ
count_of no_val = 0
count_of (then_val v vs) = suc (count_of vs)

-- a message: the values of the parameters, the heap that full pointers name, and the handles
pub record Msg : Type 0 where
  pub values : Vals
  pub heap : Vals
  pub wires : List WireHandle

abbrev pub msg : Message → Msg
msg m = record { values = vals m.values.items; heap = vals m.heap.items; wires = m.wires }
