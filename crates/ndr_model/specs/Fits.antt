-- Which messages are of an operation, by their values alone: each value suits its shape, counts and tags are those that are named, items
-- of the heap are numbered in the order in which pointers to them are met, and handles in the order in which they stand.
use Rattle.std.specs.Prelude.{◌≡◌, ℕ, suc, ◌+◌, ◌*◌, ◌^◌, ◌<◌, ◌≤◌, ℤ, pos, neg_ℤ, Bool, true, false, List, [], ◌∷◌, ◌++◌, length, slice_get, Option, Some, None}
use Rattle.rpc_base.specs.declared.identifiers.WireHandle.{WireHandle}
use Rattle.rpc_base.specs.Fields.{FitsHandle}
use Rattle.ndr_value.specs.declared.shape.Count.{Count}
use Rattle.ndr_value.specs.declared.shape.ArrayKind.{ArrayKind}
use Rattle.ndr_value.specs.declared.shape.ArrayKind.TheVariants.{Fixed, Varying, Conformant, ConformantVarying}
use Rattle.ndr_value.specs.Forms.{Form, OfBool, OfByte, OfChar, OfInt, OfUint, OfEnum, OfNamed, OfStruct, OfUnion, OfArray, OfText, OfRef, OfUnique, OfFull, OfHandle, Forms, no_form, then_form, ArmForms, empty, holds}
use Rattle.ndr_value.specs.Fits.{within, has_nul, arm_of}
use Rattle.ndr_value.specs.Values.{Val, VBool, VByte, VChar, VInt, VUint, VEnum, VStruct, VEmpty, VUnion, VArray, VText, VNull, VPtr, VFull, VHandle, Vals, no_val, then_val, count_of, Msg}
use Rattle.ndr_table.specs.declared.operation.Bounds.{Bounds}
use Rattle.ndr_table.specs.Tables.{OpForm}
use Rattle.ndr_scalars.specs.Scalars.{octets_of}
use Rattle.ndr_model.specs.declared.way.Way.{Way}
use Rattle.ndr_model.specs.Same.{IsSame}
use Rattle.ndr_model.specs.Stub.{Entry, entries}
use Rattle.ndr_model.specs.Named.{Call, nth, named}
use Rattle.ndr_model.specs.Agree.{IsTied, IsWithin}
use Rattle.ndr_model.specs.Pieces.{half}
use Rattle.ndr_model.specs.Written.{call_of}

-- ---- numbers, texts, counts

-- so many octets hold the number
abbrev pub Holds : ℕ → ℕ → Type 0
Holds size n = n < 2 ^ (8 * octets_of size)

-- the same for a signed number, in two's complement
abbrev pub HoldsInt : ℕ → ℤ → Type 0
HoldsInt size z = within (neg_ℤ (pos (half size))) (pos (half size)) z ≡ true

pub data HoldsTag : Form → ℤ → Type 0 where
  tag_bool : {n : ℕ} → n < 2 → HoldsTag OfBool (pos n)
  tag_char : {n : ℕ} → Holds 1 n → HoldsTag OfChar (pos n)
  tag_int : {size : ℕ} {z : ℤ} → HoldsInt size z → HoldsTag (OfInt size) z
  tag_uint : {size n : ℕ} → Holds size n → n < 2 ^ 63 → HoldsTag (OfUint size) (pos n)
  tag_enum : {count n : ℕ} → Holds 2 n → n < count → HoldsTag (OfEnum count) (pos n)

-- a text without NUL that goes with its NUL into its array, where that has a size
pub record SuitsText (size : Option ℕ) (text : List ℕ) : Type 0 where
  pub small : length text + 1 < 2 ^ 32
  pub room : (m : ℕ) → size ≡ Some m → length text + 1 ≤ m
  pub no_nul : has_nul text ≡ false

-- an array of so many elements, in a body of those members
pub data SuitsCounts (call : Call) (body : Vals) : ArrayKind → ℕ → Type 0 where
  counts_fixed : {n : ℕ} → SuitsCounts call body (Fixed n) n
  counts_varying : {n m : ℕ} {c : Count} → m < 2 ^ 32 → m ≤ n → named call body c ≡ Some (pos m) → SuitsCounts call body (Varying n c) m
  counts_conformant : {m : ℕ} {c : Count} → m < 2 ^ 32 → named call body c ≡ Some (pos m) → SuitsCounts call body (Conformant c) m
  counts_both : {most m : ℕ} {c d : Count} → most < 2 ^ 32 → m ≤ most → named call body c ≡ Some (pos most) → named call body d ≡ Some (pos m)
      → SuitsCounts call body (ConformantVarying c d) m

-- ---- values

-- what was seen before a place: the shapes of the heap's items, by number, and the handles
pub record Seen : Type 0 where
  pub shapes : List Form
  pub wires : List WireHandle

abbrev pub with_item : Seen → Form → Seen
with_item p s = record { shapes = p.shapes ++ s ∷ []; wires = p.wires }

abbrev pub with_wire : Seen → WireHandle → Seen
with_wire p w = record { shapes = p.shapes; wires = p.wires ++ w ∷ [] }

mutual
  -- Suits room body link s v p p' q q': the value suits the shape in a body of those members, where so many levels are left below it and
  -- link names its tag. What is seen before and behind its flat part is p and p', and before and behind its referents q and q'
  pub data Suits (types : List Form) (call : Call) : ℕ → Vals → Option Count → Form → Val → Seen → Seen → Seen → Seen → Type 0 where
    suits_bool : {room : ℕ} {body : Vals} {link : Option Count} {b : Bool} {p q : Seen} → Suits types call room body link OfBool (VBool b) p p q q
    suits_byte : {room n : ℕ} {body : Vals} {link : Option Count} {p q : Seen} → Holds 1 n → Suits types call room body link OfByte (VByte n) p p q q
    suits_char : {room n : ℕ} {body : Vals} {link : Option Count} {p q : Seen} → Holds 1 n → Suits types call room body link OfChar (VChar n) p p q q
    suits_int : {room size : ℕ} {body : Vals} {link : Option Count} {z : ℤ} {p q : Seen} → HoldsInt size z → Suits types call room body link (OfInt size) (VInt z) p p q q
    suits_uint : {room size n : ℕ} {body : Vals} {link : Option Count} {p q : Seen} → Holds size n → Suits types call room body link (OfUint size) (VUint n) p p q q
    suits_enum : {room count n : ℕ} {body : Vals} {link : Option Count} {p q : Seen} → Holds 2 n → n < count → Suits types call room body link (OfEnum count) (VEnum n) p p q q
    -- handles are numbered in the order in which they stand
    suits_handle : {room kind : ℕ} {body : Vals} {link : Option Count} {w : WireHandle} {p q : Seen} → FitsHandle w
        → Suits types call room body link (OfHandle kind) (VHandle (length p.wires)) p (with_wire p w) q q
    suits_text : {room : ℕ} {body : Vals} {link : Option Count} {size : Option ℕ} {text : List ℕ} {p q : Seen} → SuitsText size text
        → Suits types call room body link (OfText size) (VText text) p p q q
    suits_name : {room c : ℕ} {body : Vals} {link switch : Option Count} {s : Form} {v : Val} {p p' q q' : Seen} → slice_get types c ≡ Some s
        → Suits types call room body switch s v p p' q q' → Suits types call room body link (OfNamed c switch) v p p' q q'
    suits_struct : {room : ℕ} {body : Vals} {link : Option Count} {ss : Forms} {vs : Vals} {p p' q q' : Seen} → SuitEach types call room vs ss vs p p' q q'
        → Suits types call room body link (OfStruct ss) (VStruct vs) p p' q q'
    suits_empty_arm : {room : ℕ} {body : Vals} {link : Option Count} {t : Form} {arms : ArmForms} {tag : ℤ} {p q : Seen} → HoldsTag t tag → IsTied call body link tag
        → arm_of (OfUnion t arms) tag ≡ Some empty → Suits types call room body link (OfUnion t arms) (VEmpty tag) p p q q
    -- nothing stands beside an arm
    suits_arm : {room : ℕ} {body : Vals} {link : Option Count} {t s : Form} {arms : ArmForms} {tag : ℤ} {v : Val} {p p' q q' : Seen} → HoldsTag t tag → IsTied call body link tag
        → arm_of (OfUnion t arms) tag ≡ Some (holds s) → Suits types call room no_val None s v p p' q q' → Suits types call room body link (OfUnion t arms) (VUnion tag v) p p' q q'
    suits_array : {room : ℕ} {body : Vals} {link : Option Count} {kind : ArrayKind} {s : Form} {vs : Vals} {p p' q q' : Seen} → SuitsCounts call body kind (count_of vs)
        → SuitAll types call room body s vs p p' q q' → Suits types call room body link (OfArray kind s) (VArray vs) p p' q q'
    suits_ref : {room : ℕ} {body : Vals} {link : Option Count} {s : Form} {v : Val} {p q h q' : Seen} → Suits types call room body None s v q h h q'
        → Suits types call (suc room) body link (OfRef s) v p p q q'
    suits_null : {room : ℕ} {body : Vals} {link : Option Count} {s : Form} {p q : Seen} → Suits types call room body link (OfUnique s) VNull p p q q
    suits_unique : {room : ℕ} {body : Vals} {link : Option Count} {s : Form} {v : Val} {p q h q' : Seen} → Suits types call room body None s v q h h q'
        → Suits types call (suc room) body link (OfUnique s) (VPtr v) p p q q'
    suits_null_full : {room : ℕ} {body : Vals} {link : Option Count} {s : Form} {p q : Seen} → Suits types call room body link (OfFull s) (VFull None) p p q q
    -- an item that wasn't seen has the next number
    suits_new : {room : ℕ} {body : Vals} {link : Option Count} {s : Form} {v : Val} {p q h q' : Seen} → nth call.said.heap (length p.shapes) ≡ Some v
        → Suits types call room body None s v q h h q' → Suits types call (suc room) body link (OfFull s) (VFull (Some (length p.shapes))) p (with_item p s) q q'
    suits_repeat : {room n : ℕ} {body : Vals} {link : Option Count} {s t : Form} {p q : Seen} → slice_get p.shapes n ≡ Some t → IsSame t s
        → Suits types call room body link (OfFull s) (VFull (Some n)) p p q q

  -- members, in their body
  pub data SuitEach (types : List Form) (call : Call) : ℕ → Vals → Forms → Vals → Seen → Seen → Seen → Seen → Type 0 where
    no_member : {room : ℕ} {body : Vals} {p q : Seen} → SuitEach types call room body no_form no_val p p q q
    then_member : {room : ℕ} {body : Vals} {s : Form} {v : Val} {ss : Forms} {vs : Vals} {p h p' q g q' : Seen} → Suits types call room body None s v p h q g
        → SuitEach types call room body ss vs h p' g q' → SuitEach types call room body (then_form s ss) (then_val v vs) p p' q q'

  -- elements of an array
  pub data SuitAll (types : List Form) (call : Call) : ℕ → Vals → Form → Vals → Seen → Seen → Seen → Seen → Type 0 where
    no_element : {room : ℕ} {body : Vals} {s : Form} {p q : Seen} → SuitAll types call room body s no_val p p q q
    then_element : {room : ℕ} {body : Vals} {s : Form} {v : Val} {vs : Vals} {p h p' q g q' : Seen} → Suits types call room body None s v p h q g
        → SuitAll types call room body s vs h p' g q' → SuitAll types call room body s (then_val v vs) p p' q q'

-- ---- messages

abbrev pub SuitsRange : Option Bounds → Val → Type 0
SuitsRange None v = Unit {0}
SuitsRange (Some b) v = IsWithin b v

-- the parameters, and the result, each with its referents; no member stands beside them, and 256 levels are left below each
pub data SuitEntries (types : List Form) (call : Call) : List Entry → Vals → Seen → Seen → Type 0 where
  no_entry : {q : Seen} → SuitEntries types call [] no_val q q
  then_entry : {e : Entry} {es : List Entry} {v : Val} {vs : Vals} {q h g q' : Seen} → Suits types call 256 no_val None e.shape v q h h g → SuitsRange e.range v
      → SuitEntries types call es vs g q' → SuitEntries types call (e ∷ es) (then_val v vs) q q'

abbrev pub nothing_seen : Seen
nothing_seen = record { shapes = []; wires = [] }

-- a message of the operation: its values suit, and each item of its heap and each handle is met
pub record IsOfOp (types : List Form) (op : OpForm) (way : Way) (asked : Option Msg) (m : Msg) : Type 0 where
  pub end : Seen
  pub suits : SuitEntries types (call_of op way asked m) (entries way op) m.values nothing_seen end
  pub heap : count_of m.heap ≡ length end.shapes
  pub wires : m.wires ≡ end.wires
