-- Whether a value is of a shape, by going down the value: the test that well_typed computes.
use Rattle.std.specs.Prelude.{ℕ, zero, suc, ◌+◌, ℤ, List, length, Option, Some, None, Bool, true, false, ◌&&◌, not, nat_lt, slice_get}
use Rattle.ndr_value.specs.Forms.{Form, OfBool, OfByte, OfChar, OfInt, OfUint, OfEnum, OfNamed, OfStruct, OfArray, OfText, OfRef, OfUnique, OfFull, OfHandle, Forms, no_form, then_form, Body, empty, holds}
use Rattle.ndr_value.specs.Values.{Val, VBool, VByte, VChar, VInt, VUint, VEnum, VStruct, VEmpty, VUnion, VArray, VText, VNull, VPtr, VFull, VHandle, Vals, no_val, then_val, count_of}
use Rattle.ndr_value.specs.Fits.{limit, fits_int, fits_count, fits_text, has_nul, arm_of}

-- neither a Ref nor a name
abbrev pub is_done : Form → Bool
is_done (OfRef s) = false
is_done (OfNamed number switch) = false
is_done _ = true

-- what stands behind Refs
abbrev pub behind_refs : Form → Form
behind_refs (OfRef s) = behind_refs s
behind_refs s = s

-- what a name stands for
abbrev pub named : List Form → Form → Option Form
named types (OfNamed number switch) = slice_get types number
named types _ = None

abbrev pub or_else : Option Form → Form → (Form → Form) → Form
or_else None s go = s
or_else (Some t) s go = go t

-- what stands behind Refs and at most n names
abbrev pub plain : List Form → ℕ → Form → Form
plain types zero s = behind_refs s
plain types (suc n) s = or_else (named types (behind_refs s)) (behind_refs s) (λ t. plain types n t)

abbrev pub is_bool : Form → Bool
is_bool OfBool = true
is_bool _ = false

abbrev pub is_byte : Form → Bool
is_byte OfByte = true
is_byte _ = false

abbrev pub is_char : Form → Bool
is_char OfChar = true
is_char _ = false

abbrev pub is_handle : Form → Bool
is_handle (OfHandle kind) = true
is_handle _ = false

abbrev pub holds_int : Form → ℤ → Bool
holds_int (OfInt size) z = fits_int size z
holds_int _ z = false

abbrev pub holds_uint : Form → ℕ → Bool
holds_uint (OfUint size) n = nat_lt n (limit size)
holds_uint _ n = false

abbrev pub holds_enum : Form → ℕ → Bool
holds_enum (OfEnum count) n = nat_lt n count
holds_enum _ n = false

abbrev pub holds_text : Form → List ℕ → Bool
holds_text (OfText most) text = fits_text most (length text) && not (has_nul text)
holds_text _ text = false

abbrev pub holds_item : Form → Option ℕ → ℕ → Bool
holds_item (OfFull s) None heap = true
holds_item (OfFull s) (Some n) heap = nat_lt n heap
holds_item _ _ heap = false

abbrev pub is_struct : Form → Bool
is_struct (OfStruct members) = true
is_struct _ = false

-- a structure's members
abbrev pub members : Form → Forms
members (OfStruct ss) = ss
members _ = no_form

abbrev pub holds_items : Form → ℕ → Bool
holds_items (OfArray kind s) n = fits_count kind n
holds_items _ n = false

abbrev pub is_unique : Form → Bool
is_unique (OfUnique s) = true
is_unique _ = false

-- what an array holds, a pointer points to
abbrev pub inner : Form → Form
inner (OfArray kind s) = s
inner (OfUnique s) = s
inner (OfFull s) = s
inner s = s

abbrev pub is_empty : Option Body → Bool
is_empty (Some empty) = true
is_empty _ = false

abbrev pub is_held : Option Body → Bool
is_held (Some (holds s)) = true
is_held _ = false

-- what an arm holds
abbrev pub held : Option Body → Form
held (Some (holds s)) = s
held _ = OfBool

-- the value, under that many non-null pointers, is of the shape
abbrev mutual
  pub typed : List Form → ℕ → ℕ → Val → Form → Bool
  typed types heap level (VBool b) s = is_bool (plain types (length types) s)
  typed types heap level (VByte n) s = is_byte (plain types (length types) s)
  typed types heap level (VChar n) s = is_char (plain types (length types) s)
  typed types heap level (VInt z) s = holds_int (plain types (length types) s) z
  typed types heap level (VUint n) s = holds_uint (plain types (length types) s) n
  typed types heap level (VEnum n) s = holds_enum (plain types (length types) s) n
  typed types heap level (VStruct vs) s = is_struct (plain types (length types) s) && each_typed types heap level vs (members (plain types (length types) s))
  typed types heap level (VEmpty tag) s = is_empty (arm_of (plain types (length types) s) tag)
  typed types heap level (VUnion tag v) s = is_held (arm_of (plain types (length types) s) tag) && typed types heap level v (held (arm_of (plain types (length types) s) tag))
  typed types heap level (VArray vs) s = holds_items (plain types (length types) s) (count_of vs) && all_typed types heap level vs (inner (plain types (length types) s))
  typed types heap level (VText text) s = holds_text (plain types (length types) s) text
  typed types heap level VNull s = is_unique (plain types (length types) s)
  typed types heap level (VPtr v) s = is_unique (plain types (length types) s) && nat_lt level 256 && typed types heap (level + 1) v (inner (plain types (length types) s))
  typed types heap level (VFull item) s = holds_item (plain types (length types) s) item heap
  typed types heap level (VHandle slot) s = is_handle (plain types (length types) s)

  pub each_typed : List Form → ℕ → ℕ → Vals → Forms → Bool
  each_typed types heap level no_val no_form = true
  each_typed types heap level no_val (then_form s ss) = false
  each_typed types heap level (then_val v vs) no_form = false
  each_typed types heap level (then_val v vs) (then_form s ss) = typed types heap level v s && each_typed types heap level vs ss

  pub all_typed : List Form → ℕ → ℕ → Vals → Form → Bool
  all_typed types heap level no_val s = true
  all_typed types heap level (then_val v vs) s = typed types heap level v s && all_typed types heap level vs s
