-- Which values are of a shape.
use Rattle.std.specs.Prelude.{◌≡◌, ℕ, suc, ◌<◌, ℤ, Bool, true, false, List, length, slice_get, Option, Some, None}
use Rattle.ndr_value.specs.declared.shape.Count.{Count}
use Rattle.ndr_value.specs.declared.shape.ArrayKind.{ArrayKind}
use Rattle.ndr_value.specs.Forms.{Form, OfBool, OfByte, OfChar, OfInt, OfUint, OfEnum, OfNamed, OfStruct, OfUnion, OfArray, OfText, OfRef, OfUnique, OfFull, OfHandle, Forms, no_form, then_form, empty, holds, ArmForms}
use Rattle.ndr_value.specs.Values.{Val, VBool, VByte, VChar, VInt, VUint, VEnum, VStruct, VEmpty, VUnion, VArray, VText, VNull, VPtr, VFull, VHandle, Vals, no_val, then_val, count_of}
use Rattle.ndr_value.specs.Fits.{limit, fits_int, fits_count, fits_text, has_nul, arm_of}

mutual
  -- Typed types heap level s v: the value, which stands under that many pointers that aren't null, is of the shape,
  -- where the heap has so many items
  pub data Typed (types : List Form) (heap : ℕ) : ℕ → Form → Val → Type 0 where
    a_bool : {level : ℕ} {b : Bool} → Typed types heap level OfBool (VBool b)
    a_byte : {level n : ℕ} → Typed types heap level OfByte (VByte n)
    a_char : {level n : ℕ} → Typed types heap level OfChar (VChar n)
    an_int : {level size : ℕ} {z : ℤ} → fits_int size z ≡ true → Typed types heap level (OfInt size) (VInt z)
    a_uint : {level size n : ℕ} → n < limit size → Typed types heap level (OfUint size) (VUint n)
    an_enum : {level count n : ℕ} → n < count → Typed types heap level (OfEnum count) (VEnum n)
    a_name : {level number : ℕ} {switch : Option Count} {s : Form} {v : Val} → slice_get types number ≡ Some s → Typed types heap level s v
        → Typed types heap level (OfNamed number switch) v
    a_struct : {level : ℕ} {ss : Forms} {vs : Vals} → EachTyped types heap level ss vs → Typed types heap level (OfStruct ss) (VStruct vs)
    an_empty_arm : {level : ℕ} {t : Form} {arms : ArmForms} {tag : ℤ} → arm_of (OfUnion t arms) tag ≡ Some empty → Typed types heap level (OfUnion t arms) (VEmpty tag)
    an_arm : {level : ℕ} {t s : Form} {arms : ArmForms} {tag : ℤ} {v : Val} → arm_of (OfUnion t arms) tag ≡ Some (holds s) → Typed types heap level s v
        → Typed types heap level (OfUnion t arms) (VUnion tag v)
    an_array : {level : ℕ} {kind : ArrayKind} {s : Form} {vs : Vals} → fits_count kind (count_of vs) ≡ true → AllTyped types heap level s vs
        → Typed types heap level (OfArray kind s) (VArray vs)
    a_text : {level : ℕ} {most : Option ℕ} {text : List ℕ} → fits_text most (length text) ≡ true → has_nul text ≡ false → Typed types heap level (OfText most) (VText text)
    a_ref : {level : ℕ} {s : Form} {v : Val} → Typed types heap level s v → Typed types heap level (OfRef s) v
    a_null : {level : ℕ} {s : Form} → Typed types heap level (OfUnique s) VNull
    a_pointer : {level : ℕ} {s : Form} {v : Val} → level < 256 → Typed types heap (suc level) s v → Typed types heap level (OfUnique s) (VPtr v)
    a_null_full : {level : ℕ} {s : Form} → Typed types heap level (OfFull s) (VFull None)
    a_full : {level item : ℕ} {s : Form} → item < heap → Typed types heap level (OfFull s) (VFull (Some item))
    a_handle : {level kind slot : ℕ} → Typed types heap level (OfHandle kind) (VHandle slot)

  -- one value for each shape, in order
  pub data EachTyped (types : List Form) (heap : ℕ) : ℕ → Forms → Vals → Type 0 where
    no_more : {level : ℕ} → EachTyped types heap level no_form no_val
    one_more : {level : ℕ} {s : Form} {v : Val} {ss : Forms} {vs : Vals} → Typed types heap level s v → EachTyped types heap level ss vs
        → EachTyped types heap level (then_form s ss) (then_val v vs)

  -- all of one shape
  pub data AllTyped (types : List Form) (heap : ℕ) : ℕ → Form → Vals → Type 0 where
    none_left : {level : ℕ} {s : Form} → AllTyped types heap level s no_val
    one_of : {level : ℕ} {s : Form} {v : Val} {vs : Vals} → Typed types heap level s v → AllTyped types heap level s vs → AllTyped types heap level s (then_val v vs)
