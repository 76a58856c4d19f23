-- When counts, tags and numbers with ranges agree with what names them. The marks of what was read are taken one by one, in the order
-- in which reading met them.
use Rattle.std.specs.Prelude.{◌≡◌, ℕ, suc, ℤ, ◌≤ℤ◌, Bool, true, false, List, [], ◌∷◌, slice_get, Option, Some, None, if◌then◌else◌}
use Rattle.ndr_value.specs.declared.shape.Count.{Count}
use Rattle.ndr_value.specs.declared.shape.ArrayKind.{ArrayKind}
use Rattle.ndr_value.specs.declared.shape.ArrayKind.TheVariants.{Fixed, Varying, Conformant, ConformantVarying}
use Rattle.ndr_value.specs.Forms.{Form, OfBool, OfByte, OfChar, OfInt, OfUint, OfEnum, OfNamed, OfStruct, OfUnion, OfArray, OfText, OfRef, OfUnique, OfFull, OfHandle, Forms, no_form, then_form, ArmForms, holds}
use Rattle.ndr_value.specs.Fits.{arm_of}
use Rattle.ndr_value.specs.Values.{Val, VStruct, VEmpty, VUnion, VArray, VNull, VPtr, VFull, Vals, no_val, then_val}
use Rattle.ndr_table.specs.declared.operation.Bounds.{Bounds}
use Rattle.ndr_table.specs.Aligned.{is_last}
use Rattle.ndr_model.specs.declared.mark.Mark.{Mark}
use Rattle.ndr_model.specs.declared.mark.Mark.TheVariants.{Number, Referent, Ranged}
use Rattle.ndr_model.specs.Part.{opens_with}
use Rattle.ndr_model.specs.Stub.{Entry}
use Rattle.ndr_model.specs.Named.{Call, nth, number, named}

-- a count or a tag that was read: its index, and the number
abbrev pub Stood : Type 0
Stood = ℕ × ℤ

-- no count and no tag is named in the shape
abbrev pub is_plain : Form → Bool
is_plain OfBool = true
is_plain OfByte = true
is_plain OfChar = true
is_plain (OfInt size) = true
is_plain (OfUint size) = true
is_plain (OfEnum count) = true
is_plain (OfText size) = true
is_plain (OfHandle kind) = true
is_plain _ = false

-- a tag is what its switch names, where the union has one
abbrev pub IsTied : Call → Vals → Option Count → ℤ → Type 0
IsTied call body None tag = Unit {0}
IsTied call body (Some c) tag = named call body c ≡ Some tag

-- a max_count that stands in front of a structure, unless one in front of a greater one is its own
pub data Fronts (types : List Form) (ss : Forms) : Option Stood → Option Stood → List Mark → List Mark → Type 0 where
  fronts_greater : {m : Stood} {ms : List Mark} → Fronts types ss (Some m) (Some m) ms ms
  fronts : {i : ℕ} {z : ℤ} {ms : List Mark} → opens_with types ss ≡ true → Fronts types ss None (Some (i, z)) (Number i z ∷ ms) ms
  fronts_none : {ms : List Mark} → opens_with types ss ≡ false → Fronts types ss None None ms ms

-- the last member alone has the max_count that moved
abbrev pub stood_last : Forms → Option Stood → Option Stood
stood_last ss moved = if is_last ss then moved else None

pub data AgreesMost (call : Call) (body : Vals) (c : Count) : Option Stood → List Mark → List Mark → Type 0 where
  most_in_front : {m : Stood} {ms : List Mark} → named call body c ≡ Some m.1 → AgreesMost call body c (Some m) ms ms
  most_here : {i : ℕ} {z : ℤ} {ms : List Mark} → named call body c ≡ Some z → AgreesMost call body c None (Number i z ∷ ms) ms

-- the counts of an array
pub data AgreesCounts (call : Call) (body : Vals) (moved : Option Stood) : ArrayKind → List Mark → List Mark → Type 0 where
  agrees_fixed : {n : ℕ} {ms : List Mark} → AgreesCounts call body moved (Fixed n) ms ms
  agrees_varying : {n i : ℕ} {c : Count} {z : ℤ} {ms : List Mark} → named call body c ≡ Some z → AgreesCounts call body moved (Varying n c) (Number i z ∷ ms) ms
  agrees_conformant : {c : Count} {ms ms' : List Mark} → AgreesMost call body c moved ms ms' → AgreesCounts call body moved (Conformant c) ms ms'
  agrees_both : {i : ℕ} {c d : Count} {z : ℤ} {ms ms' : List Mark} → AgreesMost call body c moved ms (Number i z ∷ ms') → named call body d ≡ Some z
      → AgreesCounts call body moved (ConformantVarying c d) ms ms'

mutual
  -- Agrees room body link moved s v ms ms': the value stands in a body of those members and takes the marks before ms'. link names
  -- the tag where the value is a union; moved is a max_count that stood in front
  pub data Agrees (types : List Form) (call : Call) : ℕ → Vals → Option Count → Option Stood → Form → Val → List Mark → List Mark → Type 0 where
    plainly : {room : ℕ} {body : Vals} {link : Option Count} {moved : Option Stood} {s : Form} {v : Val} {ms : List Mark} → is_plain s ≡ true
        → Agrees types call room body link moved s v ms ms
    by_name : {room c : ℕ} {body : Vals} {link switch : Option Count} {moved : Option Stood} {s : Form} {v : Val} {ms ms' : List Mark} → slice_get types c ≡ Some s
        → Agrees types call room body switch moved s v ms ms' → Agrees types call room body link moved (OfNamed c switch) v ms ms'
    by_members : {room : ℕ} {body : Vals} {link : Option Count} {moved own : Option Stood} {ss : Forms} {vs : Vals} {ms ms1 ms' : List Mark} → Fronts types ss moved own ms ms1
        → AgreesEach types call room vs own ss vs ms1 ms' → Agrees types call room body link moved (OfStruct ss) (VStruct vs) ms ms'
    by_empty_arm : {room i : ℕ} {body : Vals} {link : Option Count} {moved : Option Stood} {t : Form} {arms : ArmForms} {tag z : ℤ} {ms : List Mark} → IsTied call body link tag
        → Agrees types call room body link moved (OfUnion t arms) (VEmpty tag) (Number i z ∷ ms) ms
    -- nothing stands beside an arm
    by_arm : {room i : ℕ} {body : Vals} {link : Option Count} {moved : Option Stood} {t s : Form} {arms : ArmForms} {tag z : ℤ} {v : Val} {ms ms' : List Mark} → IsTied call body link tag
        → arm_of (OfUnion t arms) tag ≡ Some (holds s) → Agrees types call room no_val None None s v ms ms'
        → Agrees types call room body link moved (OfUnion t arms) (VUnion tag v) (Number i z ∷ ms) ms'
    by_array : {room : ℕ} {body : Vals} {link : Option Count} {moved : Option Stood} {kind : ArrayKind} {s : Form} {vs : Vals} {ms ms1 ms' : List Mark}
        → AgreesCounts call body moved kind ms ms1 → AgreesAll types call room body s vs ms1 ms' → Agrees types call room body link moved (OfArray kind s) (VArray vs) ms ms'
    by_ref : {room : ℕ} {body : Vals} {link : Option Count} {moved : Option Stood} {s : Form} {v : Val} {ms ms' : List Mark} → Agrees types call room body None None s v ms ms'
        → Agrees types call (suc room) body link moved (OfRef s) v ms ms'
    by_null : {room : ℕ} {body : Vals} {link : Option Count} {moved : Option Stood} {s : Form} {ms : List Mark} → Agrees types call room body link moved (OfUnique s) VNull ms ms
    by_pointer : {room : ℕ} {body : Vals} {link : Option Count} {moved : Option Stood} {s : Form} {v : Val} {ms ms' : List Mark} → Agrees types call room body None None s v ms ms'
        → Agrees types call (suc room) body link moved (OfUnique s) (VPtr v) ms ms'
    by_null_full : {room : ℕ} {body : Vals} {link : Option Count} {moved : Option Stood} {s : Form} {ms : List Mark} → Agrees types call room body link moved (OfFull s) (VFull None) ms ms
    -- an item of the heap is compared where it was met first
    by_new : {room n : ℕ} {body : Vals} {link : Option Count} {moved : Option Stood} {s : Form} {v : Val} {ms ms' : List Mark} → nth call.said.heap n ≡ Some v
        → Agrees types call room body None None s v ms ms' → Agrees types call (suc room) body link moved (OfFull s) (VFull (Some n)) (Referent true ∷ ms) ms'
    by_repeat : {room n : ℕ} {body : Vals} {link : Option Count} {moved : Option Stood} {s : Form} {ms : List Mark}
        → Agrees types call room body link moved (OfFull s) (VFull (Some n)) (Referent false ∷ ms) ms

  -- members, in their body
  pub data AgreesEach (types : List Form) (call : Call) : ℕ → Vals → Option Stood → Forms → Vals → List Mark → List Mark → Type 0 where
    no_member_left : {room : ℕ} {body : Vals} {moved : Option Stood} {ms : List Mark} → AgreesEach types call room body moved no_form no_val ms ms
    member_then : {room : ℕ} {body : Vals} {moved : Option Stood} {s : Form} {v : Val} {ss : Forms} {vs : Vals} {ms ms1 ms' : List Mark}
        → Agrees types call room body None (stood_last ss moved) s v ms ms1 → AgreesEach types call room body moved ss vs ms1 ms'
        → AgreesEach types call room body moved (then_form s ss) (then_val v vs) ms ms'

  -- elements of an array; plain ones are passed over
  pub data AgreesAll (types : List Form) (call : Call) : ℕ → Vals → Form → Vals → List Mark → List Mark → Type 0 where
    all_plainly : {room : ℕ} {body : Vals} {s : Form} {vs : Vals} {ms : List Mark} → is_plain s ≡ true → AgreesAll types call room body s vs ms ms
    no_element_left : {room : ℕ} {body : Vals} {s : Form} {ms : List Mark} → AgreesAll types call room body s no_val ms ms
    element_then : {room : ℕ} {body : Vals} {s : Form} {v : Val} {vs : Vals} {ms ms1 ms' : List Mark} → is_plain s ≡ false → Agrees types call room body None None s v ms ms1
        → AgreesAll types call room body s vs ms1 ms' → AgreesAll types call room body s (then_val v vs) ms ms'

-- a number is in its range
pub record IsWithin (b : Bounds) (v : Val) : Type 0 where
  pub z : ℤ
  pub is : number v ≡ Some z
  pub low : b.low ≤ℤ z
  pub high : z ≤ℤ b.high

pub data AgreesRange : Option Bounds → Val → List Mark → List Mark → Type 0 where
  no_range : {v : Val} {ms : List Mark} → AgreesRange None v ms ms
  in_range : {b : Bounds} {v : Val} {i : ℕ} {ms : List Mark} → IsWithin b v → AgreesRange (Some b) v (Ranged i ∷ ms) ms

-- the parameters, and the result; no member stands beside a parameter
pub data AgreeTogether (types : List Form) (call : Call) : List Entry → Vals → List Mark → List Mark → Type 0 where
  no_entry_left : {ms : List Mark} → AgreeTogether types call [] no_val ms ms
  entry_then : {e : Entry} {es : List Entry} {v : Val} {vs : Vals} {ms ms1 ms2 ms' : List Mark} → Agrees types call 256 no_val None None e.shape v ms ms1 → AgreesRange e.range v ms1 ms2
      → AgreeTogether types call es vs ms2 ms' → AgreeTogether types call (e ∷ es) (then_val v vs) ms ms'
