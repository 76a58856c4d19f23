-- The handles in the values of a message have places among its wires.
use Rattle.std.proofs.Common.{◌≡◌, ℕ, suc, ◌+◌, ◌<◌, ◌≤◌, List, [], ◌∷◌, ◌++◌, length, Option, Some, None, refl, ap, arith, length-append}
use Rattle.std.specs.Prelude.{ℤ}
use Rattle.rpc_base.specs.declared.identifiers.WireHandle.{WireHandle}
use Rattle.ndr_value.specs.declared.shape.Count.{Count}
use Rattle.ndr_value.specs.Forms.{Form, Forms}
use Rattle.ndr_value.specs.Values.{Val, VBool, VByte, VChar, VInt, VUint, VEnum, VStruct, VEmpty, VUnion, VArray, VText, VNull, VPtr, VFull, VHandle, Vals, no_val, then_val}
use Rattle.ndr_model.specs.Stub.{Entry}
use Rattle.ndr_model.specs.Named.{Call}
use Rattle.ndr_model.specs.Fits.{Seen, with_wire, Suits, SuitEach, SuitAll, SuitEntries}
use Rattle.ndr_model.specs.Fits.Suits.{suits_bool, suits_byte, suits_char, suits_int, suits_uint, suits_enum, suits_handle, suits_text, suits_name, suits_struct, suits_empty_arm, suits_arm, suits_array, suits_ref, suits_null, suits_unique, suits_null_full, suits_new, suits_repeat}
use Rattle.ndr_model.specs.Fits.SuitEach.{no_member, then_member}
use Rattle.ndr_model.specs.Fits.SuitAll.{no_element, then_element}
use Rattle.ndr_model.specs.Fits.SuitEntries.{no_entry, then_entry}

abbrev mutual
  -- each handle in the value has a place below n
  pub Below : ℕ → Val → Type 0
  Below n (VHandle k) = k < n
  Below n (VStruct vs) = AllBelow n vs
  Below n (VUnion tag v) = Below n v
  Below n (VArray vs) = AllBelow n vs
  Below n (VPtr v) = Below n v
  Below n _ = Unit {0}

  pub AllBelow : ℕ → Vals → Type 0
  AllBelow n no_val = Unit {0}
  AllBelow n (then_val v vs) = Below n v × AllBelow n vs

abbrev far : Seen → ℕ
far p = length p.wires

one_wire : (p : Seen) (w : WireHandle) → far (with_wire p w) ≡ far p + 1
one_wire p w = length-append p.wires (w ∷ [])

module _ (types : List Form) (call : Call) where
  abbrev Grow : Seen → Seen → Seen → Seen → Type 0
  Grow p p' q q' = (far p ≤ far p') × (far q ≤ far q')

  same : (p q : Seen) → Grow p p q q
  same p q = (omega arith, omega arith)

  below_ref : (p q h q' : Seen) → Grow q h h q' → Grow p p q q'
  below_ref p q h q' g = let a = g.0 in let b = g.1 in (omega arith, omega (arith, a, b))

  both : (p h p' q g q' : Seen) → Grow p h q g → Grow h p' g q' → Grow p p' q q'
  both p h p' q g q' x y = let a = x.0 in let b = x.1 in let c = y.0 in let d = y.1 in (omega (arith, a, c), omega (arith, b, d))

  -- more and more handles were seen
  mutual
    grows : {room : ℕ} {body : Vals} {link : Option Count} {s : Form} {v : Val} {p p' q q' : Seen} → Suits types call room body link s v p p' q q' → Grow p p' q q'
    grows {p} {q} suits_bool = same p q
    grows {p} {q} (suits_byte h) = same p q
    grows {p} {q} (suits_char h) = same p q
    grows {p} {q} (suits_int h) = same p q
    grows {p} {q} (suits_uint h) = same p q
    grows {p} {q} (suits_enum h lt) = same p q
    grows {p} {q} (suits_handle {w} h) = let l = one_wire p w in (omega (arith, l), omega arith)
    grows {p} {q} (suits_text h) = same p q
    grows (suits_name e t) = grows t
    grows (suits_struct ts) = each_grows ts
    grows {p} {q} (suits_empty_arm h t e) = same p q
    grows (suits_arm h t e s) = grows s
    grows (suits_array c ts) = all_grows ts
    grows {p} {q} {q'} (suits_ref {h} t) = below_ref p q h q' (grows t)
    grows {p} {q} suits_null = same p q
    grows {p} {q} {q'} (suits_unique {h} t) = below_ref p q h q' (grows t)
    grows {p} {q} suits_null_full = same p q
    grows {p} {q} {q'} (suits_new {h} n t) = below_ref p q h q' (grows t)
    grows {p} {q} (suits_repeat e i) = same p q

    each_grows : {room : ℕ} {body : Vals} {ss : Forms} {vs : Vals} {p p' q q' : Seen} → SuitEach types call room body ss vs p p' q q' → Grow p p' q q'
    each_grows {p} {q} no_member = same p q
    each_grows {p} {p'} {q} {q'} (then_member {h} {g} t ts) = both p h p' q g q' (grows t) (each_grows ts)

    all_grows : {room : ℕ} {body : Vals} {s : Form} {vs : Vals} {p p' q q' : Seen} → SuitAll types call room body s vs p p' q q' → Grow p p' q q'
    all_grows {p} {q} no_element = same p q
    all_grows {p} {p'} {q} {q'} (then_element {h} {g} t ts) = both p h p' q g q' (grows t) (all_grows ts)

  -- below where it all ends
  mutual
    below : {room : ℕ} {body : Vals} {link : Option Count} {s : Form} {v : Val} {p p' q q' : Seen} (n : ℕ) → Suits types call room body link s v p p' q q' → far p' ≤ n → far q' ≤ n → Below n v
    below n suits_bool a b = tt
    below n (suits_byte h) a b = tt
    below n (suits_char h) a b = tt
    below n (suits_int h) a b = tt
    below n (suits_uint h) a b = tt
    below n (suits_enum h lt) a b = tt
    below {p} n (suits_handle {w} h) a b = let l = one_wire p w in omega (arith, l, a)
    below n (suits_text h) a b = tt
    below n (suits_name e t) a b = below n t a b
    below n (suits_struct ts) a b = each_below n ts a b
    below n (suits_empty_arm h t e) a b = tt
    below n (suits_arm h t e s) a b = below n s a b
    below n (suits_array c ts) a b = all_below n ts a b
    below n (suits_ref t) a b = let g = (grows t).1 in below n t (omega (arith, g, b)) b
    below n suits_null a b = tt
    below n (suits_unique t) a b = let g = (grows t).1 in below n t (omega (arith, g, b)) b
    below n suits_null_full a b = tt
    below n (suits_new i t) a b = tt
    below n (suits_repeat e i) a b = tt

    each_below : {room : ℕ} {body : Vals} {ss : Forms} {vs : Vals} {p p' q q' : Seen} (n : ℕ) → SuitEach types call room body ss vs p p' q q' → far p' ≤ n → far q' ≤ n → AllBelow n vs
    each_below n no_member a b = tt
    each_below n (then_member t ts) a b = let g = each_grows ts in let c = g.0 in let d = g.1 in (below n t (omega (arith, c, a)) (omega (arith, d, b)), each_below n ts a b)

    all_below : {room : ℕ} {body : Vals} {s : Form} {vs : Vals} {p p' q q' : Seen} (n : ℕ) → SuitAll types call room body s vs p p' q q' → far p' ≤ n → far q' ≤ n → AllBelow n vs
    all_below n no_element a b = tt
    all_below n (then_element t ts) a b = let g = all_grows ts in let c = g.0 in let d = g.1 in (below n t (omega (arith, c, a)) (omega (arith, d, b)), all_below n ts a b)

  entries_grow : {es : List Entry} {vs : Vals} {q q' : Seen} → SuitEntries types call es vs q q' → far q ≤ far q'
  entries_grow {q} no_entry = omega arith
  entries_grow (then_entry t r ts) = let g = grows t in let a = g.0 in let b = g.1 in let c = entries_grow ts in omega (arith, a, b, c)

  pub entries_below : {es : List Entry} {vs : Vals} {q q' : Seen} (n : ℕ) → SuitEntries types call es vs q q' → far q' ≤ n → AllBelow n vs
  entries_below n no_entry a = tt
  entries_below n (then_entry t r ts) a =
      let c = entries_grow ts in
      let d = (grows t).1 in
      (below n t (omega (arith, c, d, a)) (omega (arith, c, a)), entries_below n ts a)
