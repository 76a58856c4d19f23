-- An item of the heap is kept once: what is read behind it leaves it as it is.
use Rattle.std.proofs.Common.{◌≡◌, ℕ, zero, suc, ◌+◌, ◌<◌, ◌≤◌, Bool, false, List, [], ◌∷◌, ◌++◌, length, length-append, Option, Some, refl, sym, ap, ◌∙◌, arith, inl, inr, ◌⊎◌}
use Rattle.std.specs.Prelude.{◌==◌, if◌then◌else◌}
use Rattle.rpc_base.specs.declared.identifiers.Order.{Order}
use Rattle.ndr_value.specs.Forms.{Form, Forms}
use Rattle.ndr_value.specs.Values.{Val, Vals, no_val, then_val}
use Rattle.ndr_model.specs.Places.{Place, Last, onto}
use Rattle.ndr_model.specs.Part.{Part, a_bool, a_byte, a_char, an_int, a_uint, an_enum, a_handle, a_text, a_name, a_struct, an_empty_arm, an_arm, an_array, a_ref, a_null, a_unique, a_null_full, a_new, a_repeat, Parts, no_part, then_part, Items, no_item, then_item}
use Rattle.ndr_model.specs.Stub.{item, HasItems}
use Rattle.ndr_model.specs.Named.{nth}
use Rattle.ndr_model.proofs.Mets.{Mets, Ext, eq_self, less_not}
use Rattle.ndr_laws.proofs.Grows.{Grown, part_grows, parts_grow, items_grow}

pub ext_le : (ms ns : Mets) → Ext ms ns → length ms ≤ length ns
ext_le ms ns e = omega (arith, ap length e.1, length-append ms e.0)

-- the number isn't one of those met between two places
abbrev pub Out : Place → Place → ℕ → Type 0
Out p p' n = (n < length p.met) ⊎ (length p'.met ≤ n)

-- the number is one of those
abbrev pub In : Place → Place → ℕ → Type 0
In p p' n = (length p.met ≤ n) × (n < length p'.met)

pub out_first : (p h p' : Place) (n : ℕ) → length h.met ≤ length p'.met → Out p p' n → Out p h n
out_first p h p' n le (inl lt) = inl lt
out_first p h p' n le (inr ge) = inr (omega (arith, le, ge))

pub out_second : (p h p' : Place) (n : ℕ) → length p.met ≤ length h.met → Out p p' n → Out h p' n
out_second p h p' n le (inl lt) = inl (omega (arith, le, lt))
out_second p h p' n le (inr ge) = inr ge

other_item : (m n : ℕ) (v : Val) (items : List (ℕ × Val)) → (m == n) ≡ false → item ((m, v) ∷ items) n ≡ item items n
other_item m n v items e = ap (λ (b : Bool). if b then Some v else item items n) e

pub that_item : (m : ℕ) (v : Val) (items : List (ℕ × Val)) → item ((m, v) ∷ items) m ≡ Some v
that_item m v items = ap (λ (b : Bool). if b then Some v else item items m) (eq_self m)

greater_not : (a b : ℕ) → b < a → (a == b) ≡ false
greater_not a b lt = grind (arith)

out_not : (m n k : ℕ) → k ≡ suc m → (n < m) ⊎ (k ≤ n) → (m == n) ≡ false
out_not m n k e (inl lt) = greater_not m n lt
out_not m n k e (inr ge) = less_not m n (omega (arith, e, ge))

module _ (types : List Form) (order : Order) (octets : List ℕ) where
  mutual
    pub part_leaves : {room : ℕ} {moved : Option ℕ} {s : Form} {v : Val} {p p' : Place} {q q' : Last} (n : ℕ) → Part types order octets room moved s v p p' q q' → Out p p' n → Out q.here q'.here n → item q'.items n ≡ item q.items n
    part_leaves n (a_bool at) x y = refl
    part_leaves n (a_byte at) x y = refl
    part_leaves n (a_char at) x y = refl
    part_leaves n (an_int at) x y = refl
    part_leaves n (a_uint at) x y = refl
    part_leaves n (an_enum at lt) x y = refl
    part_leaves n (a_handle at) x y = refl
    part_leaves n (a_text at) x y = refl
    part_leaves n (a_name is part) x y = part_leaves n part x y
    part_leaves n (a_struct b ps) x y = parts_leave n ps x y
    part_leaves n (an_empty_arm at is) x y = refl
    part_leaves n (an_arm at is part) x y = part_leaves n part x y
    part_leaves n (an_array at ps) x y = items_leave n ps x y
    part_leaves n (a_ref {h = h} {q = q} {q' = q'} at part) x y =
        let g = part_grows types order octets part in
        part_leaves n part (out_first q.here h q'.here n (ext_le h.met q'.here.met g.1) y) (out_second q.here h q'.here n (ext_le q.here.met h.met g.0) y)
    part_leaves n (a_null at) x y = refl
    part_leaves n (a_unique {h = h} {q = q} {q' = q'} at part) x y =
        let g = part_grows types order octets part in
        part_leaves n part (out_first q.here h q'.here n (ext_le h.met q'.here.met g.1) y) (out_second q.here h q'.here n (ext_le q.here.met h.met g.0) y)
    part_leaves n (a_null_full at) x y = refl
    part_leaves n (a_new {id = id} {s = s} {v = v} {p = p} {h = h} {q = q} {q' = q'} at is part) x y =
        let g = part_grows types order octets part in
        let one : length (p.met ++ (suc id, s) ∷ []) ≡ suc (length p.met) = omega (arith, length-append p.met ((suc id, s) ∷ [])) in
        other_item (length p.met) n v q'.items (out_not (length p.met) n (length (p.met ++ (suc id, s) ∷ [])) one x)
        ∙ part_leaves n part (out_first q.here h q'.here n (ext_le h.met q'.here.met g.1) y) (out_second q.here h q'.here n (ext_le q.here.met h.met g.0) y)
    part_leaves n (a_repeat at is alike) x y = refl

    pub parts_leave : {room : ℕ} {moved : Option ℕ} {ss : Forms} {vs : Vals} {p p' : Place} {q q' : Last} (n : ℕ) → Parts types order octets room moved ss vs p p' q q' → Out p p' n → Out q.here q'.here n → item q'.items n ≡ item q.items n
    parts_leave n no_part x y = refl
    parts_leave n (then_part {p = p} {h = h} {p' = p'} {q = q} {g = g} {q' = q'} part ps) x y =
        let a = part_grows types order octets part in
        let b = parts_grow types order octets ps in
        parts_leave n ps (out_second p h p' n (ext_le p.met h.met a.0) x) (out_second q.here g.here q'.here n (ext_le q.here.met g.here.met a.1) y)
        ∙ part_leaves n part (out_first p h p' n (ext_le h.met p'.met b.0) x) (out_first q.here g.here q'.here n (ext_le g.here.met q'.here.met b.1) y)

    pub items_leave : {room c : ℕ} {s : Form} {vs : Vals} {p p' : Place} {q q' : Last} (n : ℕ) → Items types order octets room c s vs p p' q q' → Out p p' n → Out q.here q'.here n → item q'.items n ≡ item q.items n
    items_leave n no_item x y = refl
    items_leave n (then_item {p = p} {h = h} {p' = p'} {q = q} {g = g} {q' = q'} part ps) x y =
        let a = part_grows types order octets part in
        let b = items_grow types order octets ps in
        items_leave n ps (out_second p h p' n (ext_le p.met h.met a.0) x) (out_second q.here g.here q'.here n (ext_le q.here.met g.here.met a.1) y)
        ∙ part_leaves n part (out_first p h p' n (ext_le h.met p'.met b.0) x) (out_first q.here g.here q'.here n (ext_le g.here.met q'.here.met b.1) y)

-- what was kept in a part is what the heap has
abbrev pub Kept : Vals → Place → Place → Last → Last → Type 0
Kept heap p p' q q' = (n : ℕ) → (In p p' n ⊎ In q.here q'.here n) → item q'.items n ≡ nth heap n

module _ (heap : Vals) where
  -- the first of two parts, where the second leaves its items
  pub kept_first : (p h p' : Place) (q g q' : Last) → Grown p h q g → Grown h p' g q' → Ext p'.met q.here.met → ((n : ℕ) → Out h p' n → Out g.here q'.here n → item q'.items n ≡ item g.items n) → Kept heap p p' q q' → Kept heap p h q g
  kept_first p h p' q g q' a b ext leaves kept n (inl x) =
      let le1 = ext_le h.met p'.met b.0 in
      let le2 = ext_le p'.met q.here.met ext in
      let le3 = ext_le q.here.met g.here.met a.1 in
      sym (leaves n (inl x.1) (inl (omega (arith, x.1, le1, le2, le3)))) ∙ kept n (inl (x.0, omega (arith, x.1, le1)))
  kept_first p h p' q g q' a b ext leaves kept n (inr x) =
      let le2 = ext_le p'.met q.here.met ext in
      let le3 = ext_le g.here.met q'.here.met b.1 in
      sym (leaves n (inr (omega (arith, x.0, le2))) (inl x.1)) ∙ kept n (inr (x.0, omega (arith, x.1, le3)))

  pub kept_second : (p h p' : Place) (q g q' : Last) → Grown p h q g → Kept heap p p' q q' → Kept heap h p' g q'
  kept_second p h p' q g q' a kept n (inl x) = let le = ext_le p.met h.met a.0 in kept n (inl (omega (arith, x.0, le), x.1))
  kept_second p h p' q g q' a kept n (inr x) = let le = ext_le q.here.met g.here.met a.1 in kept n (inr (omega (arith, x.0, le), x.1))

  -- what a pointer points to
  pub kept_inner : (h : Place) (q q' : Last) → Grown q.here h (onto h q) q' → ((n : ℕ) → In q.here q'.here n → item q'.items n ≡ nth heap n) → Kept heap q.here h (onto h q) q'
  kept_inner h q q' a kept n (inl x) = let le = ext_le h.met q'.here.met a.1 in kept n (x.0, omega (arith, x.1, le))
  kept_inner h q q' a kept n (inr x) = let le = ext_le q.here.met h.met a.0 in kept n (omega (arith, x.0, le), x.1)

  -- where a new item is behind it
  pub kept_new : (m : ℕ) (v : Val) (q q' : Last) → m < length q.here.met → ((n : ℕ) → In q.here q'.here n → item ((m, v) ∷ q'.items) n ≡ nth heap n) → (n : ℕ) → In q.here q'.here n → item q'.items n ≡ nth heap n
  kept_new m v q q' lt kept n x = sym (other_item m n v q'.items (less_not m n (omega (arith, lt, x.0)))) ∙ kept n x

pub has_nth : (items : List (ℕ × Val)) (k n : ℕ) (heap : Vals) (v : Val) → HasItems items k heap → nth heap n ≡ Some v → item items (k + n) ≡ Some v
has_nth items k n no_val v h e = absurd cc
has_nth items k zero (then_val x xs) v h e = ap (item items) (let z : k + 0 ≡ k = omega arith in z) ∙ h.0 ∙ e
has_nth items k (suc n) (then_val x xs) v h e = ap (item items) (let z : k + suc n ≡ suc k + n = omega arith in z) ∙ has_nth items (suc k) n xs v h.1 e
