-- Each item of the heap that is met is read.
use Rattle.std.proofs.Common.{◌≡◌, ℕ, zero, suc, ◌+◌, ◌<◌, ◌≤◌, Bool, true, false, List, [], ◌∷◌, length, length-append, Option, Some, refl, ap, subst, ◌∙◌, arith, inl, inr, ◌⊎◌}
use Rattle.std.specs.Prelude.{◌==◌, if◌then◌else◌}
use Rattle.std.proofs.lemmas.Bool.{cases_lt}
use Rattle.rpc_base.specs.declared.identifiers.Order.{Order}
use Rattle.ndr_value.specs.Forms.{Form, Forms}
use Rattle.ndr_value.specs.Values.{Val, Vals, no_val, then_val, count_of}
use Rattle.ndr_model.specs.Places.{Place, Last, noting}
use Rattle.ndr_model.specs.Part.{Part, a_bool, a_byte, a_char, an_int, a_uint, an_enum, a_handle, a_text, a_name, a_struct, an_empty_arm, an_arm, an_array, a_ref, a_null, a_unique, a_null_full, a_new, a_repeat, Parts, no_part, then_part, Items, no_item, then_item}
use Rattle.ndr_model.specs.Stub.{Entry, Follow, range_marks, item, HasItems}
use Rattle.ndr_model.specs.Message.{front_of, heap_from}
use Rattle.ndr_laws.proofs.Kept.{In, that_item}

abbrev pub Has : List (ℕ × Val) → ℕ → Type 0
Has items n = (v : Val) × (item items n ≡ Some v)

either_has : (b : Bool) (v : Val) (items : List (ℕ × Val)) (n : ℕ) → Has items n → (w : Val) × ((if b then Some v else item items n) ≡ Some w)
either_has true v items n h = (v, refl)
either_has false v items n h = h

still_has : (m n : ℕ) (v : Val) (items : List (ℕ × Val)) → Has items n → Has ((m, v) ∷ items) n
still_has m n v items h = either_has (m == n) v items n h

-- a number between two places is before a third, or behind it
split : (p h p' : Place) (n : ℕ) → In p p' n → In p h n ⊎ In h p' n
split p h p' n x = by (cases_lt n (length h.met))
  where
    by : (n < length h.met) ⊎ (length h.met ≤ n) → In p h n ⊎ In h p' n
    by (inl lt) = inl (x.0, lt)
    by (inr le) = inr (le, x.1)

joined : {A B C : Type 0} → A ⊎ B → (A → C) → (B → C) → C
joined (inl a) f g = f a
joined (inr b) f g = g b

none : {A : Type 0} (p q : Place) (n : ℕ) → In p p n ⊎ In q q n → A
none p q n (inl x) = absurd (omega (arith, x.0, x.1))
none p q n (inr x) = absurd (omega (arith, x.0, x.1))

module _ (types : List Form) (order : Order) (octets : List ℕ) (n : ℕ) where
  mutual
    pub part_keeps : {room : ℕ} {moved : Option ℕ} {s : Form} {v : Val} {p p' : Place} {q q' : Last} → Part types order octets room moved s v p p' q q' → Has q.items n → Has q'.items n
    part_keeps (a_bool at) h = h
    part_keeps (a_byte at) h = h
    part_keeps (a_char at) h = h
    part_keeps (an_int at) h = h
    part_keeps (a_uint at) h = h
    part_keeps (an_enum at lt) h = h
    part_keeps (a_handle at) h = h
    part_keeps (a_text at) h = h
    part_keeps (a_name is part) h = part_keeps part h
    part_keeps (a_struct b ps) h = parts_keep ps h
    part_keeps (an_empty_arm at is) h = h
    part_keeps (an_arm at is part) h = part_keeps part h
    part_keeps (an_array at ps) h = items_keep ps h
    part_keeps (a_ref at part) h = part_keeps part h
    part_keeps (a_null at) h = h
    part_keeps (a_unique at part) h = part_keeps part h
    part_keeps (a_null_full at) h = h
    part_keeps (a_new {v = v} {p = p} {q' = q'} at is part) h = still_has (length p.met) n v q'.items (part_keeps part h)
    part_keeps (a_repeat at is alike) h = h

    parts_keep : {room : ℕ} {moved : Option ℕ} {ss : Forms} {vs : Vals} {p p' : Place} {q q' : Last} → Parts types order octets room moved ss vs p p' q q' → Has q.items n → Has q'.items n
    parts_keep no_part h = h
    parts_keep (then_part part ps) h = parts_keep ps (part_keeps part h)

    items_keep : {room c : ℕ} {s : Form} {vs : Vals} {p p' : Place} {q q' : Last} → Items types order octets room c s vs p p' q q' → Has q.items n → Has q'.items n
    items_keep no_item h = h
    items_keep (then_item part ps) h = items_keep ps (part_keeps part h)

  mutual
    pub part_fills : {room : ℕ} {moved : Option ℕ} {s : Form} {v : Val} {p p' : Place} {q q' : Last} → Part types order octets room moved s v p p' q q' → In p p' n ⊎ In q.here q'.here n → Has q'.items n
    part_fills (a_bool {p = p} {q = q} at) x = none p q.here n x
    part_fills (a_byte {p = p} {q = q} at) x = none p q.here n x
    part_fills (a_char {p = p} {q = q} at) x = none p q.here n x
    part_fills (an_int {p = p} {q = q} at) x = none p q.here n x
    part_fills (a_uint {p = p} {q = q} at) x = none p q.here n x
    part_fills (an_enum {p = p} {q = q} at lt) x = none p q.here n x
    part_fills (a_handle {p = p} {q = q} at) x = none p q.here n x
    part_fills (a_text {p = p} {q = q} at) x = none p q.here n x
    part_fills (a_name is part) x = part_fills part x
    part_fills (a_struct b ps) x = parts_fill ps x
    part_fills (an_empty_arm {p = p} {q = q} at is) x = none p q.here n x
    part_fills (an_arm at is part) x = part_fills part x
    part_fills (an_array at ps) x = items_fill ps x
    part_fills (a_ref {p = p} {h = h} {q = q} {q' = q'} at part) (inl y) = absurd (omega (arith, y.0, y.1))
    part_fills (a_ref {p = p} {h = h} {q = q} {q' = q'} at part) (inr y) = part_fills part (split q.here h q'.here n y)
    part_fills (a_null {p = p} {q = q} at) x = none p q.here n x
    part_fills (a_unique {p = p} {h = h} {q = q} {q' = q'} at part) (inl y) = absurd (omega (arith, y.0, y.1))
    part_fills (a_unique {p = p} {h = h} {q = q} {q' = q'} at part) (inr y) = part_fills part (split q.here h q'.here n y)
    part_fills (a_null_full {p = p} {q = q} at) x = none p q.here n x
    part_fills (a_new {id = id} {s = s} {v = v} {p = p} {h = h} {q = q} {q' = q'} at is part) (inl y) =
        let same : length p.met ≡ n = omega (arith, y.0, y.1, length-append p.met ((suc id, s) ∷ [])) in
        subst (λ (k : ℕ). Has ((length p.met, v) ∷ q'.items) k) same (v, that_item (length p.met) v q'.items)
    part_fills (a_new {v = v} {p = p} {h = h} {q = q} {q' = q'} at is part) (inr y) = still_has (length p.met) n v q'.items (part_fills part (split q.here h q'.here n y))
    part_fills (a_repeat {p = p} {q = q} at is alike) x = none p q.here n x

    parts_fill : {room : ℕ} {moved : Option ℕ} {ss : Forms} {vs : Vals} {p p' : Place} {q q' : Last} → Parts types order octets room moved ss vs p p' q q' → In p p' n ⊎ In q.here q'.here n → Has q'.items n
    parts_fill (no_part {p = p} {q = q}) x = none p q.here n x
    parts_fill (then_part {p = p} {h = h} {p' = p'} {q = q} {g = g} {q' = q'} part ps) (inl y) = joined (split p h p' n y) (λ z. parts_keep ps (part_fills part (inl z))) (λ z. parts_fill ps (inl z))
    parts_fill (then_part {p = p} {h = h} {p' = p'} {q = q} {g = g} {q' = q'} part ps) (inr y) = joined (split q.here g.here q'.here n y) (λ z. parts_keep ps (part_fills part (inr z))) (λ z. parts_fill ps (inr z))

    items_fill : {room c : ℕ} {s : Form} {vs : Vals} {p p' : Place} {q q' : Last} → Items types order octets room c s vs p p' q q' → In p p' n ⊎ In q.here q'.here n → Has q'.items n
    items_fill (no_item {p = p} {q = q}) x = none p q.here n x
    items_fill (then_item {p = p} {h = h} {p' = p'} {q = q} {g = g} {q' = q'} part ps) (inl y) = joined (split p h p' n y) (λ z. items_keep ps (part_fills part (inl z))) (λ z. items_fill ps (inl z))
    items_fill (then_item {p = p} {h = h} {p' = p'} {q = q} {g = g} {q' = q'} part ps) (inr y) = joined (split q.here g.here q'.here n y) (λ z. items_keep ps (part_fills part (inr z))) (λ z. items_fill ps (inr z))

  follow_keeps : (es : List Entry) (vs : Vals) (q q' : Last) → Follow types order octets es vs q q' → Has q.items n → Has q'.items n
  follow_keeps [] no_val q q' f h = subst (λ (x : Last). Has x.items n) f h
  follow_keeps [] (then_val v vs) q q' f h = absurd f
  follow_keeps (e ∷ es) no_val q q' f h = absurd f
  follow_keeps (e ∷ es) (then_val v vs) q q' f h = follow_keeps es vs (noting (range_marks e q.here.at) f.0) q' f.2 (part_keeps f.1.part h)

  pub follow_fills : (es : List Entry) (vs : Vals) (q q' : Last) → Follow types order octets es vs q q' → In q.here q'.here n → Has q'.items n
  follow_fills [] no_val q q' f x = let same = ap (λ (y : Last). length y.here.met) f in absurd (omega (arith, x.0, x.1, same))
  follow_fills [] (then_val v vs) q q' f x = absurd f
  follow_fills (e ∷ es) no_val q q' f x = absurd f
  follow_fills (e ∷ es) (then_val v vs) q q' f x =
      joined (split q.here f.0.here q'.here n x) (λ y. follow_keeps es vs (noting (range_marks e q.here.at) f.0) q' f.2 (part_fills f.1.part (split q.here f.1.h f.0.here n y)))
      (λ y. follow_fills es vs (noting (range_marks e q.here.at) f.0) q' f.2 y)

-- the heap of items that are all there
pub record Heaped (items : List (ℕ × Val)) (n k : ℕ) : Type 0 where
  pub heap : Vals
  pub found : heap_from items n k ≡ Some heap
  pub count : count_of heap ≡ k
  pub has : HasItems items n heap

front_there : (o : Option Val) (p : Option Vals) (v : Val) (vs : Vals) → o ≡ Some v → p ≡ Some vs → front_of o p ≡ Some (then_val v vs)
front_there o p v vs e f = ap (λ (x : Option Val). front_of x p) e ∙ ap (front_of (Some v)) f

pub heaped : (items : List (ℕ × Val)) (n k : ℕ) → ((j : ℕ) → n ≤ j → j < n + k → Has items j) → Heaped items n k
heaped items n zero h = record { heap = no_val; found = refl; count = refl; has = tt }
heaped items n (suc k) h =
    let first = h n (omega arith) (omega arith) in
    let rest = heaped items (suc n) k (λ j le lt. h j (omega (arith, le)) (omega (arith, lt))) in
    record { heap = then_val first.0 rest.heap; found = front_there (item items n) (heap_from items (suc n) k) first.0 rest.heap first.1 rest.found; count = ap suc rest.count; has = (first.1, rest.has) }
