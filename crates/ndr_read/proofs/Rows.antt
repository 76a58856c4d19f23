-- Rows of values, as a loop builds them.
use Rattle.std.proofs.Common.{◌≡◌, ℕ, zero, suc, ◌+◌, ◌-◌, ◌<◌, ◌≤◌, List, [], ◌∷◌, ◌++◌, drop, length, get_or, Option, None, Result, Ok, Err, refl, sym, ap, subst, ◌∙◌, arith}
use Rattle.std.proofs.lemmas.List.{drop_all}
use Rattle.rpc_base.specs.declared.identifiers.Order.{Order}
use Rattle.ndr_value.specs.declared.shape.Shape.{Shape}
use Rattle.ndr_value.specs.declared.value.Value.{Value}
use Rattle.ndr_value.specs.Forms.{Form, Forms, OfStruct, OfUnion, ArmForms, Body, form, forms}
use Rattle.ndr_value.specs.Values.{Val, Vals, no_val, then_val, val, vals}
use Rattle.ndr_arrays.specs.Bind.{◌>>=◌}
use Rattle.std.specs.Prelude.{ℤ}
use Rattle.ndr_value.specs.Fits.{arm_of}
use Rattle.ndr_scalars.specs.Scalars.{up}
use Rattle.ndr_model.specs.declared.departure.Departure.{Departure}
use Rattle.ndr_model.specs.declared.mark.Mark.TheVariants.{Number}
use Rattle.ndr_model.specs.Part.{for_last, in_place, tag_size, opened_marks, tag_marks}
use Rattle.ndr_model.specs.Reading.{struct_at, tag_at}
use Rattle.ndr_read.specs.declared.state.Kept.{Kept}
use Rattle.ndr_read.specs.Views.{items_of}
use Rattle.ndr_model.specs.Places.{Place, Last, noting}
use Rattle.ndr_model.specs.Scan.{Scanned, scan}
use Rattle.ndr_model.specs.Build.{Cursor, PartEnds, ahead, ends, Built, Row, build, build_at, built_each, built_times, built_arm, in_struct}
use Rattle.ndr_pointers.specs.declared.scan_fault.ReadError.{ReadError}
use Rattle.ndr_pointers.specs.declared.scan_fault.ReadError.TheVariants as errors
use Rattle.ndr_pointers.specs.Gives.{Fails}
use Rattle.ndr_read.specs.Readings.{join}
use Rattle.ndr_pointers.proofs.Walks.{drop_more}

pub join_none : (vs : Vals) → join vs no_val ≡ vs
join_none no_val = refl
join_none (then_val v vs) = ap (then_val v) (join_none vs)

pub join_one : (vs : Vals) (v : Val) (ws : Vals) → join (join vs (then_val v no_val)) ws ≡ join vs (then_val v ws)
join_one no_val v ws = refl
join_one (then_val x vs) v ws = ap (then_val x) (join_one vs v ws)

pub vals_push : (xs : List Value) (x : Value) → vals (xs ++ x ∷ []) ≡ join (vals xs) (then_val (val x) no_val)
vals_push [] x = refl
vals_push (y ∷ ys) x = ap (then_val (val y)) (vals_push ys x)

-- what was built before, and what is still built
abbrev pub with_front : Vals → Row → Row
with_front front row = row >>= λ y. Ok (join front y.0, y.1)

regroup : (front : Vals) (v : Val) (row : Row) → with_front front (row >>= λ y. Ok (then_val v y.0, y.1)) ≡ with_front (join front (then_val v no_val)) row
regroup front v (Ok y) = ap (λ (vs : Vals). Ok (vs, y.1)) (sym (join_one front v y.0))
regroup front v (Err e) = refl

-- ---- as many of one shape

pub one_more : (go : Cursor → Last → Built) (front : Vals) (count i : ℕ) (a : Cursor) (q : Last) (v : Val) (e : PartEnds) (total : Row) → i < count → go a q ≡ Ok (v, e)
    → with_front front (built_times go (count - i) a q) ≡ total → with_front (join front (then_val v no_val)) (built_times go (count - (i + 1)) e.flat e.all) ≡ total
one_more go front count i a q v e total lt h so_far =
    let k : count - i ≡ suc (count - (i + 1)) = omega arith in
    let one : with_front front (built_times go (count - i) a q) ≡ with_front (join front (then_val v no_val)) (built_times go (count - (i + 1)) e.flat e.all) = rw (k, h) (regroup front v (built_times go (count - (i + 1)) e.flat e.all)) in
    sym one ∙ so_far

pub one_fails : (err : ReadError) (go : Cursor → Last → Built) (front : Vals) (count i : ℕ) (a : Cursor) (q : Last) (total : Row) → i < count → Fails err (go a q)
    → with_front front (built_times go (count - i) a q) ≡ total → Fails err total
one_fails errors.Memory go front count i a q total lt h so_far = tt
one_fails (errors.Departs d) go front count i a q total lt h so_far =
    let k : count - i ≡ suc (count - (i + 1)) = omega arith in
    let one : with_front front (built_times go (count - i) a q) ≡ Err d = rw (k, h) refl in
    sym so_far ∙ one

pub all_done : (go : Cursor → Last → Built) (front : Vals) (count i : ℕ) (a : Cursor) (q : Last) (total : Row) → count ≤ i
    → with_front front (built_times go (count - i) a q) ≡ total → total ≡ Ok (front, ends a q)
all_done go front count i a q total le so_far =
    let k : count - i ≡ 0 = omega arith in
    let one : with_front front (built_times go (count - i) a q) ≡ Ok (front, ends a q) = rw k (ap (λ (vs : Vals). Ok (vs, ends a q)) (join_none front)) in
    sym so_far ∙ one

-- ---- shapes in order, of which the last has what moved

pub each_more : (go : Option ℕ → Form → Cursor → Last → Built) (own moved : Option ℕ) (front : Vals) (shapes : List Shape) (i : ℕ) (s : Shape) (a : Cursor) (q : Last) (v : Val) (e : PartEnds) (total : Row) → i < length shapes → s ≡ get_or shapes i s
    → moved ≡ for_last (forms (drop (i + 1) shapes)) own → go moved (form s) a q ≡ Ok (v, e)
    → with_front front (built_each go own (forms (drop i shapes)) a q) ≡ total → with_front (join front (then_val v no_val)) (built_each go own (forms (drop (i + 1) shapes)) e.flat e.all) ≡ total
each_more go own moved front shapes i s a q v e total lt is m h so_far =
    let k : drop i shapes ≡ s ∷ drop (i + 1) shapes = drop_more shapes i s lt is in
    let one : with_front front (built_each go own (forms (drop i shapes)) a q) ≡ with_front (join front (then_val v no_val)) (built_each go own (forms (drop (i + 1) shapes)) e.flat e.all) = rw (k, ← m, h) (regroup front v (built_each go own (forms (drop (i + 1) shapes)) e.flat e.all)) in
    sym one ∙ so_far

pub each_fails : (err : ReadError) (go : Option ℕ → Form → Cursor → Last → Built) (own moved : Option ℕ) (front : Vals) (shapes : List Shape) (i : ℕ) (s : Shape) (a : Cursor) (q : Last) (total : Row) → i < length shapes → s ≡ get_or shapes i s
    → moved ≡ for_last (forms (drop (i + 1) shapes)) own → Fails err (go moved (form s) a q) → with_front front (built_each go own (forms (drop i shapes)) a q) ≡ total → Fails err total
each_fails errors.Memory go own moved front shapes i s a q total lt is m h so_far = tt
each_fails (errors.Departs d) go own moved front shapes i s a q total lt is m h so_far =
    let k : drop i shapes ≡ s ∷ drop (i + 1) shapes = drop_more shapes i s lt is in
    let one : with_front front (built_each go own (forms (drop i shapes)) a q) ≡ Err d = rw (k, ← m, h) refl in
    sym so_far ∙ one

pub each_done : (go : Option ℕ → Form → Cursor → Last → Built) (own : Option ℕ) (front : Vals) (shapes : List Shape) (i : ℕ) (a : Cursor) (q : Last) (total : Row) → length shapes ≤ i
    → with_front front (built_each go own (forms (drop i shapes)) a q) ≡ total → total ≡ Ok (front, ends a q)
each_done go own front shapes i a q total le so_far =
    let k : drop i shapes ≡ [] = drop_all i shapes le in
    let one : with_front front (built_each go own (forms (drop i shapes)) a q) ≡ Ok (front, ends a q) = rw k (ap (λ (vs : Vals). Ok (vs, ends a q)) (join_none front)) in
    sym so_far ∙ one

pub build_step : (types : List Form) (order : Order) (octets : List ℕ) (n room : ℕ) (moved : Option ℕ) (s : Form) (a : Cursor) (q : Last) → (n ≡ 0 → ⊥)
    → build types order octets n room moved s a q ≡ build_at types order octets (scan types order octets (n - 1)) (build types order octets (n - 1)) room moved s a q
unfolding build
build_step types order octets zero room moved s a q h = absurd (h refl)
build_step types order octets (suc n) room moved s a q h = let e : suc n - 1 ≡ n = omega arith in rw e refl

-- ---- one step

module _ (types : List Form) (order : Order) (octets : List ℕ) (sc : ℕ → Option ℕ → Form → Place → Scanned) (bu : ℕ → Option ℕ → Form → Cursor → Last → Built) where
  pub struct_build : (room : ℕ) (moved own : Option ℕ) (s : Form) (ss : Forms) (a : Cursor) (q : Last) (i : ℕ) → s ≡ OfStruct ss → struct_at order octets types ss moved a.at ≡ Ok (own, i)
      → build_at types order octets sc bu room moved s a q ≡ in_struct (built_each (bu room) own ss (ahead a i) (noting (opened_marks moved own a.at) q))
  struct_build room moved own s ss a q i is e =
      ap (λ (t : Form). build_at types order octets sc bu room moved t a q) is
      ∙ ap (λ (r : Result (Option ℕ × ℕ) Departure). r >>= λ x. in_struct (built_each (bu room) x.0 ss (ahead a x.1) (noting (opened_marks moved x.0 a.at) q))) e

  pub union_build : (room : ℕ) (moved : Option ℕ) (s t : Form) (arms : ArmForms) (a : Cursor) (q : Last) (tag : ℤ) (i : ℕ) (b : Option Body) → s ≡ OfUnion t arms → tag_at order octets t arms (in_place types s a.at) ≡ Ok (tag, i)
      → i ≡ up (in_place types s a.at) (tag_size t) + tag_size t → arm_of (OfUnion t arms) tag ≡ b
      → build_at types order octets sc bu room moved s a q ≡ built_arm b (i - tag_size t) tag (ahead a i) (noting (Number (i - tag_size t) tag ∷ []) q) (bu room None)
  union_build room moved s t arms a q tag i b is e i_is b_is =
      let u = OfUnion t arms in
      let f : tag_at order octets t arms (in_place types u a.at) ≡ Ok (tag, i) = subst (λ (x : Form). tag_at order octets t arms (in_place types x a.at) ≡ Ok (tag, i)) is e in
      let g : i ≡ up (in_place types u a.at) (tag_size t) + tag_size t = subst (λ (x : Form). i ≡ up (in_place types x a.at) (tag_size t) + tag_size t) is i_is in
      let k : up (in_place types u a.at) (tag_size t) ≡ i - tag_size t = omega (arith, g) in
      ap (λ (x : Form). build_at types order octets sc bu room moved x a q) is
      ∙ ap (λ (r : Result (ℤ × ℕ) Departure). r >>= λ x. built_arm (arm_of u x.0) (up (in_place types u a.at) (tag_size t)) x.0 (ahead a x.1) (noting (tag_marks types t u x.0 a.at) q) (bu room None)) f
      ∙ ap (λ (c : Option Body). built_arm c (up (in_place types u a.at) (tag_size t)) tag (ahead a i) (noting (tag_marks types t u tag a.at) q) (bu room None)) b_is
      ∙ ap (λ (j : ℕ). built_arm b j tag (ahead a i) (noting (Number j tag ∷ []) q) (bu room None)) k

-- one item more
pub items_push : (ks : List Kept) (k : Kept) → items_of (ks ++ k ∷ []) ≡ (k.number, val k.value) ∷ items_of ks
items_push [] k = refl
items_push (x ∷ xs) k = ap (λ (ys : List (ℕ × Val)). ys ++ (x.number, val x.value) ∷ []) (items_push xs k)
