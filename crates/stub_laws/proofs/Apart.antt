-- No two counts, tags and numbers with ranges that are noted of a stub stand at one index.
use Rattle.std.proofs.Common.{◌≡◌, ℕ, zero, suc, ◌+◌, ◌-◌, ◌*◌, ◌/◌, ◌<◌, ◌≤◌, ℤ, Bool, true, false, List, [], ◌∷◌, ◌++◌, Option, Some, None, refl, ap, subst, arith}
use Rattle.std.specs.Prelude.{nat_lt, int_le, ◌==◌, ◌&&◌, ◌||◌, if◌then◌else◌, is_some, slice_get}
use Rattle.std.specs.List.{list_all}
use Rattle.std.proofs.lemmas.Bool.{ltb-true}
use Rattle.rpc_base.specs.declared.identifiers.Order.{Order}
use Rattle.ndr_value.specs.declared.shape.ArrayKind.{ArrayKind}
use Rattle.ndr_value.specs.Forms.{Form, OfStruct, OfUnion, OfRef, Forms, ArmForms}
use Rattle.ndr_value.specs.Values.{Val, Vals, no_val, then_val}
use Rattle.ndr_table.specs.declared.operation.Bounds.{Bounds}
use Rattle.ndr_table.specs.Tables.{ParamForm, OpForm}
use Rattle.ndr_table.specs.Sound.{is_sound, handle_kind, is_small_number, may_range, range_sound, param_sound, result_sound, op_sound}
use Rattle.ndr_scalars.specs.Scalars.{up, octets_of, Scalar}
use Rattle.ndr_arrays.specs.declared.counts.Counts.{Counts}
use Rattle.ndr_arrays.specs.Counted.{HasMost, moved_most, a_most, HasActual, HasCounts, of_fixed, of_varying, of_conformant, of_both}
use Rattle.ndr_arrays.specs.Texts.{HasLimit, of_size, of_count, IsText}
use Rattle.ndr_model.specs.declared.way.Way.{Way}
use Rattle.ndr_model.specs.declared.way.Way.TheVariants.{Request, Response}
use Rattle.ndr_model.specs.declared.mark.Mark.{Mark}
use Rattle.ndr_model.specs.declared.mark.Mark.TheVariants.{Number, Referent, Ranged}
use Rattle.ndr_model.specs.Places.{Place, Last, noting}
use Rattle.ndr_model.specs.Part.{IsTag, tag_bool, tag_char, tag_int, tag_uint, tag_enum, tag_size, in_place, Opens, in_a_greater, in_front, not_open, Begins, opened_marks, count_marks, tag_marks, Part, a_bool, a_byte, a_char, an_int, a_uint, an_enum, a_handle, a_text, a_name, a_struct, an_empty_arm, an_arm, an_array, a_ref, a_null, a_unique, a_null_full, a_new, a_repeat, Parts, no_part, then_part, Items, no_item, then_item, Whole}
use Rattle.ndr_model.specs.Stub.{Entry, of_param, param_entry, goes, last_entry, entries_of, entries, ranged, range_marks, start, Follow}
use Rattle.ndr_laws.proofs.Openings.{space_ends}
use Rattle.stub_laws.specs.One.{one_at}

-- one, where index i lies before k
unfoldable pub passed : ℕ → ℕ → ℕ
passed i k = if nat_lt i k then 1 else 0

passed_by : (a b : Bool) → (a ≡ true → b ≡ true) → (if a then 1 else 0) ≤ (if b then 1 else 0)
passed_by true true h = omega arith
passed_by true false h = absurd (let f = h refl in cc)
passed_by false true h = omega arith
passed_by false false h = omega arith

further : (i j k : ℕ) → j ≤ k → passed i j ≤ passed i k
unfolding passed
further i j k le = passed_by (nat_lt i j) (nat_lt i k) (λ e. grind (arith, le, e))

at_most_one : (i k : ℕ) → passed i k ≤ 1
unfolding passed
at_most_one i k = by (nat_lt i k)
  where
    by : (b : Bool) → (if b then 1 else 0) ≤ 1
    by true = omega arith
    by false = omega arith

none_before : (i : ℕ) → passed i 0 ≡ 0
unfolding passed
none_before i = by (nat_lt i 0) refl
  where
    by : (b : Bool) → nat_lt i 0 ≡ b → ◌≡◌ {A = ℕ} (if b then 1 else 0) 0
    by true e = absurd (let lt = ltb-true _ _ e in omega (arith, lt))
    by false e = refl

-- a number at index m, between j and k
over : (i j m k : ℕ) → j ≤ m → m < k → one_at i m + passed i j ≤ passed i k
unfolding passed one_at
over i j m k le lt = by (m == i) (nat_lt i j) (nat_lt i k) refl refl refl
  where
    by : (a b c : Bool) → (m == i) ≡ a → nat_lt i j ≡ b → nat_lt i k ≡ c → (if a then 1 else 0) + (if b then 1 else 0) ≤ (if c then 1 else 0)
    by true true c e f g = absurd (grind (arith, le, e, f))
    by true false true e f g = omega arith
    by true false false e f g = absurd (grind (arith, lt, e, g))
    by false true true e f g = omega arith
    by false true false e f g = absurd (grind (arith, le, lt, f, g))
    by false false true e f g = omega arith
    by false false false e f g = omega arith

-- ---- marks

abbrev pub mark_at : ℕ → Mark → ℕ
mark_at i (Number j z) = one_at i j
mark_at i (Referent b) = 0
mark_at i (Ranged j) = one_at i j

-- how many marks are of that index
abbrev pub marks_at : ℕ → List Mark → ℕ
marks_at i [] = 0
marks_at i (m ∷ ms) = mark_at i m + marks_at i ms

marks_append : (i : ℕ) (ms ns : List Mark) → marks_at i (ms ++ ns) ≡ marks_at i ms + marks_at i ns
marks_append i [] ns = omega arith
marks_append i (m ∷ ms) ns = let h = marks_append i ms ns in omega (arith, h)

-- ---- where numbers stand

up_by : (a b c : Bool) (i : ℕ) → i ≤ (i + ((if a then 1 else (if b then 2 else (if c then 4 else 8))) - 1)) / (if a then 1 else (if b then 2 else (if c then 4 else 8))) * (if a then 1 else (if b then 2 else (if c then 4 else 8)))
up_by true b c i = omega arith
up_by false true c i = omega arith
up_by false false true i = omega arith
up_by false false false i = omega arith

up_from : (size i : ℕ) → i ≤ up i (octets_of size)
up_from size i = up_by (size == 1) (size == 2) (size == 4) i

some_by : (a b c : Bool) → 1 ≤ (if a then 1 else (if b then 2 else (if c then 4 else 8)))
some_by true b c = omega arith
some_by false true c = omega arith
some_by false false true = omega arith
some_by false false false = omega arith

some_octets : (size : ℕ) → 1 ≤ octets_of size
some_octets size = some_by (size == 1) (size == 2) (size == 4)

record Stands (i m j : ℕ) : Type 0 where
  from : i ≤ m
  before : m < j

scalar_stands : {order : Order} {octets : List ℕ} {size n i j : ℕ} → Scalar order octets size n i j → Stands i (up i (octets_of size)) j
scalar_stands {size = size} {i = i} s = let a = up_from size i in let b = some_octets size in record { from = a; before = omega (arith, s.ends, b) }

scalar_on : {order : Order} {octets : List ℕ} {size n i j : ℕ} → Scalar order octets size n i j → i ≤ j
scalar_on s = let x = scalar_stands s in omega (arith, x.from, x.before)

tag_stands : {order : Order} {octets : List ℕ} {t : Form} {tag : ℤ} {i j : ℕ} → IsTag order octets t tag i j → Stands i (up i (tag_size t)) j
tag_stands (tag_bool s) = scalar_stands s
tag_stands (tag_char s) = scalar_stands s
tag_stands (tag_int s) = scalar_stands s
tag_stands (tag_uint s lt) = scalar_stands s
tag_stands (tag_enum s lt) = scalar_stands s

place_on : (types : List Form) (s : Form) (i : ℕ) → i ≤ in_place types s i
place_on types s i = let e = space_ends types s i in omega (arith, e)

-- ---- the counts in front of an array, and a structure's

-- what stands from j to k, with those marks
abbrev Along : ℕ → List Mark → ℕ → ℕ → Type 0
Along i ms j k = marks_at i ms + passed i j ≤ passed i k

module _ {order : Order} {octets : List ℕ} where
  most_on : {moved : Option ℕ} {most i j : ℕ} → HasMost order octets moved most i j → i ≤ j
  most_on moved_most = omega arith
  most_on (a_most s) = scalar_on s

  -- an actual_count stands in the last four octets
  actual_stands : {most actual i j : ℕ} → HasActual order octets most actual i j → Stands i (j - 4) j
  actual_stands a =
      let x = scalar_stands a.offset in
      let y = scalar_stands a.actual_count in
      let on = scalar_on a.offset in
      record { from = omega (arith, on, y.from, a.actual_count.ends); before = omega (arith, y.from, a.actual_count.ends) }

  limit_on : {moved size : Option ℕ} {most i j : ℕ} → HasLimit order octets moved size most i j → i ≤ j
  limit_on of_size = omega arith
  limit_on (of_count m) = most_on m

  text_on : {moved size : Option ℕ} {text : List ℕ} {i j : ℕ} → IsText order octets size moved text i j → i ≤ j
  text_on t = let a = limit_on t.limit in let b = actual_stands t.counted in omega (arith, a, b.from, b.before, t.ends)

  counts_along : (n : ℕ) {kind : ArrayKind} {moved : Option ℕ} {counts : Counts} {i j : ℕ} → HasCounts order octets moved kind counts i j → Along n (count_marks kind moved counts i j) i j
  counts_along n of_fixed = omega arith
  counts_along n {i = i} {j = j} (of_varying a) = let s = actual_stands a in let h = over n i (j - 4) j s.from s.before in omega (arith, h)
  counts_along n (of_conformant moved_most) = omega arith
  counts_along n {i = i} {j = j} (of_conformant (a_most s)) = let x = scalar_stands s in let h = over n i (up i 4) j x.from x.before in omega (arith, h)
  counts_along n {i = i} {j = j} (of_both moved_most a) = let s = actual_stands a in let h = over n i (j - 4) j s.from s.before in omega (arith, h)
  counts_along n {i = i} {j = j} (of_both {h = k} (a_most s) a) =
      let x = scalar_stands s in
      let g = over n i (up i 4) k x.from x.before in
      let y = actual_stands a in
      let h = over n k (j - 4) j y.from y.before in
      omega (arith, g, h)

  opens_along : (n : ℕ) {types : List Form} {ss : Forms} {moved own : Option ℕ} {i k : ℕ} → Opens types order octets ss moved own i k → Along n (opened_marks moved own i) i k
  opens_along n in_a_greater = omega arith
  opens_along n {i = i} {k = k} (in_front is s) = let x = scalar_stands s in let h = over n i (up i 4) k x.from x.before in omega (arith, h)
  opens_along n (not_open is) = omega arith

  begins_along : (n : ℕ) {types : List Form} {ss : Forms} {moved own : Option ℕ} {i j : ℕ} → Begins types order octets ss moved own i j → Along n (opened_marks moved own i) i j
  begins_along n {types} {ss} {i = i} {j = j} b =
      let o = opens_along n b.opens in
      let on = place_on types (OfStruct ss) b.k in
      let h = further n b.k j (omega (arith, on, b.ends)) in
      omega (arith, o, h)

  tag_along : (n : ℕ) (types : List Form) (t : Form) (arms : ArmForms) (tag : ℤ) (i j : ℕ) → IsTag order octets t tag (in_place types (OfUnion t arms) i) j → Along n (tag_marks types t (OfUnion t arms) tag i) i j
  tag_along n types t arms tag i j at =
      let x = tag_stands at in
      let on = place_on types (OfUnion t arms) i in
      let h = over n i (up (in_place types (OfUnion t arms) i) (tag_size t)) j (omega (arith, on, x.from)) x.before in
      omega (arith, h)

-- ---- entries whose ranges stand on numbers alone

abbrev pub IsRanged : Option Bounds → Form → Type 0
IsRanged None s = Unit {0}
IsRanged (Some b) s = is_small_number s ≡ true

abbrev pub AreRanged : List Entry → Type 0
AreRanged [] = Unit {0}
AreRanged (e ∷ es) = IsRanged e.range e.shape × AreRanged es

-- ---- values

-- what was noted from p to p' and from q to q'
abbrev Keeps : ℕ → Place → Place → Last → Last → Type 0
Keeps n p p' q q' = marks_at n q'.marks + (passed n p.at + passed n q.here.at) ≤ marks_at n q.marks + (passed n p'.at + passed n q'.here.at)

module _ (types : List Form) (order : Order) (octets : List ℕ) (n : ℕ) where
  on_to : (p : Place) (j : ℕ) (q : Last) → p.at ≤ j → marks_at n q.marks + (passed n p.at + passed n q.here.at) ≤ marks_at n q.marks + (passed n j + passed n q.here.at)
  on_to p j q le = let h = further n p.at j le in omega (arith, h)

  mutual
    part_keeps : {room : ℕ} {moved : Option ℕ} {s : Form} {v : Val} {p p' : Place} {q q' : Last} → Part types order octets room moved s v p p' q q' → Keeps n p p' q q'
    part_keeps (a_bool {j = j} {p = p} {q = q} at) = on_to p j q (scalar_on at)
    part_keeps (a_byte {j = j} {p = p} {q = q} at) = on_to p j q (scalar_on at)
    part_keeps (a_char {j = j} {p = p} {q = q} at) = on_to p j q (scalar_on at)
    part_keeps (an_int {j = j} {p = p} {q = q} at) = on_to p j q (scalar_on at)
    part_keeps (a_uint {j = j} {p = p} {q = q} at) = on_to p j q (scalar_on at)
    part_keeps (an_enum {j = j} {p = p} {q = q} at lt) = on_to p j q (scalar_on at)
    part_keeps (a_handle {j = j} {p = p} {q = q} at) = on_to p j q (omega (arith, at.ends))
    part_keeps (a_text {j = j} {p = p} {q = q} at) = on_to p j q (text_on at)
    part_keeps (a_name is part) = part_keeps part
    part_keeps (a_struct {moved = moved} {own = own} {p = p} {q = q} b ps) =
        let a = begins_along n b in
        let h = parts_keep ps in
        let m = marks_append n q.marks (opened_marks moved own p.at) in
        omega (arith, a, h, m)
    part_keeps (an_empty_arm {j = j} {t = t} {arms = arms} {tag = tag} {p = p} {q = q} at is) =
        let a = tag_along n types t arms tag p.at j at in
        let m = marks_append n q.marks (tag_marks types t (OfUnion t arms) tag p.at) in
        omega (arith, a, m)
    part_keeps (an_arm {j = j} {t = t} {arms = arms} {tag = tag} {p = p} {q = q} at is part) =
        let a = tag_along n types t arms tag p.at j at in
        let h = part_keeps part in
        let m = marks_append n q.marks (tag_marks types t (OfUnion t arms) tag p.at) in
        omega (arith, a, h, m)
    part_keeps (an_array {i = i} {moved = moved} {kind = kind} {counts = counts} {p = p} {q = q} at ps) =
        let a = counts_along n at in
        let h = items_keep ps in
        let m = marks_append n q.marks (count_marks kind moved counts p.at i) in
        omega (arith, a, h, m)
    part_keeps (a_ref {j = j} {p = p} at part) = let a = further n p.at j (scalar_on at) in let h = part_keeps part in omega (arith, a, h)
    part_keeps (a_null {j = j} {p = p} {q = q} at) = on_to p j q (scalar_on at)
    part_keeps (a_unique {j = j} {p = p} at part) = let a = further n p.at j (scalar_on at) in let h = part_keeps part in omega (arith, a, h)
    part_keeps (a_null_full {j = j} {p = p} {q = q} at) = on_to p j q (scalar_on at)
    part_keeps (a_new {j = j} {p = p} {q = q} at is part) =
        let a = further n p.at j (scalar_on at) in
        let h = part_keeps part in
        let m = marks_append n q.marks (Referent true ∷ []) in
        omega (arith, a, h, m)
    part_keeps (a_repeat {j = j} {p = p} {q = q} at is alike) =
        let a = further n p.at j (scalar_on at) in
        let m = marks_append n q.marks (Referent false ∷ []) in
        omega (arith, a, m)

    parts_keep : {room : ℕ} {moved : Option ℕ} {ss : Forms} {vs : Vals} {p p' : Place} {q q' : Last} → Parts types order octets room moved ss vs p p' q q' → Keeps n p p' q q'
    parts_keep no_part = omega arith
    parts_keep (then_part part ps) = let a = part_keeps part in let b = parts_keep ps in omega (arith, a, b)

    items_keep : {room c : ℕ} {s : Form} {vs : Vals} {p p' : Place} {q q' : Last} → Items types order octets room c s vs p p' q q' → Keeps n p p' q q'
    items_keep no_item = omega arith
    items_keep (then_item part ps) = let a = part_keeps part in let b = items_keep ps in omega (arith, a, b)

  -- ---- entries

  small_part : {room : ℕ} {moved : Option ℕ} {s : Form} {v : Val} {p p' : Place} {q q' : Last} → Part types order octets room moved s v p p' q q' → is_small_number s ≡ true
      → (q'.marks ≡ q.marks) × (q'.here ≡ q.here) × Stands p.at (up p.at (tag_size s)) p'.at
  small_part (an_int at) e = (refl, refl, scalar_stands at)
  small_part (a_uint at) e = (refl, refl, scalar_stands at)
  small_part (a_bool at) e = absurd cc
  small_part (a_byte at) e = absurd cc
  small_part (a_char at) e = absurd cc
  small_part (an_enum at lt) e = absurd cc
  small_part (a_handle at) e = absurd cc
  small_part (a_text at) e = absurd cc
  small_part (a_name is part) e = absurd cc
  small_part (a_struct b ps) e = absurd cc
  small_part (an_empty_arm at is) e = absurd cc
  small_part (an_arm at is part) e = absurd cc
  small_part (an_array at ps) e = absurd cc
  small_part (a_ref at part) e = absurd cc
  small_part (a_null at) e = absurd cc
  small_part (a_unique at part) e = absurd cc
  small_part (a_null_full at) e = absurd cc
  small_part (a_new at is part) e = absurd cc
  small_part (a_repeat at is alike) e = absurd cc

  entry_keeps : (s : Form) (r : Option Bounds) (v : Val) (q q' : Last) → IsRanged r s → Whole types order octets 256 s v q q'
      → marks_at n (q'.marks ++ ranged r (up q.here.at (tag_size s))) + passed n q.here.at ≤ marks_at n q.marks + passed n q'.here.at
  entry_keeps s None v q q' x w = let h = part_keeps w.part in let m = marks_append n q'.marks [] in omega (arith, h, m)
  entry_keeps s (Some b) v q q' x w =
      let a = small_part w.part x in
      let at = over n q.here.at (up q.here.at (tag_size s)) w.h.at a.2.from a.2.before in
      let same = ap (marks_at n) a.0 in
      let here = ap (λ (p : Place). passed n p.at) a.1 in
      let m = marks_append n q'.marks (Ranged (up q.here.at (tag_size s)) ∷ []) in
      omega (arith, at, same, here, m)

  follow_keeps : (es : List Entry) (vs : Vals) (q q' : Last) → AreRanged es → Follow types order octets es vs q q' → marks_at n q'.marks + passed n q.here.at ≤ marks_at n q.marks + passed n q'.here.at
  follow_keeps [] no_val q q' x f = subst (λ (z : Last). marks_at n z.marks + passed n q.here.at ≤ marks_at n q.marks + passed n z.here.at) f (omega arith)
  follow_keeps [] (then_val v vs) q q' x f = absurd f
  follow_keeps (e ∷ es) no_val q q' x f = absurd f
  follow_keeps (e ∷ es) (then_val v vs) q q' x f =
      let a = entry_keeps e.shape e.range v q f.0 x.0 f.1 in
      let b = follow_keeps es vs (noting (range_marks e q.here.at) f.0) q' x.1 f.2 in
      omega (arith, a, b)

  -- of the marks of a stub one is of an index at most
  pub stand_apart : (es : List Entry) (vs : Vals) (end : Last) → AreRanged es → Follow types order octets es vs start end → marks_at n end.marks ≤ 1
  stand_apart es vs end x f =
      let a = follow_keeps es vs start end x f in
      let b = at_most_one n end.here.at in
      let c = none_before n in
      omega (arith, a, b, c)

-- ---- the entries of an operation

both : (a b : Bool) → (a && b) ≡ true → (a ≡ true) × (b ≡ true)
both true b e = (refl, e)
both false b e = absurd cc

behind_ref : (s : Form) → may_range s ≡ true → is_small_number (of_param s) ≡ true
behind_ref (OfRef s) e = e
behind_ref s e = e

param_ranged : (s : Form) (r : Option Bounds) → range_sound s r ≡ true → IsRanged r (of_param s)
param_ranged s None e = tt
param_ranged s (Some r) e = behind_ref s (both (may_range s) (int_le r.low r.high) e).0

last_ranged : (way : Way) (o : Option Form) → AreRanged (last_entry way o)
last_ranged Request o = tt
last_ranged Response None = tt
last_ranged Response (Some s) = (tt, tt)

if_goes : (b : Bool) (e : Entry) (es : List Entry) → IsRanged e.range e.shape → AreRanged es → AreRanged (if b then e ∷ es else es)
if_goes true e es h hs = (h, hs)
if_goes false e es h hs = hs

params_ranged : (way : Way) (ps : List ParamForm) (o : Option Form) → list_all param_sound ps ≡ true → AreRanged (entries_of way ps o)
params_ranged way [] o e = last_ranged way o
params_ranged way (p ∷ ps) o e =
    let x = both (param_sound p) (list_all param_sound ps) e in
    let y = both (is_some (handle_kind p.shape) || is_sound p.shape) (range_sound p.shape p.range) x.0 in
    if_goes (goes way p) (param_entry p) (entries_of way ps o) (param_ranged p.shape p.range y.1) (params_ranged way ps o x.1)

all_get : {A : Type 0} (p : A → Bool) (xs : List A) (k : ℕ) (x : A) → list_all p xs ≡ true → slice_get xs k ≡ Some x → p x ≡ true
all_get p [] k x e is = absurd cc
all_get p (y ∷ xs) zero x e is = let same : y ≡ x = cc in subst (λ z. p z ≡ true) same (both (p y) (list_all p xs) e).0
all_get p (y ∷ xs) (suc k) x e is = all_get p xs k x (both (p y) (list_all p xs) e).1 is

pub op_ranged : (ops : List OpForm) (way : Way) (number : ℕ) (op : OpForm) → list_all op_sound ops ≡ true → slice_get ops number ≡ Some op → AreRanged (entries way op)
op_ranged ops way number op e is = params_ranged way op.params op.result (both (list_all param_sound op.params) (result_sound op.result) (all_get op_sound ops number op e is)).0
