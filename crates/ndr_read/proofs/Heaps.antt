-- Items of the heap in their places.
use Rattle.std.proofs.Common.{◌≡◌, ℕ, zero, suc, ◌+◌, ◌-◌, ◌<◌, ◌≤◌, Bool, true, false, List, [], ◌∷◌, ◌++◌, length, Option, Some, None, get_or, set, refl, sym, ap, ◌∙◌, arith}
use Rattle.std.specs.Prelude.{◌==◌, is_some, option_map, if◌then◌else◌}
use Rattle.std.proofs.lemmas.Grind.{common_steps}
use Rattle.ndr_read.specs.declared.state.Kept.{Kept}
use Rattle.ndr_read.specs.Views.{items_of}
use Rattle.ndr_value.specs.declared.value.Value.{Value}
use Rattle.ndr_value.specs.Values.{Val, val, Vals, no_val, then_val}
use Rattle.ndr_model.specs.Stub.{item}
use Rattle.ndr_model.specs.Message.{front_of, heap_from}
use Rattle.ndr_read.specs.Slots.{held, slot, or_then}
use Rattle.ndr_read.specs.Readings.{join}
use Rattle.ndr_read.proofs.Rows.{join_none, join_one}

-- a place more with nothing in it
pub slot_more : (slots : List (Option Value)) → ((m : ℕ) → slot slots m ≡ None) → (m : ℕ) → slot (slots ++ None ∷ []) m ≡ None
slot_more [] h zero = refl
slot_more [] h (suc m) = refl
slot_more (o ∷ os) h zero = h 0
slot_more (o ∷ os) h (suc m) = slot_more os (λ k. h (suc k)) m

-- what stands there goes before what is put there, and that before what stands behind it
by_number : (b : Bool) (v : Val) (o : Option Val) → or_then (if b then Some v else None) o ≡ (if b then Some v else o)
by_number true v o = refl
by_number false v o = refl

or_assoc : (a b c : Option Val) → or_then (or_then a b) c ≡ or_then a (or_then b c)
or_assoc None b c = refl
or_assoc (Some v) b c = refl

pub put_more : (s s' : Option Val) (n m : ℕ) (v : Val) (items : List (ℕ × Val)) (total : Option Val) → s' ≡ or_then s (if n == m then Some v else None) → or_then s (item ((n, v) ∷ items) m) ≡ total → or_then s' (item items m) ≡ total
put_more s s' n m v items total is so_far =
    ap (λ (o : Option Val). or_then o (item items m)) is ∙ or_assoc s (if n == m then Some v else None) (item items m)
    ∙ ap (or_then s) (by_number (n == m) v (item items m)) ∙ so_far

or_none : (o : Option Val) → or_then o None ≡ o
or_none None = refl
or_none (Some v) = refl

pub put_all : (s total : Option Val) → or_then s None ≡ total → s ≡ total
put_all s total e = sym (or_none s) ∙ e

if_held : (b : Bool) (s : Option Val) (v : Val) → (b ≡ true → (x : Val) × (s ≡ Some x)) → s ≡ or_then s (if b then Some v else None)
if_held true s v h = let x = h refl in rw x.1 refl
if_held false s v h = sym (or_none s)

same_number : (a b : ℕ) → (a == b) ≡ true → a ≡ b
same_number a b e = grind (arith)

pub slot_is : (os : List (Option Value)) (i : ℕ) (o : Option Value) → i < length os → o ≡ get_or os i o → slot os i ≡ held o
slot_is [] i o lt e = absurd (omega (arith, lt))
slot_is (x ∷ xs) zero o lt e = ap held (sym e)
slot_is (x ∷ xs) (suc i) o lt e = slot_is xs i o (grind (arith, common_steps, lt)) e

some_held : (o : Option Value) → true ≡ is_some o → (x : Val) × (held o ≡ Some x)
some_held None e = absurd cc
some_held (Some v) e = (val v, refl)

none_held : (o : Option Value) → false ≡ is_some o → held o ≡ None
none_held None e = refl
none_held (Some v) e = absurd cc

-- nothing is put past the end, or where something stands
pub put_past : (s : Option Val) (n m : ℕ) (v : Val) → m < n → s ≡ or_then s (if n == m then Some v else None)
put_past s n m v lt = if_held (n == m) s v (λ e. absurd (omega (arith, lt, same_number n m e)))

pub put_held : (os : List (Option Value)) (n m : ℕ) (v : Val) (o : Option Value) → m < length os → o ≡ get_or os n o → true ≡ is_some o → slot os m ≡ or_then (slot os m) (if n == m then Some v else None)
put_held os n m v o lt is some =
    if_held (n == m) (slot os m) v (λ e.
    let k : n ≡ m = same_number n m e in
    let x = some_held o some in
    (x.0, slot_is os m o lt (is ∙ ap (λ (j : ℕ). get_or os j o) k) ∙ x.1))

slot_set : (os : List (Option Value)) (i m : ℕ) (v : Value) → i < length os → slot os i ≡ None → slot (set os i (Some v)) m ≡ or_then (slot os m) (if i == m then Some (val v) else None)
slot_set [] i m v lt none = absurd (omega (arith, lt))
slot_set (o ∷ os) zero zero v lt none = rw none refl
slot_set (o ∷ os) zero (suc m) v lt none = let k : (0 == suc m) ≡ false = grind (arith, common_steps) in rw k (sym (or_none (slot os m)))
slot_set (o ∷ os) (suc i) zero v lt none = let k : (suc i == 0) ≡ false = grind (arith, common_steps) in rw k (sym (or_none (held o)))
slot_set (o ∷ os) (suc i) (suc m) v lt none =
    let k : (suc i == suc m) ≡ (i == m) = grind (arith, common_steps) in
    rw k (slot_set os i m v (grind (arith, common_steps, lt)) none)

pub put_there : (os : List (Option Value)) (i m : ℕ) (v : Value) (o : Option Value) → i < length os → o ≡ get_or os i o → false ≡ is_some o → slot (set os i (Some v)) m ≡ or_then (slot os m) (if i == m then Some (val v) else None)
put_there os i m v o lt is none = slot_set os i m v lt (slot_is os i o lt is ∙ none_held o none)

-- a place that isn't looked at any more
pub slot_past : (os : List (Option Value)) (i m : ℕ) (o : Option Value) → i < m → slot (set os i o) m ≡ slot os m
slot_past [] i m o lt = refl
slot_past (x ∷ xs) zero zero o lt = absurd (omega (arith, lt))
slot_past (x ∷ xs) zero (suc m) o lt = refl
slot_past (x ∷ xs) (suc i) zero o lt = absurd (omega (arith, lt))
slot_past (x ∷ xs) (suc i) (suc m) o lt = slot_past xs i m o (omega (arith, lt))

pub none_left : (ks : List Kept) (m : ℕ) → length ks ≡ 0 → item (items_of ks) m ≡ None
none_left [] m e = refl
none_left (k ∷ ks) m e = absurd (grind (arith, common_steps, e))

-- ---- the heap

abbrev pub behind : Vals → Option Vals → Option Vals
behind front o = option_map (λ (vs : Vals). join front vs) o

behind_front : (front : Vals) (v : Val) (o : Option Vals) → behind front (front_of (Some v) o) ≡ behind (join front (then_val v no_val)) o
behind_front front v None = refl
behind_front front v (Some vs) = ap (λ (ws : Vals). Some ws) (sym (join_one front v vs))

pub heap_more : (front : Vals) (items : List (ℕ × Val)) (i count : ℕ) (v : Val) (total : Option Vals) → i < count → item items i ≡ Some v → behind front (heap_from items i (count - i)) ≡ total
    → behind (join front (then_val v no_val)) (heap_from items (i + 1) (count - (i + 1))) ≡ total
heap_more front items i count v total lt is so_far =
    let k : count - i ≡ suc (count - (i + 1)) = omega arith in
    let j : suc i ≡ i + 1 = omega arith in
    let one : behind front (heap_from items i (count - i)) ≡ behind (join front (then_val v no_val)) (heap_from items (i + 1) (count - (i + 1))) =
    ap (λ (x : ℕ). behind front (heap_from items i x)) k ∙ ap (λ (o : Option Val). behind front (front_of o (heap_from items (suc i) (count - (i + 1))))) is
    ∙ behind_front front v (heap_from items (suc i) (count - (i + 1))) ∙ ap (λ (x : ℕ). behind (join front (then_val v no_val)) (heap_from items x (count - (i + 1)))) j in
    sym one ∙ so_far

pub heap_missing : (front : Vals) (items : List (ℕ × Val)) (i count : ℕ) (total : Option Vals) → i < count → item items i ≡ None → behind front (heap_from items i (count - i)) ≡ total → total ≡ None
heap_missing front items i count total lt is so_far =
    let k : count - i ≡ suc (count - (i + 1)) = omega arith in
    let one : behind front (heap_from items i (count - i)) ≡ None = ap (λ (x : ℕ). behind front (heap_from items i x)) k ∙ ap (λ (o : Option Val). behind front (front_of o (heap_from items (suc i) (count - (i + 1))))) is in
    sym so_far ∙ one

pub heap_done : (front : Vals) (items : List (ℕ × Val)) (i count : ℕ) (total : Option Vals) → count ≤ i → behind front (heap_from items i (count - i)) ≡ total → total ≡ Some front
heap_done front items i count total le so_far =
    let k : count - i ≡ 0 = omega arith in
    let one : behind front (heap_from items i (count - i)) ≡ Some front = ap (λ (x : ℕ). behind front (heap_from items i x)) k ∙ ap (λ (vs : Vals). Some vs) (join_none front) in
    sym so_far ∙ one
