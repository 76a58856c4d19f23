-- Rows at the keys of an index: one comes, goes or changes.
use Rattle.std.proofs.Common.{◌≡◌, ◌≢◌, ℕ, zero, suc, ◌+◌, ◌-◌, ◌<◌, ◌≤◌, Bool, true, false, Option, Some, None, MatchOption, List, [], ◌∷◌, ◌++◌, length, map, get_or, set, rules, is_some, cond, count_by, refl, sym, ◌∙◌, ap, subst, arith, inl, inr}
use Rattle.std.specs.Prelude.{nat_lt}
use Rattle.std.specs.declared.collections.VecDeque.{VecDeque}
use Rattle.std.specs.declared.alloc.Global.{Global}
use Rattle.std.specs.List.{AllByRecursion, remove}
use Rattle.std.specs.List.Sorted.{IsPartitionedBy, IsPartitionPoint}
use Rattle.std.proofs.lemmas.List.{get_or_default}
use Rattle.std.proofs.lemmas.Bool.{cases_lt, cases_eq, ltb-true, ltb-false}
use Rattle.std.proofs.lemmas.Bool.Decides.{nat_tests}
use Rattle.std.proofs.lemmas.List.Sums.{sum_by-set}
use Rattle.slab.specs.Slab.{Slab, get, Updates, with_value}
use Rattle.slab.proofs.SlabLemmas.{ContainsKey-within, Updates-with_value}
use Rattle.call_table.specs.declared.row.Row.{Row}
use Rattle.call_table.specs.declared.row_table.RowKey.{RowKey}
use Rattle.call_table.specs.Rows.{at_call}
use Rattle.call_table.specs.Kept.{Rises, IsRow}
use Rattle.call_table.specs.Sought.{IsPlace}
use Rattle.call_table.specs.Keys.{set_at, with_some, rows_in, Stands, Apart, IsStored, KeysRise, IsKeyPlace}
use Rattle.call_table.proofs.Marks.{head_call, tail_row, earlier, above_kept}

-- ONE KEY

some_row : (o : Option Row) (n : ℕ) → MatchOption o ⊥ (λ r. r.call ≡ n) → (r : Row) × (o ≡ Some r) × (r.call ≡ n)
some_row None n h = absurd h
some_row (Some r) n h = (r, refl, h)

pub row_there : (s : Slab Row) (k : RowKey) → Stands s k → (r : Row) × (get s k.key ≡ Some r) × (r.call ≡ k.call)
row_there s k h = some_row (get s k.key) k.call h

stands_as : (s : Slab Row) (k : RowKey) (r : Row) → get s k.key ≡ Some r → r.call ≡ k.call → Stands s k
stands_as s k r e c = subst (λ o. MatchOption o ⊥ (λ (x : Row). x.call ≡ k.call)) (sym e) c

-- a key without a row is none of the index
free_key : (s : Slab Row) (n : ℕ) (k : RowKey) → get s n ≡ None → Stands s k → k.key ≢ n
free_key s n k none h e =
    let r = row_there s k h in
    let some : get s n ≡ Some r.0 = subst (λ m. get s m ≡ Some r.0) e r.1 in cc

pub free_keys : (s : Slab Row) (n : ℕ) (ks : List RowKey) → get s n ≡ None → AllByRecursion (Stands s) ks → AllByRecursion (λ m. m.key ≢ n) ks
free_keys s n [] none h = tt
free_keys s n (k ∷ ks) none h = (free_key s n k none h.0, free_keys s n ks none h.1)

-- SIZES AND PLACES

pub size_in : (s : Slab Row) (ks : List RowKey) → AllByRecursion (Stands s) ks → length (rows_in s ks) ≡ length ks
size_in s [] h = refl
size_in s (k ∷ ks) h = let r = row_there s k h.0 in rw r.1 (ap suc (size_in s ks h.1))

pub key_stands : (s : Slab Row) (ks : List RowKey) (i : ℕ) (k : RowKey) → AllByRecursion (Stands s) ks → i < length ks → k ≡ get_or ks i k → Stands s k
key_stands s [] i k h lt e = absurd (omega arith)
key_stands s (m ∷ ks) zero k h lt e = subst (Stands s) (sym e) h.0
key_stands s (m ∷ ks) (suc i) k h lt e = key_stands s ks i k h.1 (omega arith) e

pub row_at_key : (s : Slab Row) (ks : List RowKey) (i : ℕ) (k : RowKey) (x : Row) → AllByRecursion (Stands s) ks → i < length ks → k ≡ get_or ks i k → get s k.key ≡ Some x → x ≡ get_or (rows_in s ks) i x
row_at_key s [] i k x h lt e g = absurd (omega arith)
row_at_key s (m ∷ ks) zero k x h lt e g =
    let here : get s m.key ≡ Some x = subst (λ (y : RowKey). get s y.key ≡ Some x) e g in rw here refl
row_at_key s (m ∷ ks) (suc i) k x h lt e g = let r = row_there s m h.0 in rw r.1 (row_at_key s ks i k x h.1 (omega arith) e g)

-- the rows have the numbers of the index
pub call_in : (s : Slab Row) (ks : List RowKey) (i : ℕ) (d : Row) (e : RowKey) → AllByRecursion (Stands s) ks → i < length ks → (get_or (rows_in s ks) i d).call ≡ (get_or ks i e).call
call_in s [] i d e h lt = absurd (omega arith)
call_in s (k ∷ ks) zero d e h lt = let r = row_there s k h.0 in rw r.1 r.2
call_in s (k ∷ ks) (suc i) d e h lt = let r = row_there s k h.0 in rw r.1 (call_in s ks i d e h.1 (omega arith))

pub keys_rise : (low : ℕ) (s : Slab Row) (ks : List RowKey) → AllByRecursion (Stands s) ks → Rises low (rows_in s ks) → KeysRise low ks
keys_rise low s [] h r = tt
keys_rise low s (k ∷ ks) h r =
    let x = row_there s k h.0 in
    let rise : Rises low (x.0 ∷ rows_in s ks) = rw x.1 at r in
    let first = rise.0 in
    let more : KeysRise (x.0.call + 1) ks = keys_rise (x.0.call + 1) s ks h.1 rise.2 in
    (subst (λ n. low ≤ n) x.2 first, subst (λ n. KeysRise (n + 1) ks) x.2 more)

-- A SEARCH

keys_at : (low : ℕ) (ks : List RowKey) (j : ℕ) (d : RowKey) → KeysRise low ks → j < length ks → low ≤ (get_or ks j d).call
keys_at low [] j d r lt = absurd (omega arith)
keys_at low (k ∷ ks) zero d r lt = r.0
keys_at low (k ∷ ks) (suc j) d r lt = let more = keys_at (k.call + 1) ks j d r.1 (omega arith) in let first = r.0 in omega arith

keys_order : (low : ℕ) (ks : List RowKey) (i j : ℕ) (d : RowKey) → KeysRise low ks → i < j → j < length ks → (get_or ks i d).call < (get_or ks j d).call
keys_order low [] i j d r lt l = absurd (omega arith)
keys_order low (k ∷ ks) zero zero d r lt l = absurd (omega arith)
keys_order low (k ∷ ks) zero (suc j) d r lt l = let more = keys_at (k.call + 1) ks j d r.1 (omega arith) in omega arith
keys_order low (k ∷ ks) (suc i) zero d r lt l = absurd (omega arith)
keys_order low (k ∷ ks) (suc i) (suc j) d r lt l = keys_order (k.call + 1) ks i j d r.1 (omega arith) (omega arith)

abbrev pub is_low : ℕ → RowKey → Bool
is_low n k = nat_lt k.call n

low_is : (n : ℕ) (k : RowKey) → k.call < n → is_low n k ≡ true
low_is n k lt = grind (arith, nat_tests)

pub keys_parted : (ks : List RowKey) (n : ℕ) → KeysRise 0 ks → IsPartitionedBy (is_low n) ks
keys_parted ks n r i j d le lt p =
    elim (cases_lt i j) [
      | inl below ↦
          let less = keys_order 0 ks i j d r below lt in
          let low : (get_or ks j d).call < n = ltb-true _ _ p in low_is n (get_or ks i d) (omega arith)
      | inr same ↦ let e : j ≡ i = omega arith in subst (λ (m : ℕ). is_low n (get_or ks m d) ≡ true) e p
    ]

pub keys_placed : (ks : List RowKey) (n i : ℕ) → i ≤ length ks → IsPartitionPoint (λ y. is_low n y ≡ true) (λ y. is_low n y ≡ false) ks i → IsKeyPlace ks n i
keys_placed ks n i le p =
    record {
      within = le;
      low = λ j d lt. ltb-true _ _ (p.0 j d (omega arith) lt);
      high = λ j d le' lt. ltb-false _ _ (p.1 j d le' lt);
    }

abbrev pub no_key : RowKey
no_key = record { call = 0; key = 0 }

-- the number of a key that was read
pub call_read : (ks : List RowKey) (i : ℕ) (k : RowKey) → i < length ks → k ≡ get_or ks i k → (get_or ks i no_key).call ≡ k.call
call_read ks i k lt e = ap (λ (x : RowKey). x.call) (get_or_default ks i no_key k lt ∙ sym e)

-- a place is that of a number, by the two beside it
pub split_key : (ks : List RowKey) (n i : ℕ) → KeysRise 0 ks → i ≤ length ks → (0 < i → (get_or ks (i - 1) no_key).call < n) → (i < length ks → n ≤ (get_or ks i no_key).call) → IsKeyPlace ks n i
split_key ks n i r le before here =
    record {
      within = le;
      low = λ j d lt.
          let top : (get_or ks (i - 1) d).call < n = subst (λ (x : RowKey). x.call < n) (get_or_default ks (i - 1) no_key d (omega arith)) (before (omega arith)) in
          elim (cases_lt j (i - 1)) [
            | inl below ↦ let less = keys_order 0 ks j (i - 1) d r below (omega arith) in omega arith
            | inr same ↦ let e : i - 1 ≡ j = omega arith in subst (λ (m : ℕ). (get_or ks m d).call < n) e top
          ];
      high = λ j d from lt.
          let least : n ≤ (get_or ks i d).call = subst (λ (x : RowKey). n ≤ x.call) (get_or_default ks i no_key d (omega arith)) (here (omega arith)) in
          elim (cases_lt i j) [
            | inl above ↦ let more = keys_order 0 ks i j d r above lt in omega arith
            | inr same ↦ let e : i ≡ j = omega arith in subst (λ (m : ℕ). n ≤ (get_or ks m d).call) e least
          ];
    }

pub place_in : (s : Slab Row) (ks : List RowKey) (n i : ℕ) → AllByRecursion (Stands s) ks → IsKeyPlace ks n i → IsPlace (rows_in s ks) n i
place_in s ks n i h p =
    let size = size_in s ks h in
    let le = p.within in
    record {
      within = omega arith;
      low = λ j d lt. subst (λ m. m < n) (sym (call_in s ks j d no_key h (omega arith))) (p.low j no_key lt);
      high = λ j d l lt. subst (λ m. n ≤ m) (sym (call_in s ks j d no_key h (omega arith))) (p.high j no_key l (omega arith));
    }

-- WHAT STAYS

pub same_rows : (s t : Slab Row) (n : ℕ) (slot : Option Row) (ks : List RowKey) → Updates s t n slot → AllByRecursion (λ m. m.key ≢ n) ks → rows_in t ks ≡ rows_in s ks
same_rows s t n slot [] u off = refl
same_rows s t n slot (k ∷ ks) u off =
    let here = u.others k.key off.0 in
    let rest = same_rows s t n slot ks u off.1 in
    ap (λ o. with_some o (rows_in t ks)) here ∙ ap (with_some (get s k.key)) rest

pub same_stand : (s t : Slab Row) (n : ℕ) (slot : Option Row) (ks : List RowKey) → Updates s t n slot → AllByRecursion (λ m. m.key ≢ n) ks → AllByRecursion (Stands s) ks → AllByRecursion (Stands t) ks
same_stand s t n slot [] u off h = tt
same_stand s t n slot (k ∷ ks) u off h =
    let x = row_there s k h.0 in
    (stands_as t k x.0 (u.others k.key off.0 ∙ x.1) x.2, same_stand s t n slot ks u off.1 h.1)

-- A ROW COMES

pub rows_push : (s t : Slab Row) (m : RowKey) (r : Row) (ks : List RowKey) → Updates s t m.key (Some r) → AllByRecursion (λ k. k.key ≢ m.key) ks → AllByRecursion (Stands s) ks → rows_in t (ks ++ m ∷ []) ≡ rows_in s ks ++ r ∷ []
rows_push s t m r [] u off h = rw u.changed refl
rows_push s t m r (k ∷ ks) u off h =
    let x = row_there s k h.0 in
    let here : get t k.key ≡ Some x.0 = u.others k.key off.0 ∙ x.1 in
    rw (here, x.1) (ap (λ ys. x.0 ∷ ys) (rows_push s t m r ks u off.1 h.1))

pub stand_push : (s t : Slab Row) (m : RowKey) (r : Row) (ks : List RowKey) → Updates s t m.key (Some r) → r.call ≡ m.call → AllByRecursion (λ k. k.key ≢ m.key) ks → AllByRecursion (Stands s) ks → AllByRecursion (Stands t) (ks ++ m ∷ [])
stand_push s t m r [] u c off h = (stands_as t m r u.changed c, tt)
stand_push s t m r (k ∷ ks) u c off h =
    let x = row_there s k h.0 in
    (stands_as t k x.0 (u.others k.key off.0 ∙ x.1) x.2, stand_push s t m r ks u c off.1 h.1)

all_push : (n : ℕ) (m : RowKey) (ks : List RowKey) → m.key ≢ n → AllByRecursion (λ k. k.key ≢ n) ks → AllByRecursion (λ k. k.key ≢ n) (ks ++ m ∷ [])
all_push n m [] d h = (d, tt)
all_push n m (k ∷ ks) d h = (h.0, all_push n m ks d h.1)

pub apart_push : (m : RowKey) (ks : List RowKey) → AllByRecursion (λ k. k.key ≢ m.key) ks → Apart ks → Apart (ks ++ m ∷ [])
apart_push m [] off a = (tt, tt)
apart_push m (k ∷ ks) off a = (all_push k.key m ks (λ e. off.0 (sym e)) a.0, apart_push m ks off.1 a.1)

-- A ROW GOES

off_at : (n : ℕ) (ks : List RowKey) (i : ℕ) (k : RowKey) → AllByRecursion (λ m. m.key ≢ n) ks → i < length ks → k ≡ get_or ks i k → k.key ≢ n
off_at n [] i k h lt e = absurd (omega arith)
off_at n (m ∷ ks) zero k h lt e = subst (λ (y : RowKey). y.key ≢ n) (sym e) h.0
off_at n (m ∷ ks) (suc i) k h lt e = off_at n ks i k h.1 (omega arith) e

pub rows_remove : (s t : Slab Row) (ks : List RowKey) (i : ℕ) (k : RowKey) → Updates s t k.key None → Apart ks → AllByRecursion (Stands s) ks → i < length ks → k ≡ get_or ks i k → rows_in t (remove ks i) ≡ remove (rows_in s ks) i
rows_remove s t [] i k u a h lt e = absurd (omega arith)
rows_remove s t (m ∷ ks) zero k u a h lt e =
    let x = row_there s m h.0 in
    rw x.1 (same_rows s t k.key None ks u (subst (λ (y : RowKey). AllByRecursion (λ q. q.key ≢ y.key) ks) (sym e) a.0))
rows_remove s t (m ∷ ks) (suc i) k u a h lt e =
    let x = row_there s m h.0 in
    let off = off_at m.key ks i k a.0 (omega arith) e in
    let here : get t m.key ≡ Some x.0 = u.others m.key (λ q. off (sym q)) ∙ x.1 in
    rw (here, x.1) (ap (λ ys. x.0 ∷ ys) (rows_remove s t ks i k u a.1 h.1 (omega arith) e))

pub stand_remove : (s t : Slab Row) (ks : List RowKey) (i : ℕ) (k : RowKey) → Updates s t k.key None → Apart ks → AllByRecursion (Stands s) ks → i < length ks → k ≡ get_or ks i k → AllByRecursion (Stands t) (remove ks i)
stand_remove s t [] i k u a h lt e = absurd (omega arith)
stand_remove s t (m ∷ ks) zero k u a h lt e = same_stand s t k.key None ks u (subst (λ (y : RowKey). AllByRecursion (λ q. q.key ≢ y.key) ks) (sym e) a.0) h.1
stand_remove s t (m ∷ ks) (suc i) k u a h lt e =
    let x = row_there s m h.0 in
    let off = off_at m.key ks i k a.0 (omega arith) e in
    (stands_as t m x.0 (u.others m.key (λ q. off (sym q)) ∙ x.1) x.2, stand_remove s t ks i k u a.1 h.1 (omega arith) e)

all_remove : (n : ℕ) (ks : List RowKey) (i : ℕ) → AllByRecursion (λ m. m.key ≢ n) ks → AllByRecursion (λ m. m.key ≢ n) (remove ks i)
all_remove n [] zero h = tt
all_remove n [] (suc i) h = tt
all_remove n (k ∷ ks) zero h = h.1
all_remove n (k ∷ ks) (suc i) h = (h.0, all_remove n ks i h.1)

pub apart_remove : (ks : List RowKey) (i : ℕ) → Apart ks → Apart (remove ks i)
apart_remove [] zero a = tt
apart_remove [] (suc i) a = tt
apart_remove (k ∷ ks) zero a = a.1
apart_remove (k ∷ ks) (suc i) a = (all_remove k.key ks i a.0, apart_remove ks i a.1)

-- A ROW CHANGES

pub rows_set : (f : Row → Row) (s t : Slab Row) (ks : List RowKey) (i : ℕ) (k : RowKey) (x : Row) → get s k.key ≡ Some x → Updates s t k.key (Some (f x)) → Apart ks → AllByRecursion (Stands s) ks → i < length ks → k ≡ get_or ks i k → rows_in t ks ≡ set_at i f (rows_in s ks)
rows_set f s t [] i k x g u a h lt e = absurd (omega arith)
rows_set f s t (m ∷ ks) zero k x g u a h lt e =
    let was : get s m.key ≡ Some x = subst (λ (y : RowKey). get s y.key ≡ Some x) e g in
    let now : get t m.key ≡ Some (f x) = subst (λ (y : RowKey). get t y.key ≡ Some (f x)) e u.changed in
    let rest = same_rows s t k.key (Some (f x)) ks u (subst (λ (y : RowKey). AllByRecursion (λ q. q.key ≢ y.key) ks) (sym e) a.0) in
    rw (was, now) (ap (λ ys. f x ∷ ys) rest)
rows_set f s t (m ∷ ks) (suc i) k x g u a h lt e =
    let y = row_there s m h.0 in
    let off = off_at m.key ks i k a.0 (omega arith) e in
    let here : get t m.key ≡ Some y.0 = u.others m.key (λ q. off (sym q)) ∙ y.1 in
    rw (here, y.1) (ap (λ ys. y.0 ∷ ys) (rows_set f s t ks i k x g u a.1 h.1 (omega arith) e))

abbrev call_or : Option Row → ℕ
call_or None = 0
call_or (Some r) = r.call

pub stand_set : (s t : Slab Row) (ks : List RowKey) (k : RowKey) (z x : Row) → get s k.key ≡ Some z → z.call ≡ k.call → Updates s t k.key (Some x) → x.call ≡ z.call → AllByRecursion (Stands s) ks → AllByRecursion (Stands t) ks
stand_set s t [] k z x g zc u c h = tt
stand_set s t (m ∷ ks) k z x g zc u c h =
    let y = row_there s m h.0 in (
      elim (cases_eq m.key k.key) [
        | inl e ↦
            let one : Some y.0 ≡ Some z = sym y.1 ∙ (ap (get s) e ∙ g) in stands_as t m x (ap (get t) e ∙ u.changed) (c ∙ (sym (ap call_or one) ∙ y.2))
        | inr d ↦ stands_as t m y.0 (u.others m.key d ∙ y.1) y.2
      ],
      stand_set s t ks k z x g zc u c h.1,
    )

pub wrote : (f : Row → Row) (s : Slab Row) (n : ℕ) (x : Row) → get s n ≡ Some x → Updates s (with_value s n (f x)) n (Some (f x))
wrote f s n x g = Updates-with_value s n (f x) (rw g (search rules))

-- as many stand afterwards
count_set : (slots : List (Option Row)) (n : ℕ) (x y : Row) → n < length slots → get_or slots n None ≡ Some x → count_by is_some (set slots n (Some y)) ≡ count_by is_some slots
count_set slots n x y lt g =
    let one : Option Row → ℕ = λ o. cond (is_some o) 1 0 in
    let sum = sum_by-set one slots n (Some y) None lt in
    let was = ap one g in omega arith

pub stored_set : (f : Row → Row) (s : Slab Row) (index : VecDeque RowKey Global) (room i : ℕ) (k : RowKey) (x : Row) → ((r : Row) → (f r).call ≡ r.call) → IsStored s index room → i < length index.items → k ≡ get_or index.items i k → get s k.key ≡ Some x → IsStored (with_value s k.key (f x)) index room
stored_set f s index room i k x m st lt e g =
    let there = row_there s k (key_stands s index.items i k st.stand lt e) in
    let one : Some there.0 ≡ Some x = sym there.1 ∙ g in
    let count = count_set s.slots k.key x (f x) (ContainsKey-within s k.key (rw g (search rules))) g in
    let spare = st.spare in
    record {
      stand = stand_set s (with_value s k.key (f x)) index.items k x (f x) g (sym (ap call_or one) ∙ there.2) (wrote f s k.key x g) (m x) st.stand;
      apart = st.apart;
      places = st.places;
      spare = omega arith;
    }

-- the row at its place marked is the row of the call marked
pub set_call : (f : Row → Row) (low : ℕ) (rows : List Row) (k i : ℕ) → Rises low rows → IsRow rows k i → set_at i f rows ≡ map (at_call k f) rows
set_call f low [] k i r w = let lt = w.within in absurd (omega arith)
set_call f low (y ∷ rows) k zero r w =
    let t = head_call k y y rows w in
    let s : y.call ≡ k = w.here y in
    rw (t, above_kept (y.call + 1) k f rows r.2 (omega arith)) refl
set_call f low (y ∷ rows) k (suc i) r w =
    let t = tail_row k i y rows w in
    let off = earlier low k i y rows r t in
    rw off (ap (λ zs. y ∷ zs) (set_call f (y.call + 1) rows k i r.2 t))
