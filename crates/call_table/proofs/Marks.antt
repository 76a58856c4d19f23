-- Edits of the rows at the place of a call.
use Rattle.std.proofs.Common.{◌≡◌, ℕ, zero, suc, ◌+◌, ◌^◌, ◌≤◌, ◌<◌, Bool, true, false, min, Option, Some, None, List, [], ◌∷◌, ◌++◌, length, map, ◌-◌, take, get_or, refl, sym, ◌∙◌, ap, subst, arith, inl, inr}
use Rattle.std.specs.Prelude.{Vec, vec_len}
use Rattle.std.specs.declared.alloc.Global.{Global}
use Rattle.std.specs.List.{list_any, filter, find, position, All}
use Rattle.std.specs.Option.{option_map}
use Rattle.std.proofs.lemmas.Grind.{common_steps, get_or_at_push, length_at_push}
use Rattle.std.proofs.lemmas.Bool.{eq-eqb, eqb-true, ltb-true, cases_Bool}
use Rattle.std.proofs.lemmas.Bool.Decides.{eqb_tells}
use Rattle.std.proofs.lemmas.List.Elements.{All-take}
use Rattle.std.proofs.lemmas.List.Quantifiers.{position-Some}
use Rattle.handle_model.specs.declared.entry.Slot.{Slot}
use Rattle.handle_model.specs.Journal.{least, lesser}
use Rattle.call_table.specs.declared.row.Row.{Row}
use Rattle.call_table.specs.Rows.{is_call, is_other, is_below, is_waiting, waits_at, runs_at, row_at, slots_in, slots_at, over, calls, taken, at_call, with_start, no_cookies}
use Rattle.call_table.specs.Kept.{Rises, AllFew, IsRow, IsKept, blank}
use Rattle.call_table.specs.Keys.{StoredRows}

-- PLACES

pub no_row : Row
no_row = record { call = 0; conn = 0; slots = []; place = 0; runs = false; cancelled = false; orphaned = false }

pub is_place : (rows : List Row) (k i : ℕ) → position (is_call k) rows ≡ Some i → IsRow rows k i
is_place rows k i e =
    record {
      within = (position-Some (is_call k) rows i no_row e).0;
      here = λ d. eqb-true (get_or rows i d).call k (position-Some (is_call k) rows i d e).1;
    }

any_length : {X : Type 0} (p : X → Bool) (xs : List X) → position p xs ≡ None → list_any p xs ≡ false
any_length p [] e = refl
any_length p (x ∷ xs) e = grind (arith, common_steps, any_length p xs)

pub no_place : (rows : List Row) (k : ℕ) → position (is_call k) rows ≡ None → list_any (is_call k) rows ≡ true → ⊥
no_place rows k e h = let f = any_length (is_call k) rows e in cc

pub waits_called : (rows : List Row) (k : ℕ) → waits_at rows k ≡ true → list_any (is_call k) rows ≡ true
waits_called [] k h = h
waits_called (r ∷ rows) k h = grind (arith, common_steps, waits_called rows k)

pub runs_called : (rows : List Row) (k : ℕ) → runs_at rows k ≡ true → list_any (is_call k) rows ≡ true
runs_called [] k h = h
runs_called (r ∷ rows) k h = grind (arith, common_steps, runs_called rows k)

-- LEAST NUMBERS

lesser_low : (low x m : ℕ) (o : Option ℕ) → low ≤ x → ((n : ℕ) → o ≡ Some n → x + 1 ≤ n) → lesser x o ≡ Some m → low ≤ m
lesser_low low x m None le h e = let same : x ≡ m = cc in omega arith
lesser_low low x m (Some n) le h e = let same : min x n ≡ m = cc in let more = h n refl in omega arith

pub least_low : (low : ℕ) (p : Row → Bool) (rows : List Row) (m : ℕ) → Rises low rows → least (calls (filter p rows)) ≡ Some m → low ≤ m
least_low low p [] m r e = absurd (cc)
least_low low p (x ∷ rows) m r e =
    let first = r.0 in
    elim (cases_Bool (p x)) [
      | inl t ↦ lesser_low low x.call m (least (calls (filter p rows))) r.0 (λ n f. least_low (x.call + 1) p rows n r.2 f) (rw t at e)
      | inr t ↦ let more = least_low (x.call + 1) p rows m r.2 (rw t at e) in omega arith
    ]

lesser_first : (x : ℕ) (o : Option ℕ) → ((n : ℕ) → o ≡ Some n → x + 1 ≤ n) → lesser x o ≡ Some x
lesser_first x None h = refl
lesser_first x (Some n) h = let more = h n refl in let same : min x n ≡ x = omega arith in ap (λ m. Some m) same

-- the first that passes has the least number
pub first_least : (low : ℕ) (p : Row → Bool) (rows : List Row) → Rises low rows → least (calls (filter p rows)) ≡ option_map (λ (r : Row). r.call) (find p rows)
first_least low p [] r = refl
first_least low p (x ∷ rows) r =
    elim (cases_Bool (p x)) [
      | inl t ↦ rw t (lesser_first x.call (least (calls (filter p rows))) (λ n f. least_low (x.call + 1) p rows n r.2 f))
      | inr t ↦ rw t (first_least (x.call + 1) p rows r.2)
    ]

-- MARKS

pub head_call : (k : ℕ) (x y : Row) (rows : List Row) → IsRow (x ∷ rows) k 0 → is_call k x ≡ true
head_call k x y rows w = eq-eqb x.call k (w.here y)

pub tail_row : (k i : ℕ) (x : Row) (rows : List Row) → IsRow (x ∷ rows) k (suc i) → IsRow rows k i
tail_row k i x rows w = let lt = w.within in record { within = omega arith; here = w.here }

pub rises_at : (low : ℕ) (rows : List Row) (j : ℕ) (d : Row) → Rises low rows → j < length rows → low ≤ (get_or rows j d).call
rises_at low [] j d r lt = absurd (omega arith)
rises_at low (i ∷ rows) zero d r lt = r.0
rises_at low (i ∷ rows) (suc j) d r lt = let more = rises_at (i.call + 1) rows j d r.2 (omega arith) in let first = r.0 in omega arith

-- the rows before it have other numbers
pub earlier : (low k i : ℕ) (x : Row) (rows : List Row) → Rises low (x ∷ rows) → IsRow rows k i → is_call k x ≡ false
earlier low k i x rows r w =
    let above = rises_at (x.call + 1) rows i no_row r.2 w.within in
    let here = w.here no_row in
    elim (eqb_tells x.call k) [ inl e ↦ let same = e.1 in absurd (omega arith) | inr e ↦ e.0 ]

-- the rows of other calls stay
pub others_kept : (low k : ℕ) (rows : List Row) → Rises low rows → k < low → filter (is_other k) rows ≡ rows
others_kept low k [] r lt = refl
others_kept low k (x ∷ rows) r lt =
    let first = r.0 in
    elim (cases_Bool (is_call k x)) [
      | inl t ↦ let same = eqb-true x.call k t in absurd (omega arith)
      | inr t ↦ rw (t, others_kept (x.call + 1) k rows r.2 (omega arith)) refl
    ]

pub above_kept : (low k : ℕ) (f : Row → Row) (rows : List Row) → Rises low rows → k < low → map (at_call k f) rows ≡ rows
above_kept low k f [] r lt = refl
above_kept low k f (x ∷ rows) r lt =
    let first = r.0 in
    let other : is_call k x ≡ false = elim (eqb_tells x.call k) [ inl e ↦ let same = e.1 in absurd (omega arith) | inr e ↦ e.0 ] in
    rw (other, above_kept (x.call + 1) k f rows r.2 (omega arith)) refl

-- the row at its place is the row of the call
pub row_place : (low : ℕ) (rows : List Row) (k i : ℕ) (x : Row) → Rises low rows → IsRow rows k i → x ≡ get_or rows i x → row_at rows k ≡ Some x
row_place low [] k i x r w e = let lt = w.within in absurd (omega arith)
row_place low (y ∷ rows) k zero x r w e = let t = head_call k y y rows w in rw t (ap (λ z. Some z) (sym e))
row_place low (y ∷ rows) k (suc i) x r w e =
    let t = tail_row k i y rows w in
    let off = earlier low k i y rows r t in rw off (row_place (y.call + 1) rows k i x r.2 t e)

pub slots_place : (low : ℕ) (rows : List Row) (k i : ℕ) (x : Row) → Rises low rows → IsRow rows k i → x ≡ get_or rows i x → slots_at rows k ≡ x.slots
slots_place low rows k i x r w e = ap slots_in (row_place low rows k i x r w e)

-- WHAT IS KEPT

-- a mark that leaves the number and the slots
pub record Marks (f : Row → Row) : Type 0 where
  pub call : (r : Row) → (f r).call ≡ r.call
  pub slots : (r : Row) → (f r).slots ≡ r.slots

call_kept : (k : ℕ) (f : Row → Row) (r : Row) → Marks f → (at_call k f r).call ≡ r.call
call_kept k f r m = elim (cases_Bool (is_call k r)) [ inl t ↦ rw t (m.call r) | inr t ↦ rw t refl ]

slots_kept : (k : ℕ) (f : Row → Row) (r : Row) → Marks f → (at_call k f r).slots ≡ r.slots
slots_kept k f r m = elim (cases_Bool (is_call k r)) [ inl t ↦ rw t (m.slots r) | inr t ↦ rw t refl ]

pub rises_marked : (k : ℕ) (f : Row → Row) (low : ℕ) (rows : List Row) → Marks f → Rises low rows → Rises low (map (at_call k f) rows)
rises_marked k f low [] m r = tt
rises_marked k f low (x ∷ rows) m r =
    let e = call_kept k f x m in
    let first = r.0 in
    let small = r.1 in
    (omega arith, omega arith, subst (λ n. Rises (n + 1) (map (at_call k f) rows)) (sym e) (rises_marked k f (x.call + 1) rows m r.2))

few_marked : (k : ℕ) (f : Row → Row) (rows : List Row) → Marks f → AllFew rows → AllFew (map (at_call k f) rows)
few_marked k f [] m w = tt
few_marked k f (x ∷ rows) m w =
    let e : length (at_call k f x).slots ≡ length x.slots = ap (λ ss. length ss) (slots_kept k f x m) in
    let few = w.0 in (omega arith, few_marked k f rows m w.1)

-- as many wait
same_waits : (k : ℕ) (f : Row → Row) (rows : List Row) → ((r : Row) → (f r).runs ≡ r.runs) → length (filter is_waiting (map (at_call k f) rows)) ≡ length (filter is_waiting rows)
same_waits k f [] m = refl
same_waits k f (x ∷ rows) m =
    let more = same_waits k f rows m in
    let e : (at_call k f x).runs ≡ x.runs = elim (cases_Bool (is_call k x)) [ inl t ↦ rw t (m x) | inr t ↦ rw t refl ] in
    elim (cases_Bool x.runs) [
      | inl t ↦ let u : (at_call k f x).runs ≡ true = e ∙ t in rw (u, t) more
      | inr t ↦ let u : (at_call k f x).runs ≡ false = e ∙ t in rw (u, t) (omega arith)
    ]

-- no more wait, and one less where the call waits
fewer_waits : (k : ℕ) (rows : List Row) → length (filter is_waiting (with_start k rows)) ≤ length (filter is_waiting rows)
fewer_waits k [] = omega arith
fewer_waits k (x ∷ rows) =
    let more = fewer_waits k rows in
    elim (cases_Bool (is_call k x)) [
      | inl t ↦ elim (cases_Bool x.runs) [ inl u ↦ rw (t, u) more | inr u ↦ rw (t, u) (omega arith) ]
      | inr t ↦ elim (cases_Bool x.runs) [ inl u ↦ rw (t, u) more | inr u ↦ rw (t, u) (omega arith) ]
    ]

one_waits : (k : ℕ) (rows : List Row) → waits_at rows k ≡ true → length (filter is_waiting (with_start k rows)) + 1 ≤ length (filter is_waiting rows)
one_waits k [] h = absurd (cc)
one_waits k (x ∷ rows) h =
    elim (cases_Bool (is_call k x)) [
      | inl t ↦ elim (cases_Bool x.runs) [
        | inl u ↦ let more = one_waits k rows (rw (t, u) at h) in rw (t, u) more
        | inr u ↦ let less = fewer_waits k rows in rw (t, u) (omega arith)
      ]
      | inr t ↦ let more = one_waits k rows (rw t at h) in elim (cases_Bool x.runs) [ inl u ↦ rw (t, u) more | inr u ↦ rw (t, u) (omega arith) ]
    ]

-- FILTERS

rises_less : (low more : ℕ) (rows : List Row) → low ≤ more → Rises more rows → Rises low rows
rises_less low more [] le r = tt
rises_less low more (x ∷ rows) le r = let first = r.0 in (omega arith, r.1, r.2)

pub rises_filter : (p : Row → Bool) (low : ℕ) (rows : List Row) → Rises low rows → Rises low (filter p rows)
rises_filter p low [] r = tt
rises_filter p low (x ∷ rows) r =
    let rest = rises_filter p (x.call + 1) rows r.2 in
    let first = r.0 in
    elim (cases_Bool (p x)) [
      | inl t ↦ rw t (r.0, r.1, rest)
      | inr t ↦ rw t (rises_less low (x.call + 1) (filter p rows) (omega arith) rest)
    ]

pub few_filter : (p : Row → Bool) (rows : List Row) → AllFew rows → AllFew (filter p rows)
few_filter p [] w = tt
few_filter p (x ∷ rows) w = elim (cases_Bool (p x)) [ inl t ↦ rw t (w.0, few_filter p rows w.1) | inr t ↦ rw t (few_filter p rows w.1) ]

waits_filter : (p : Row → Bool) (rows : List Row) → length (filter is_waiting (filter p rows)) ≤ length (filter is_waiting rows)
waits_filter p [] = omega arith
waits_filter p (x ∷ rows) =
    let more = waits_filter p rows in
    elim (cases_Bool (p x)) [
      | inl t ↦ elim (cases_Bool x.runs) [ inl u ↦ rw (t, u) more | inr u ↦ rw (t, u) (omega arith) ]
      | inr t ↦ elim (cases_Bool x.runs) [ inl u ↦ rw (t, u) more | inr u ↦ rw (t, u) (omega arith) ]
    ]

-- A NEW ROW

pub rises_push : (low : ℕ) (rows : List Row) (x : Row) → Rises low rows → over x.call rows ≡ true → low ≤ x.call → x.call < 2 ^ 32 → Rises low (rows ++ x ∷ [])
rises_push low [] x r o le small = (le, small, tt)
rises_push low (y ∷ rows) x r o le small =
    elim (cases_Bool (is_below x.call y)) [
      | inl t ↦ let below = ltb-true y.call x.call t in (r.0, r.1, rises_push (y.call + 1) rows x r.2 (rw t at o) (omega arith) small)
      | inr t ↦ absurd (let f = rw t at o in cc)
    ]

few_push : (rows : List Row) (x : Row) → AllFew rows → length x.slots ≤ 4 → AllFew (rows ++ x ∷ [])
few_push [] x w le = (le, tt)
few_push (y ∷ rows) x w le = (w.0, few_push rows x w.1 le)

waits_push : (rows : List Row) (x : Row) → length (filter is_waiting (rows ++ x ∷ [])) ≤ length (filter is_waiting rows) + 1
waits_push [] x = elim (cases_Bool x.runs) [ inl t ↦ rw t (omega arith) | inr t ↦ rw t (omega arith) ]
waits_push (y ∷ rows) x = let more = waits_push rows x in elim (cases_Bool y.runs) [ inl t ↦ rw t (omega arith) | inr t ↦ rw t (omega arith) ]

-- THE INVARIANT

pub marked : (rows rows' : StoredRows) (lists : Vec (List (Option ℕ)) Global) (room k : ℕ) (f : Row → Row) → IsKept rows lists room → Marks f → ((r : Row) → (f r).runs ≡ r.runs) → rows'.items ≡ map (at_call k f) rows.items → rows'.room ≡ rows.room → IsKept rows' lists room
marked rows rows' lists room k f s m n same more =
    let wait = ap (λ (xs : List Row). length (filter is_waiting xs)) same ∙ same_waits k f rows.items n in
    let enough = s.enough in
    let places = s.places in
    record {
      rises = subst (Rises 0) (sym same) (rises_marked k f 0 rows.items m s.rises);
      few = subst AllFew (sym same) (few_marked k f rows.items m s.few);
      places = omega arith;
      enough = omega arith;
      blanks = s.blanks;
    }

pub begun : (rows rows' : StoredRows) (lists lists' : Vec (List (Option ℕ)) Global) (room k : ℕ) → IsKept rows lists room → waits_at rows.items k ≡ true → rows'.items ≡ with_start k rows.items → rows'.room ≡ rows.room → vec_len lists' + 1 ≡ vec_len lists → lists'.items ≡ take (vec_len lists - 1) lists.items → IsKept rows' lists' room
begun rows rows' lists lists' room k s h same more one rest =
    let m : Marks taken = record { call = λ r. refl; slots = λ r. refl } in
    let wait = ap (λ (xs : List Row). length (filter is_waiting xs)) same in
    let less = one_waits k rows.items h in
    let enough = s.enough in
    let places = s.places in
    record {
      rises = subst (Rises 0) (sym same) (rises_marked k taken 0 rows.items m s.rises);
      few = subst AllFew (sym same) (few_marked k taken rows.items m s.few);
      places = omega arith;
      enough = omega arith;
      blanks = subst (All (λ b. b ≡ blank)) (sym rest) (All-take (λ b. b ≡ blank) (vec_len lists - 1) lists.items s.blanks);
    }

pub filtered : (rows rows' : StoredRows) (lists : Vec (List (Option ℕ)) Global) (room : ℕ) (p : Row → Bool) → IsKept rows lists room → rows'.items ≡ filter p rows.items → rows'.room ≡ rows.room → IsKept rows' lists room
filtered rows rows' lists room p s q more =
    let wait = ap (λ (xs : List Row). length (filter is_waiting xs)) q in
    let less = waits_filter p rows.items in
    let enough = s.enough in
    let places = s.places in
    record {
      rises = subst (Rises 0) (sym q) (rises_filter p 0 rows.items s.rises);
      few = subst AllFew (sym q) (few_filter p rows.items s.few);
      places = omega arith;
      enough = omega arith;
      blanks = s.blanks;
    }

pub added : (rows rows' : StoredRows) (lists : Vec (List (Option ℕ)) Global) (room room' : ℕ) (x : Row) → IsKept rows lists room → room' + 1 ≡ room → over x.call rows.items ≡ true → x.call < 2 ^ 32 → length x.slots ≤ 4 → rows'.items ≡ rows.items ++ x ∷ [] → rows'.room + 1 ≡ rows.room → IsKept rows' lists room'
added rows rows' lists room room' x s less o small few q one =
    let wait = ap (λ (xs : List Row). length (filter is_waiting xs)) q in
    let more = waits_push rows.items x in
    let enough = s.enough in
    let places = s.places in
    record {
      rises = subst (Rises 0) (sym q) (rises_push 0 rows.items x s.rises o (omega arith) small);
      few = subst AllFew (sym q) (few_push rows.items x s.few few);
      places = omega arith;
      enough = omega arith;
      blanks = s.blanks;
    }

-- COOKIES

-- while a call waits there is a list for it
pub some_list : (rows : StoredRows) (lists : Vec (List (Option ℕ)) Global) (room k : ℕ) → IsKept rows lists room → waits_at rows.items k ≡ true → 0 < vec_len lists
some_list rows lists room k s h = let one = one_waits k rows.items h in let enough = s.enough in omega arith

-- what holds of all holds of the last
last_of : {X : Type 0} (P : X → Type 0) (xs : List X) (y : X) → All P (xs ++ y ∷ []) → P y
last_of P xs y h = subst P (get_or_at_push xs y).1 (h (length xs) y (omega (arith, length_at_push xs y)))

pub last_blank : (ls xs : List (List (Option ℕ))) (y : List (Option ℕ)) → All (λ b. b ≡ blank) ls → ls ≡ xs ++ y ∷ [] → y ≡ blank
last_blank ls xs y h e = last_of (λ b. b ≡ blank) xs y (subst (All (λ b. b ≡ blank)) e h)

pub blank_cut : (ss : List Slot) → length ss ≤ 4 → take (length ss) blank ≡ no_cookies ss
blank_cut [] le = refl
blank_cut (a ∷ []) le = refl
blank_cut (a ∷ b ∷ []) le = refl
blank_cut (a ∷ b ∷ c ∷ []) le = refl
blank_cut (a ∷ b ∷ c ∷ d ∷ []) le = refl
blank_cut (a ∷ b ∷ c ∷ d ∷ e ∷ ss) le = absurd (omega arith)
