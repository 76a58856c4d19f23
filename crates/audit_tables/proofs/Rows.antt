-- The rows of calls, as one comes and goes.
use Rattle.std.proofs.Common.{◌≡◌, ℕ, ◌+◌, ◌<◌, ◌≤◌, ◌^◌, Bool, true, false, ◌&&◌, ◌||◌, not, ◌==◌, nat_lt, Option, Some, None, List, [], ◌∷◌, ◌++◌, length, map, refl, sym, ◌∙◌, ap, subst, arith, inl, inr}
use Rattle.std.specs.List.{find, filter, list_any}
use Rattle.std.specs.Map.{values_of}
use Rattle.std.specs.Option.{option_or}
use Rattle.std.proofs.lemmas.Grind.{common_steps}
use Rattle.std.proofs.lemmas.Bool.{cases_order, cases_Bool, or_cases, or_left, or_right, eqb-true, eq-eqb, ne_eqb}
use Rattle.std.proofs.lemmas.Bool.Decides.{nat_tests}
use Rattle.handle_model.specs.declared.entry.Slot.{Slot}
use Rattle.handle_model.specs.Journal.{least, lesser}
use Rattle.call_table.specs.declared.row.Row.{Row}
use Rattle.call_table.specs.Kept.{Rises}
use Rattle.call_table.specs.Rows.{is_call, is_other, is_left, is_below, stays, row_at, calls, over, blocks_running, blocks_waiting, least_running, least_waiting, blocker_of, at_call, without, left}
use Rattle.call_table.proofs.Marks.{above_kept}
use Rattle.audit_tables.specs.Keyed.{IsTable}
use Rattle.audit_tables.specs.Keyed as keyed
use Rattle.audit_tables.specs.Calls.{call_of, is_above, with_row}
use Rattle.audit_tables.specs.Users.{holds_in}

-- ORDER

pub rows_rise : (low : ℕ) (es : List (ℕ × Row)) → keyed.Keyed call_of es → keyed.Rises low es → Rises low (values_of es)
rows_rise low [] h r = tt
rows_rise low (e ∷ es) h r =
    let own = h.0 in
    (subst (λ n. low ≤ n) own r.0, subst (λ n. n < 2 ^ 32) own r.1, rows_rise (e.1.call + 1) es h.1 (subst (λ n. keyed.Rises (n + 1) es) own r.2))

pub table_rises : (es : List (ℕ × Row)) → IsTable call_of es → Rises 0 (values_of es)
table_rises es t = rows_rise 0 es t.keyed t.rises

pub row_number : (rows : List Row) (k : ℕ) (x : Row) → row_at rows k ≡ Some x → x.call ≡ k
row_number [] k x h = absurd (cc)
row_number (r ∷ rows) k x h =
    elim (cases_Bool (is_call k r)) [
      | inl t ↦ let same : r ≡ x = let e = rw t at h in cc in ap (λ (y : Row). y.call) (sym same) ∙ eqb-true r.call k t
      | inr f ↦ row_number rows k x (rw f at h)
    ]

pub row_low : (low : ℕ) (rows : List Row) (k : ℕ) (x : Row) → Rises low rows → row_at rows k ≡ Some x → (low ≤ k) × (k < 2 ^ 32)
row_low low [] k x r h = absurd (cc)
row_low low (y ∷ rows) k x r h =
    let first = r.0 in
    let small = r.1 in
    elim (cases_Bool (is_call k y)) [
      | inl t ↦ let same = eqb-true y.call k t in (omega arith, omega arith)
      | inr f ↦ let more = row_low (y.call + 1) rows k x r.2 (rw f at h) in (omega arith, more.1)
    ]

-- no row at a lesser number
pub no_row_below : (low : ℕ) (rows : List Row) (k : ℕ) → Rises low rows → k < low → row_at rows k ≡ None
no_row_below low [] k r lt = refl
no_row_below low (y ∷ rows) k r lt =
    let first = r.0 in
    let f : is_call k y ≡ false = grind (arith, nat_tests) in rw f (no_row_below (y.call + 1) rows k r.2 (omega arith))

-- WHAT A ROW OF SOME KIND TELLS

pub record Stands (rows : List Row) (p : Row → Bool) : Type 0 where
  pub row : Row
  pub here : row_at rows row.call ≡ Some row
  pub so : p row ≡ true

pub any_row : (low : ℕ) (p : Row → Bool) (rows : List Row) → Rises low rows → list_any p rows ≡ true → Stands rows p
any_row low p [] r h = absurd (cc)
any_row low p (y ∷ rows) r h =
    elim (or_cases (p y) (list_any p rows) h) [
      | inl t ↦ let own : is_call y.call y ≡ true = eq-eqb y.call y.call refl in record { row = y; here = rw own refl; so = t }
      | inr t ↦
          let s = any_row (y.call + 1) p rows r.2 t in
          let later = (row_low (y.call + 1) rows s.row.call s.row r.2 s.here).0 in
          let f : is_call s.row.call y ≡ false = grind (arith, nat_tests) in
          record { row = s.row; here = rw f s.here; so = s.so }
    ]

pub row_any : (p : Row → Bool) (rows : List Row) (k : ℕ) (x : Row) → row_at rows k ≡ Some x → p x ≡ true → list_any p rows ≡ true
row_any p [] k x h t = absurd (cc)
row_any p (y ∷ rows) k x h t =
    elim (cases_Bool (is_call k y)) [
      | inl e ↦ let same : y ≡ x = let q = rw e at h in cc in or_left (p y) (list_any p rows) (ap p same ∙ t)
      | inr f ↦ or_right (p y) (list_any p rows) (row_any p rows k x (rw f at h) t)
    ]

-- A BLOCKER

none_least : (p : Row → Bool) (rows : List Row) → list_any p rows ≡ false → least (calls (filter p rows)) ≡ None
none_least p [] h = refl
none_least p (r ∷ rows) h = grind (arith, common_steps, none_least p rows)

lesser_some : (n : ℕ) (o : Option ℕ) → lesser n o ≡ None → ⊥
lesser_some n None h = absurd (cc)
lesser_some n (Some m) h = absurd (cc)

some_least : (p : Row → Bool) (rows : List Row) → list_any p rows ≡ true → least (calls (filter p rows)) ≡ None → ⊥
some_least p [] h e = absurd (cc)
some_least p (r ∷ rows) h e =
    elim (cases_Bool (p r)) [
      | inl t ↦ lesser_some r.call (least (calls (filter p rows))) (rw t at e)
      | inr f ↦ some_least p rows (rw f at h) (rw f at e)
    ]

pub free_blocker : (ss : List Slot) (k : ℕ) (rows : List Row) → list_any (blocks_running ss) rows ≡ false → list_any (blocks_waiting ss k) rows ≡ false → blocker_of ss k rows ≡ None
free_blocker ss k rows a b = rw (none_least (blocks_running ss) rows a) (none_least (blocks_waiting ss k) rows b)

pub no_runner : (ss : List Slot) (k : ℕ) (rows : List Row) → blocker_of ss k rows ≡ None → list_any (blocks_running ss) rows ≡ true → ⊥
no_runner ss k rows e h =
    some_least (blocks_running ss) rows h (first (least_running ss rows) (least_waiting ss k rows) e)
  where
    first : (a b : Option ℕ) → option_or a b ≡ None → a ≡ None
    first None b h = refl
    first (Some m) b h = absurd (cc)

pub no_waiter : (ss : List Slot) (k : ℕ) (rows : List Row) → blocker_of ss k rows ≡ None → list_any (blocks_waiting ss k) rows ≡ true → ⊥
no_waiter ss k rows e h =
    some_least (blocks_waiting ss k) rows h (second (least_running ss rows) (least_waiting ss k rows) e)
  where
    second : (a b : Option ℕ) → option_or a b ≡ None → b ≡ None
    second None b h = h
    second (Some m) b h = absurd (cc)

-- A ROW GOES

pub none_gone : (rows : List Row) (k : ℕ) → row_at rows k ≡ None → without k rows ≡ rows
none_gone [] k h = refl
none_gone (r ∷ rows) k h =
    elim (cases_Bool (is_call k r)) [
      | inl t ↦ absurd (let e = rw t at h in cc)
      | inr f ↦ rw f (ap (λ xs. r ∷ xs) (none_gone rows k (rw f at h)))
    ]

pub gone : (rows : List Row) (k : ℕ) → row_at (without k rows) k ≡ None
gone [] k = refl
gone (r ∷ rows) k =
    elim (cases_Bool (is_call k r)) [
      | inl t ↦ rw t (gone rows k)
      | inr f ↦ rw f (rw f (gone rows k))
    ]

pub fewer : (rows : List Row) (k : ℕ) → length (without k rows) ≤ length rows
fewer [] k = omega arith
fewer (r ∷ rows) k =
    let more = fewer rows k in
    elim (cases_Bool (is_call k r)) [ inl t ↦ rw t (omega arith) | inr f ↦ rw f (omega arith) ]

pub shorter : (rows : List Row) (k : ℕ) (x : Row) → row_at rows k ≡ Some x → length (without k rows) < length rows
shorter [] k x h = absurd (cc)
shorter (r ∷ rows) k x h =
    elim (cases_Bool (is_call k r)) [
      | inl t ↦ let few = fewer rows k in rw t (omega arith)
      | inr f ↦ let few = shorter rows k x (rw f at h) in rw f (omega arith)
    ]

-- WAITING CALLS LEAVE

pub all_stay : (c : ℕ) (rows : List Row) → list_any (is_left c) rows ≡ false → left c rows ≡ rows
all_stay c [] h = refl
all_stay c (r ∷ rows) h =
    elim (cases_Bool (is_left c r)) [
      | inl t ↦ absurd (let e = rw t at h in cc)
      | inr f ↦ rw f (ap (λ xs. r ∷ xs) (all_stay c rows (rw f at h)))
    ]

pub left_without : (c low : ℕ) (rows : List Row) (k : ℕ) → Rises low rows → holds_in (is_left c) (row_at rows k) ≡ true → left c (without k rows) ≡ left c rows
left_without c low [] k r h = refl
left_without c low (y ∷ rows) k r h =
    elim (cases_Bool (is_call k y)) [
      | inl t ↦
          let goes : is_left c y ≡ true = rw t at h in
          let number = eqb-true y.call k t in
          rw (t, goes) (ap (left c) (none_gone rows k (no_row_below (y.call + 1) rows k r.2 (omega arith))))
      | inr f ↦
          let more = left_without c (y.call + 1) rows k r.2 (rw f at h) in
          elim (cases_Bool (is_left c y)) [ inl t ↦ rw (f, t) more | inr u ↦ rw (f, u) (ap (λ xs. y ∷ xs) more) ]
    ]

pub left_some : (c : ℕ) (o : Option Row) → holds_in (is_left c) o ≡ true → (x : Row) × (o ≡ Some x)
left_some c None h = absurd (cc)
left_some c (Some x) h = (x, refl)

-- A ROW IS PUT BACK

below_none : (k low : ℕ) (rows : List Row) → Rises low rows → k ≤ low → filter (is_below k) rows ≡ []
below_none k low [] r le = refl
below_none k low (y ∷ rows) r le =
    let first = r.0 in
    let f : is_below k y ≡ false = grind (arith, nat_tests) in rw f (below_none k (y.call + 1) rows r.2 (omega arith))

above_all : (k low : ℕ) (rows : List Row) → Rises low rows → k < low → filter (is_above k) rows ≡ rows
above_all k low [] r lt = refl
above_all k low (y ∷ rows) r lt =
    let first = r.0 in
    let t : is_above k y ≡ true = grind (arith, nat_tests) in
    rw t (ap (λ xs. y ∷ xs) (above_all k (y.call + 1) rows r.2 (omega arith)))

-- at its number
placed : ℕ → Row → List Row → List Row
placed k x rows = filter (is_below k) rows ++ x ∷ filter (is_above k) rows

back : (f : Row → Row) (k low : ℕ) (rows : List Row) (x : Row) → Rises low rows → row_at rows k ≡ Some x → placed k (f x) (without k rows) ≡ map (at_call k f) rows
unfolding placed
back f k low [] x r h = absurd (cc)
back f k low (y ∷ rows) x r h =
    elim (cases_Bool (is_call k y)) [
      | inl t ↦
          let number = eqb-true y.call k t in
          let same : y ≡ x = let e = rw t at h in cc in
          let rest : without k rows ≡ rows = none_gone rows k (no_row_below (y.call + 1) rows k r.2 (omega arith)) in
          rw (t, rest, below_none k (y.call + 1) rows r.2 (omega arith), above_all k (y.call + 1) rows r.2 (omega arith), above_kept (y.call + 1) k f rows r.2 (omega arith)) (ap (λ z. f z ∷ rows) (sym same))
      | inr e ↦
          let there = rw e at h in
          let low' = (row_low (y.call + 1) rows k x r.2 there).0 in
          let b : is_below k y ≡ true = grind (arith, nat_tests) in
          let a : is_above k y ≡ false = grind (arith, nat_tests) in
          rw (e, b, a) (ap (λ xs. y ∷ xs) (back f k (y.call + 1) rows x r.2 there))
    ]

pub put_back : (f : Row → Row) (k : ℕ) (rows : List Row) (x : Row) → ((r : Row) → (f r).call ≡ r.call) → Rises 0 rows → row_at rows k ≡ Some x → with_row (f x) (without k rows) ≡ map (at_call k f) rows
unfolding placed
put_back f k rows x same r h =
    let number : (f x).call ≡ k = same x ∙ row_number rows k x h in
    subst (λ n. filter (is_below n) (without k rows) ++ f x ∷ filter (is_above n) (without k rows) ≡ map (at_call k f) rows) (sym number) (back f k 0 rows x r h)

pub none_marked : (f : Row → Row) (k : ℕ) (rows : List Row) → row_at rows k ≡ None → map (at_call k f) rows ≡ rows
none_marked f k [] h = refl
none_marked f k (y ∷ rows) h =
    elim (cases_Bool (is_call k y)) [
      | inl t ↦ absurd (let e = rw t at h in cc)
      | inr e ↦ rw e (ap (λ xs. y ∷ xs) (none_marked f k rows (rw e at h)))
    ]
