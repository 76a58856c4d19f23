-- A search among rising numbers ends where the call's row stands, or would stand.
use Rattle.std.proofs.Common.{◌≡◌, ◌≢◌, ℕ, zero, suc, ◌+◌, ◌≤◌, ◌<◌, true, false, None, List, [], ◌∷◌, length, get_or, refl, ◌∙◌, ap, subst, arith, inl, inr}
use Rattle.std.specs.List.{list_any, remove}
use Rattle.std.proofs.lemmas.Grind.{common_steps}
use Rattle.std.specs.List.Sorted.{IsPartitionedBy, IsPartitionPoint}
use Rattle.std.proofs.lemmas.List.{get_or_default}
use Rattle.std.proofs.lemmas.Bool.{cases_lt, cases_Bool, eqb-true, ltb-true, ltb-false}
use Rattle.std.proofs.lemmas.Bool.Decides.{nat_tests}
use Rattle.call_table.specs.declared.row.Row.{Row}
use Rattle.call_table.specs.Rows.{is_call, is_below, row_at, without}
use Rattle.call_table.specs.Kept.{Rises, IsRow}
use Rattle.call_table.specs.Sought.{IsPlace}
use Rattle.call_table.proofs.Marks.{rises_at, head_call, tail_row, earlier, others_kept}

pub rises_order : (low : ℕ) (rows : List Row) (j k : ℕ) (d : Row) → Rises low rows → j < k → k < length rows → (get_or rows j d).call < (get_or rows k d).call
rises_order low [] j k d r lt l = absurd (omega arith)
rises_order low (x ∷ rows) zero zero d r lt l = absurd (omega arith)
rises_order low (x ∷ rows) zero (suc k) d r lt l = let more = rises_at (x.call + 1) rows k d r.2 (omega arith) in omega arith
rises_order low (x ∷ rows) (suc j) zero d r lt l = absurd (omega arith)
rises_order low (x ∷ rows) (suc j) (suc k) d r lt l = rises_order (x.call + 1) rows j k d r.2 (omega arith) (omega arith)

below_is : (k : ℕ) (x : Row) → x.call < k → is_below k x ≡ true
below_is k x lt = grind (arith, nat_tests)

-- what a search for a place asks, and what it answers
pub parted : (rows : List Row) (k : ℕ) → Rises 0 rows → IsPartitionedBy (is_below k) rows
parted rows k r i j d le lt p =
    elim (cases_lt i j) [
      | inl below ↦
          let less = rises_order 0 rows i j d r below lt in
          let low : (get_or rows j d).call < k = ltb-true _ _ p in below_is k (get_or rows i d) (omega arith)
      | inr same ↦ let e : j ≡ i = omega arith in subst (λ (n : ℕ). is_below k (get_or rows n d) ≡ true) e p
    ]

pub placed : (rows : List Row) (k i : ℕ) → i ≤ length rows → IsPartitionPoint (λ y. is_below k y ≡ true) (λ y. is_below k y ≡ false) rows i → IsPlace rows k i
placed rows k i le p =
    record {
      within = le;
      low = λ j d lt. ltb-true _ _ (p.0 j d (omega arith) lt);
      high = λ j d le' lt. ltb-false _ _ (p.1 j d le' lt);
    }

-- the row at its place
pub at_read : (rows : List Row) (k i : ℕ) (e : Row) → i < length rows → (get_or rows i e).call ≡ k → IsRow rows k i
at_read rows k i e lt q = record { within = lt; here = λ d. ap (λ (x : Row). x.call) (get_or_default rows i d e lt) ∙ q }

-- and none where no row has the number
none_from : (rows : List Row) (k : ℕ) → ((j : ℕ) (d : Row) → j < length rows → (get_or rows j d).call ≢ k) → row_at rows k ≡ None
none_from [] k h = refl
none_from (x ∷ rows) k h =
    elim (cases_Bool (is_call k x)) [
      | inl t ↦ absurd (h 0 x (omega arith) (eqb-true x.call k t))
      | inr t ↦ rw t (none_from rows k (λ j d lt. h (suc j) d (omega arith)))
    ]

pub none_there : (rows : List Row) (k i : ℕ) (e : Row) → Rises 0 rows → IsPlace rows k i → (i < length rows → (get_or rows i e).call ≢ k) → row_at rows k ≡ None
none_there rows k i e r p n =
    none_from rows k (λ j d lt q.
    elim (cases_lt j i) [
      | inl below ↦ let less = p.low j d below in omega arith
      | inr above ↦ elim (cases_lt i j) [
        | inl more ↦ let least = p.high i d (omega arith) (omega arith) in let up = rises_order 0 rows i j d r more lt in omega arith
        | inr same ↦
            let at : j ≡ i = omega arith in
            let in_range : i < length rows = omega arith in
            n in_range (ap (λ (x : Row). x.call) (get_or_default rows i e d in_range) ∙ subst (λ (m : ℕ). (get_or rows m d).call ≡ k) at q)
      ]
    ])

pub no_call : (rows : List Row) (k : ℕ) → row_at rows k ≡ None → list_any (is_call k) rows ≡ false
no_call [] k e = refl
no_call (x ∷ rows) k e = grind (arith, common_steps, no_call rows k)

-- THE ROW GOES

pub without_none : (rows : List Row) (k : ℕ) → row_at rows k ≡ None → without k rows ≡ rows
without_none [] k e = refl
without_none (x ∷ rows) k e =
    elim (cases_Bool (is_call k x)) [
      | inl t ↦ absurd (let f = rw t at e in cc)
      | inr t ↦ rw t (ap (λ ys. x ∷ ys) (without_none rows k (rw t at e)))
    ]

pub remove_row : (low : ℕ) (rows : List Row) (k i : ℕ) → Rises low rows → IsRow rows k i → remove rows i ≡ without k rows
remove_row low [] k i r w = let lt = w.within in absurd (omega arith)
remove_row low (x ∷ rows) k zero r w =
    let t = head_call k x x rows w in
    let here : x.call ≡ k = w.here x in
    rw (t, others_kept (x.call + 1) k rows r.2 (omega arith)) refl
remove_row low (x ∷ rows) k (suc i) r w =
    let t = tail_row k i x rows w in
    let off = earlier low k i x rows r t in
    rw off (ap (λ ys. x ∷ ys) (remove_row (x.call + 1) rows k i r.2 t))
