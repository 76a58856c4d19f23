-- Rows by rising number: the last one has the greatest.
use Rattle.std.proofs.Common.{◌≡◌, ℕ, suc, ◌+◌, ◌<◌, ◌≤◌, Bool, true, false, ◌||◌, not, nat_lt, List, [], ◌∷◌, ◌++◌, length, get_or, take, drop, refl, sym, ◌∙◌, ap, arith, inl, inr}
use Rattle.std.specs.List.{list_any, filter}
use Rattle.std.proofs.lemmas.Bool.{cases_Bool, ltb-true, lt-ltb}
use Rattle.call_table.specs.declared.row.Row.{Row}
use Rattle.call_table.specs.Rows.{is_below, is_waiting, over}
use Rattle.call_table.specs.Kept.{Rises}
use Rattle.handle_model.proofs.Rest.{rest_none}
use Rattle.call_table.proofs.Walks.{cut_at}

last_above : (low : ℕ) (xs : List Row) (x : Row) → Rises low (xs ++ x ∷ []) → low ≤ x.call
last_above low [] x r = r.0
last_above low (y ∷ xs) x r = let first = r.0 in let more = last_above (y.call + 1) xs x r.2 in omega arith

below_all : (low k : ℕ) (xs : List Row) (x : Row) → Rises low (xs ++ x ∷ []) → list_any (λ r. not (is_below k r)) (xs ++ x ∷ []) ≡ not (nat_lt x.call k)
below_all low k [] x r = elim (cases_Bool (nat_lt x.call k)) [ inl e ↦ rw e refl | inr e ↦ rw e refl ]
below_all low k (y ∷ xs) x r =
    let more = below_all (y.call + 1) k xs x r.2 in
    let high = last_above (y.call + 1) xs x r.2 in
    elim (cases_Bool (nat_lt x.call k)) [
      | inl e ↦ let up = ltb-true x.call k e in let here = lt-ltb y.call k (omega arith) in rw (here, e) (rw e at more)
      | inr e ↦ rw (more, e) (or_true (not (nat_lt y.call k)))
    ]
  where
    or_true : (b : Bool) → (b || true) ≡ true
    or_true true = refl
    or_true false = refl

pub last_below : (xs : List Row) (x : Row) (k : ℕ) (rows : List Row) → rows ≡ xs ++ x ∷ [] → Rises 0 rows → over k rows ≡ nat_lt x.call k
last_below xs x k rows e r =
    let s : Rises 0 (xs ++ x ∷ []) = rw e at r in
    ap (λ ys. not (list_any (λ r. not (is_below k r)) ys)) e ∙ (ap not (below_all 0 k xs x s) ∙ twice (nat_lt x.call k))
  where
    twice : (b : Bool) → not (not b) ≡ b
    twice true = refl
    twice false = refl

pub last_row : (rows : List Row) (x : Row) (k n : ℕ) → n + 1 ≡ length rows → x ≡ get_or rows n x → Rises 0 rows → nat_lt x.call k ≡ over k rows
last_row rows x k n len e r =
    let rest : drop (n + 1) rows ≡ [] = rest_none rows (n + 1) (omega arith) in
    let all = take_rest rows n x (omega arith) e rest in
    sym (last_below (take n rows) x k rows all r)
  where
    take_rest : (rows : List Row) (n : ℕ) (x : Row) → n < length rows → x ≡ get_or rows n x → drop (n + 1) rows ≡ [] → rows ≡ take n rows ++ x ∷ []
    take_rest rows n x lt e rest =
        let one : suc n ≡ n + 1 = omega arith in
        cut_at rows n x lt ∙ (ap (λ ys. take n rows ++ get_or rows n x ∷ ys) (ap (λ m. drop m rows) one ∙ rest) ∙ ap (λ y. take n rows ++ y ∷ []) (sym e))

-- no more wait than there are
pub waits_few : (rows : List Row) → length (filter is_waiting rows) ≤ length rows
waits_few [] = omega arith
waits_few (r ∷ rows) = let more = waits_few rows in elim (cases_Bool r.runs) [ inl e ↦ rw e (omega arith) | inr e ↦ rw e (omega arith) ]
