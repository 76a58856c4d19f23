-- The sums of the numbers of connections, one by one.
use Rattle.std.proofs.Common.{◌≡◌, ◌∙◌, ℕ, zero, suc, ◌+◌, ◌*◌, ◌<◌, ◌≤◌, List, [], ◌∷◌, ◌++◌, refl, sym, ap, subst, arith, length, slice_index}
use Rattle.rpc_outside.specs.Links.{Shown}
use Rattle.server_counts.specs.Stats.{Tell}
use Rattle.server_rounds.specs.declared.settled.Settled.{Settled}
use Rattle.server_command.specs.Sums.{sum_at, AreRows, AreSums}

pub sum_more : (n : ℕ) (rows : List (List ℕ)) (row : List ℕ) → sum_at n (rows ++ row ∷ []) ≡ sum_at n rows + slice_index row n
sum_more n [] row = omega arith
sum_more n (r ∷ rows) row = let e = sum_more n rows row in omega (arith, e)

module _ {K : Type 0} (shows : K → Shown) where
  rows_more : (xs : List (Settled K)) (rows : List (List ℕ)) (x : Settled K) (row : List ℕ) → AreRows shows xs rows → Tell (shows x.link) row → AreRows shows (xs ++ x ∷ []) (rows ++ row ∷ [])
  rows_more [] [] x row h t = (t, tt)
  rows_more (y ∷ ys) (r ∷ rows) x row h t = (h.0, rows_more ys rows x row h.1 t)
  rows_more [] (r ∷ rows) x row h t = absurd h
  rows_more (y ∷ ys) [] x row h t = absurd h

  -- the sums of those so far, each of which is below that bound for each connection
  pub record SumTo (xs : List (Settled K)) (a b c d : ℕ) : Type 0 where
    pub rows : List (List ℕ)
    pub are_rows : AreRows shows xs rows
    pub first : a ≡ sum_at 0 rows
    pub second : b ≡ sum_at 1 rows
    pub third : c ≡ sum_at 2 rows
    pub fourth : d ≡ sum_at 3 rows

  pub sum_none : SumTo [] 0 0 0 0
  sum_none = record { rows = []; are_rows = tt; first = refl; second = refl; third = refl; fourth = refl }

  pub sum_one : (xs ys : List (Settled K)) (x : Settled K) (row : List ℕ) (a b c d : ℕ) → ys ≡ xs ++ x ∷ [] → SumTo xs a b c d → Tell (shows x.link) row
      → SumTo ys (a + slice_index row 0) (b + slice_index row 1) (c + slice_index row 2) (d + slice_index row 3)
  sum_one xs ys x row a b c d is s t = record {
    rows = s.rows ++ row ∷ [];
    are_rows = subst (λ l. AreRows shows l (s.rows ++ row ∷ [])) (sym is) (rows_more xs s.rows x row s.are_rows t);
    first = ap (λ n. n + slice_index row 0) s.first ∙ sym (sum_more 0 s.rows row);
    second = ap (λ n. n + slice_index row 1) s.second ∙ sym (sum_more 1 s.rows row);
    third = ap (λ n. n + slice_index row 2) s.third ∙ sym (sum_more 2 s.rows row);
    fourth = ap (λ n. n + slice_index row 3) s.fourth ∙ sym (sum_more 3 s.rows row);
  }

  pub sums_are : (xs : List (Settled K)) (a b c d : ℕ) → SumTo xs a b c d → AreSums shows xs (a ∷ b ∷ c ∷ d ∷ [])
  sums_are xs a b c d s = record {
    rows = s.rows;
    are_rows = s.are_rows;
    sums_are = ap (λ n. n ∷ b ∷ c ∷ d ∷ []) s.first ∙ ap (λ n. sum_at 0 s.rows ∷ n ∷ c ∷ d ∷ []) s.second ∙ ap (λ n. sum_at 0 s.rows ∷ sum_at 1 s.rows ∷ n ∷ d ∷ []) s.third
        ∙ ap (λ n. sum_at 0 s.rows ∷ sum_at 1 s.rows ∷ sum_at 2 s.rows ∷ n ∷ []) s.fourth;
  }
