-- The numbers of calls and packets of all connections (C706, "Remote Management Interface", rpc__mgmt_inq_stats).
use Rattle.std.specs.Prelude.{◌≡◌, ℕ, ◌+◌, List, [], ◌∷◌, ◌++◌, slice_index, ⊤}
use Rattle.rpc_outside.specs.Links.{Shown}
use Rattle.server_counts.specs.Stats.{Tell}
use Rattle.server_rounds.specs.declared.settled.Settled.{Settled}
use Rattle.server_command.specs.Texts.{stats_text}
use Rattle.server_command.specs.Lines.{lines_from}

-- the numbers at one place of each row, added up
abbrev pub sum_at : ℕ → List (List ℕ) → ℕ
sum_at n [] = 0
sum_at n (row ∷ rows) = slice_index row n + sum_at n rows

module _ {K : Type 0} (shows : K → Shown) where
  -- a row for each connection, as its link tells it
  abbrev pub AreRows : List (Settled K) → List (List ℕ) → Type 0
  AreRows [] [] = ⊤
  AreRows (c ∷ later) (row ∷ rows) = Tell (shows c.link) row × AreRows later rows
  AreRows _ _ = ⊥

  -- the sums of such rows: calls in, calls out, packets in and packets out
  pub record AreSums (finished : List (Settled K)) (sums : List ℕ) : Type 0 where
    pub rows : List (List ℕ)
    pub are_rows : AreRows finished rows
    pub sums_are : sums ≡ sum_at 0 rows ∷ sum_at 1 rows ∷ sum_at 2 rows ∷ sum_at 3 rows ∷ []

  -- A line for each connection, and behind them that of the sums.
  pub record Prints (finished : List (Settled K)) (out : List ℕ) : Type 0 where
    pub sums : List ℕ
    pub are_sums : AreSums finished sums
    pub out_is : out ≡ lines_from 1 finished ++ stats_text (slice_index sums 0) (slice_index sums 1) (slice_index sums 2) (slice_index sums 3)
