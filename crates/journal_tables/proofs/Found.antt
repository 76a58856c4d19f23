-- A row that is found waits or runs.
use Rattle.std.proofs.Common.{◌≡◌, ℕ, Bool, true, false, List, [], ◌∷◌, refl, arith, inl, inr}
use Rattle.std.proofs.lemmas.Bool.{cases_Bool}
use Rattle.call_table.specs.declared.row.Row.{Row}
use Rattle.call_table.specs.Rows.{is_call, row_at, waits_at, runs_at}
use Rattle.journal_tables.specs.Tables.{waits_in, runs_in}

pub waits_there : (rows : List Row) (k : ℕ) → waits_in (row_at rows k) ≡ true → waits_at rows k ≡ true
waits_there [] k h = absurd (cc)
waits_there (r ∷ rows) k h =
    elim (cases_Bool (is_call k r)) [
      | inl e ↦ elim (cases_Bool r.runs) [
        | inl t ↦ absurd (let f = rw (e, t) at h in cc)
        | inr t ↦ rw (e, t) refl
      ]
      | inr e ↦ rw e (waits_there rows k (rw e at h))
    ]

pub runs_there : (rows : List Row) (k : ℕ) → runs_in (row_at rows k) ≡ true → runs_at rows k ≡ true
runs_there [] k h = absurd (cc)
runs_there (r ∷ rows) k h =
    elim (cases_Bool (is_call k r)) [
      | inl e ↦ elim (cases_Bool r.runs) [
        | inl t ↦ rw (e, t) refl
        | inr t ↦ absurd (let f = rw (e, t) at h in cc)
      ]
      | inr e ↦ rw e (runs_there rows k (rw e at h))
    ]
