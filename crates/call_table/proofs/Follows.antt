-- The rows follow the entries.
use Rattle.std.proofs.Common.{◌≡◌, ℕ, ◌+◌, Bool, true, false, ◌&&◌, ◌||◌, not, length, inl, inr}
use Rattle.std.specs.List.{list_any}
use Rattle.std.proofs.lemmas.Bool.{cases_Bool}
use Rattle.handle_model.specs.declared.entry.Entry.{Entry}
use Rattle.handle_model.specs.declared.entry.Entry.TheVariants.{Join, Accept, Take, Deny, Cancel, Orphan, End, Leave, Shut}
use Rattle.handle_model.specs.History.{History, with_entry, size}
use Rattle.handle_model.specs.Journal.{Legal, waits, runs, waiting, running, is_cancelled, is_orphaned, is_empty}
use Rattle.handle_model.specs.Limits.{openings}
use Rattle.handle_model.proofs.Tests.{and_left, or_cases}
use Rattle.call_table.specs.Rows.{waits_at, runs_at, is_running, openings_of}
use Rattle.call_table.specs.Shown.{rows_of}
use Rattle.call_table.specs.Laws.{left_by, speaks_of_running}
use Rattle.call_table.proofs.Steps.{join_rows, accept_rows, take_rows, deny_rows, cancel_rows, flag_rows, orphan_rows, drop_rows, end_rows, leave_rows, shut_rows}
use Rattle.call_table.proofs.Found.{waits_shown, runs_shown}
use Rattle.call_table.proofs.Counts.{count_shown, openings_shown, idle_shown}

-- a call that waits or runs, and does not run, waits
waits_else : (j : History) (k : ℕ) (b : Bool) → runs j k ≡ false → (waits j k || runs j k && b) ≡ true → waits j k ≡ true
waits_else j k b r f =
    elim (or_cases (waits j k) (runs j k && b) f) [
      | inl w ↦ w
      | inr x ↦ absurd (let y = and_left (runs j k) b x in cc)
    ]

pub follows : (j : History) (e : Entry) → Legal (with_entry j e) → rows_of (with_entry j e) ≡ left_by (rows_of j) (size j) e (speaks_of_running j e)
follows j (Join c) l = join_rows j c
follows j (Accept k a) l = accept_rows j k a l
follows j (Take k cookies) l = take_rows j k cookies l.1 l.0.fits.0
follows j (Deny k slot) l = deny_rows j k slot l.0.fits.0
follows j (Cancel k) l =
    elim (cases_Bool (runs j k)) [
      | inl r ↦ rw r (flag_rows j k r)
      | inr r ↦ rw r (cancel_rows j k (waits_else j k (not (is_cancelled j k)) r l.0.fits))
    ]
follows j (Orphan k) l =
    elim (cases_Bool (runs j k)) [
      | inl r ↦ rw r (drop_rows j k r)
      | inr r ↦ rw r (orphan_rows j k (waits_else j k (not (is_orphaned j k)) r l.0.fits))
    ]
follows j (End k results said) l = end_rows j k results said l.0.fits.0
follows j (Leave c) l = leave_rows j c
follows j (Shut items) l = shut_rows j items

pub stage_shown : (j : History) (k : ℕ) → Legal j → (waits_at (rows_of j) k ≡ waits j k) × (runs_at (rows_of j) k ≡ runs j k)
stage_shown j k l = (waits_shown j k, runs_shown j k l)

pub counts_shown : (j : History) → Legal j → (length (rows_of j) ≡ length (waiting j) + length (running j)) × (openings_of (rows_of j) ≡ openings j (waiting j) + openings j (running j)) × (list_any is_running (rows_of j) ≡ not (is_empty (running j)))
counts_shown j l = (count_shown j l, openings_shown j l, idle_shown j l)
