-- How many handles the rows may issue after an edit.
use Rattle.std.proofs.Common.{◌≡◌, ℕ, ◌+◌, ◌≤◌, Bool, List, [], ◌∷◌, ◌++◌, length, map, refl, arith}
use Rattle.std.specs.List.{filter}
use Rattle.std.proofs.lemmas.Grind.{common_steps}
use Rattle.handle_model.specs.Slots.{opens}
use Rattle.call_table.specs.declared.row.Row.{Row}
use Rattle.call_table.specs.Rows.{openings_of, slots_at, at_call, is_other, taken, cancelled, orphaned, with_start, with_cancel, with_orphan, without}

same_slots : (k : ℕ) (f : Row → Row) (rows : List Row) → ((r : Row) → (f r).slots ≡ r.slots) → openings_of (map (at_call k f) rows) ≡ openings_of rows
same_slots k f [] h = refl
same_slots k f (r ∷ rows) h = let more = same_slots k f rows h in let here = h r in grind (arith, common_steps)

pub start_openings : (k : ℕ) (rows : List Row) → openings_of (with_start k rows) ≡ openings_of rows
start_openings k rows = same_slots k taken rows (λ r. refl)

pub cancel_openings : (k : ℕ) (rows : List Row) → openings_of (with_cancel k rows) ≡ openings_of rows
cancel_openings k rows = same_slots k cancelled rows (λ r. refl)

pub orphan_openings : (k : ℕ) (rows : List Row) → openings_of (with_orphan k rows) ≡ openings_of rows
orphan_openings k rows = same_slots k orphaned rows (λ r. refl)

pub filter_openings : (p : Row → Bool) (rows : List Row) → openings_of (filter p rows) ≤ openings_of rows
filter_openings p [] = omega arith
filter_openings p (r ∷ rows) = let more = filter_openings p rows in grind (arith, common_steps)

-- the row of a call that goes takes its own with it
pub without_openings : (k : ℕ) (rows : List Row) → openings_of (without k rows) + length (filter opens (slots_at rows k)) ≤ openings_of rows
without_openings k [] = omega arith
without_openings k (r ∷ rows) = let more = without_openings k rows in let least = filter_openings (is_other k) rows in grind (arith, common_steps)

pub append_openings : (r : Row) (rows : List Row) → openings_of (rows ++ r ∷ []) ≡ openings_of rows + length (filter opens r.slots)
append_openings r [] = omega arith
append_openings r (x ∷ rows) = let more = append_openings r rows in grind (arith, common_steps)
