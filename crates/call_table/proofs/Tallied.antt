-- What is counted over the rows, after an edit of them.
use Rattle.std.proofs.Common.{◌≡◌, ℕ, ◌+◌, ◌*◌, ◌≤◌, ◌<◌, ◌^◌, Bool, true, false, not, ◌==◌, Option, Some, None, List, [], ◌∷◌, ◌++◌, length, map, refl, sym, ◌∙◌, ap, arith, inl, inr}
use Rattle.std.specs.List.{filter, list_any}
use Rattle.std.proofs.lemmas.Grind.{common_steps}
use Rattle.std.proofs.lemmas.Bool.{cases_Bool, eqb-true}
use Rattle.std.proofs.lemmas.Bool.Decides.{eqb_tells}
use Rattle.handle_model.specs.declared.entry.Slot.{Slot}
use Rattle.handle_model.specs.Slots.{opens}
use Rattle.call_table.specs.declared.row.Row.{Row}
use Rattle.call_table.specs.declared.tally.Tally.{Tally}
use Rattle.call_table.specs.Rows.{is_call, is_running, row_at, waits_at, at_call, taken, without, with_start, openings_of}
use Rattle.call_table.specs.Kept.{Rises, AllFew}
use Rattle.call_table.specs.Tally.{total_of, opens_of, runs_of, IsTally, IsPart, HasRoom, Holds, Enters, Leaves}
use Rattle.call_table.proofs.Marks.{above_kept, others_kept}

-- SUMS

pub openings_total : (rows : List Row) → openings_of rows ≡ total_of opens_of rows
openings_total [] = refl
openings_total (x ∷ rows) = rw (openings_total rows) refl

pub any_total : (rows : List Row) → list_any is_running rows ≡ not (total_of runs_of rows == 0)
any_total [] = refl
any_total (x ∷ rows) = grind (arith, common_steps, eqb_tells, any_total rows)

pub total_push : (f : Row → ℕ) (rows : List Row) (r : Row) → total_of f (rows ++ r ∷ []) ≡ total_of f rows + f r
total_push f [] r = omega arith
total_push f (x ∷ rows) r = let more = total_push f rows r in omega arith

abbrev said_by : (Row → ℕ) → Option Row → ℕ
said_by f None = 0
said_by f (Some r) = f r

-- one call goes
pub total_without : (f : Row → ℕ) (low : ℕ) (rows : List Row) (k : ℕ) (r : Row) → Rises low rows → row_at rows k ≡ Some r → total_of f (without k rows) + f r ≡ total_of f rows
total_without f low [] k r s e = absurd (cc)
total_without f low (x ∷ rows) k r s e =
    elim (cases_Bool (is_call k x)) [
      | inl t ↦
          let here = rw t at e in
          let same : f x ≡ f r = ap (said_by f) here in
          let number = eqb-true x.call k t in
          rw (t, others_kept (x.call + 1) k rows s.2 (omega arith)) (omega arith)
      | inr t ↦ let more = total_without f (x.call + 1) rows k r s.2 (rw t at e) in rw t (omega arith)
    ]

-- one call is marked
pub total_marked : (f : Row → ℕ) (g : Row → Row) (low : ℕ) (rows : List Row) (k : ℕ) (r : Row) → Rises low rows → row_at rows k ≡ Some r → total_of f (map (at_call k g) rows) + f r ≡ total_of f rows + f (g r)
total_marked f g low [] k r s e = absurd (cc)
total_marked f g low (x ∷ rows) k r s e =
    elim (cases_Bool (is_call k x)) [
      | inl t ↦
          let here = rw t at e in
          let before : f x ≡ f r = ap (said_by f) here in
          let after : f (g x) ≡ f (g r) = ap (said_by (λ y. f (g y))) here in
          let number = eqb-true x.call k t in
          rw (t, above_kept (x.call + 1) k g rows s.2 (omega arith)) (omega arith)
      | inr t ↦ let more = total_marked f g (x.call + 1) rows k r s.2 (rw t at e) in rw t (omega arith)
    ]

pub total_same : (f : Row → ℕ) (g : Row → Row) (rows : List Row) (k : ℕ) → ((r : Row) → f (g r) ≡ f r) → total_of f (map (at_call k g) rows) ≡ total_of f rows
total_same f g [] k h = refl
total_same f g (x ∷ rows) k h =
    let more = total_same f g rows k h in
    elim (cases_Bool (is_call k x)) [
      | inl t ↦ rw t (let same = h x in omega arith)
      | inr t ↦ rw t (omega arith)
    ]

-- BOUNDS

pub rises_count : (low : ℕ) (rows : List Row) → Rises low rows → low ≤ 2 ^ 32 → length rows + low ≤ 2 ^ 32
rises_count low [] r le = omega arith
rises_count low (x ∷ rows) r le =
    let first = r.0 in
    let small = r.1 in
    let more = rises_count (x.call + 1) rows r.2 (omega arith) in omega arith

total_bound : (f : Row → ℕ) (rows : List Row) → AllFew rows → ((r : Row) → length r.slots ≤ 4 → f r ≤ 4) → total_of f rows ≤ 4 * length rows
total_bound f [] w h = omega arith
total_bound f (x ∷ rows) w h =
    let more = total_bound f rows w.1 h in
    let one = h x w.0 in omega arith

filter_few : (p : Slot → Bool) (ss : List Slot) → length (filter p ss) ≤ length ss
filter_few p [] = omega arith
filter_few p (s ∷ ss) = let more = filter_few p ss in elim (cases_Bool (p s)) [ inl e ↦ rw e (omega arith) | inr e ↦ rw e (omega arith) ]

runs_few : (r : Row) → runs_of r ≤ 1
runs_few r = elim (cases_Bool r.runs) [ inl e ↦ rw e (omega arith) | inr e ↦ rw e (omega arith) ]

small_total : (f : Row → ℕ) (rows : List Row) → Rises 0 rows → AllFew rows → ((r : Row) → length r.slots ≤ 4 → f r ≤ 4) → total_of f rows + 4 < 2 ^ 64
small_total f rows r w h =
    let all = rises_count 0 rows r (omega arith) in
    let few = total_bound f rows w h in omega arith

opens_small : (r : Row) → length r.slots ≤ 4 → opens_of r ≤ 4
opens_small r le = let few = filter_few opens r.slots in omega arith

runs_small : (r : Row) → length r.slots ≤ 4 → runs_of r ≤ 4
runs_small r le = let few = runs_few r in omega arith

-- THE COUNTS

pub part_room : (rows rest : List Row) (t : Tally) → Rises 0 rows → AllFew rows → IsPart rows rest t → HasRoom t
part_room rows rest t r w p =
    record {
      openings_room = let small = small_total opens_of rows r w opens_small in let part = p.openings_part in omega arith;
      running_room = let small = small_total runs_of rows r w runs_small in let part = p.running_part in omega arith;
    }

pub tally_room : (rows : List Row) (t : Tally) → Rises 0 rows → AllFew rows → IsTally rows t → HasRoom t
tally_room rows t r w s =
    part_room rows [] t r w (record {
      openings_part = let e = s.openings_is in omega arith;
      running_part = let e = s.running_is in omega arith;
    })

pub tally_holds : (rows : List Row) (t : Tally) (k : ℕ) (r : Row) → Rises 0 rows → row_at rows k ≡ Some r → IsTally rows t → Holds t r
tally_holds rows t k r s e i =
    record {
      openings_there = let total = total_without opens_of 0 rows k r s e in let is = i.openings_is in omega arith;
      running_there = let total = total_without runs_of 0 rows k r s e in let is = i.running_is in omega arith;
    }

pub tally_push : (rows : List Row) (t t' : Tally) (r : Row) → IsTally rows t → Enters t r t' → IsTally (rows ++ r ∷ []) t'
tally_push rows t t' r i m =
    record {
      openings_is = let total = total_push opens_of rows r in let is = i.openings_is in let more = m.openings_more in omega arith;
      running_is = let total = total_push runs_of rows r in let is = i.running_is in let more = m.running_more in omega arith;
    }

pub tally_without : (rows : List Row) (t t' : Tally) (k : ℕ) (r : Row) → Rises 0 rows → row_at rows k ≡ Some r → IsTally rows t → Leaves t r t' → IsTally (without k rows) t'
tally_without rows t t' k r s e i m =
    record {
      openings_is = let total = total_without opens_of 0 rows k r s e in let is = i.openings_is in let less = m.openings_less in omega arith;
      running_is = let total = total_without runs_of 0 rows k r s e in let is = i.running_is in let less = m.running_less in omega arith;
    }

-- a mark that none of the counts sees
pub tally_marked : (g : Row → Row) (rows : List Row) (t : Tally) (k : ℕ) → ((r : Row) → (g r).slots ≡ r.slots) → ((r : Row) → (g r).runs ≡ r.runs) → IsTally rows t → IsTally (map (at_call k g) rows) t
tally_marked g rows t k h n i =
    record {
      openings_is = i.openings_is ∙ sym (total_same opens_of g rows k (λ r. ap (λ (ss : List Slot). length (filter opens ss)) (h r)));
      running_is = i.running_is ∙ sym (total_same runs_of g rows k (λ r. rw (n r) refl));
    }

-- A CALL STARTS

pub waits_row : (low : ℕ) (rows : List Row) (k : ℕ) (r : Row) → Rises low rows → waits_at rows k ≡ true → row_at rows k ≡ Some r → r.runs ≡ false
waits_row low [] k r s h e = absurd (cc)
waits_row low (x ∷ rows) k r s h e =
    elim (cases_Bool (is_call k x)) [
      | inl t ↦
          let here : Some x ≡ Some r = rw t at e in
          elim (cases_Bool x.runs) [
            | inl u ↦ absurd (let number = eqb-true x.call k t in let none = none_waits (x.call + 1) rows k s.2 (omega arith) in let more = rw (t, u) at h in cc)
            | inr u ↦ runs_said here ∙ u
          ]
      | inr t ↦ waits_row (x.call + 1) rows k r s.2 (rw t at h) (rw t at e)
    ]
  where
    none_waits : (low : ℕ) (rows : List Row) (k : ℕ) → Rises low rows → k < low → waits_at rows k ≡ false
    none_waits low [] k s lt = refl
    none_waits low (x ∷ rows) k s lt =
        let first = s.0 in
        elim (cases_Bool (is_call k x)) [
          | inl t ↦ let number = eqb-true x.call k t in absurd (omega arith)
          | inr t ↦ rw t (none_waits (x.call + 1) rows k s.2 (omega arith))
        ]

    runs_in : Option Row → Bool
    runs_in None = false
    runs_in (Some y) = y.runs

    runs_said : {x r : Row} → Some x ≡ Some r → r.runs ≡ x.runs
    runs_said e = sym (ap runs_in e)

pub tally_started : (rows : List Row) (t t' : Tally) (k : ℕ) (r : Row) → Rises 0 rows → waits_at rows k ≡ true → row_at rows k ≡ Some r → IsTally rows t → t'.openings ≡ t.openings → t'.running ≡ t.running + 1 → IsTally (with_start k rows) t'
tally_started rows t t' k r s h e i o n =
    record {
      openings_is = o ∙ (i.openings_is ∙ sym (total_same opens_of taken rows k (λ r. refl)));
      running_is = (
          let total = total_marked runs_of taken 0 rows k r s e in
          let off : runs_of r ≡ 0 = (let w = waits_row 0 rows k r s h e in rw w refl) in
          let on : runs_of (taken r) ≡ 1 = refl in
          let is = i.running_is in omega arith
          );
    }
