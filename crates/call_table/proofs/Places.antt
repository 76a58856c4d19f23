-- The places of the running calls: one comes, one goes, and the least.
use Rattle.std.proofs.Common.{◌≡◌, ℕ, ◌+◌, ◌<◌, ◌≤◌, true, false, ◌==◌, min, Option, Some, None, List, [], ◌∷◌, ◌++◌, length, map, refl, sym, ◌∙◌, ap, arith, inl, inr}
use Rattle.std.proofs.lemmas.Bool.{cases_Bool, cases_lt, eqb-true}
use Rattle.handle_model.specs.Journal.{least, lesser}
use Rattle.call_table.specs.declared.row.Row.{Row}
use Rattle.call_table.specs.Rows.{row_at, at_call, taken, with_start, without, running_places}
use Rattle.call_table.specs.Kept.{Rises}
use Rattle.call_table.specs.Tally.{total_of, runs_of}
use Rattle.call_table.specs.Sorted.{OrderedKeys, one, held, IsLeastFrom}
use Rattle.call_table.specs.Places.{runs_at_place, HasRunning, waits_of, IsPlaced}
use Rattle.call_table.proofs.Ordered.{one_same, keys_push, keys_without, keys_marked, keys_same}
use Rattle.call_table.proofs.Tallied.{total_push, total_without, total_marked, total_same}

-- ROWS

-- a call waits or runs
pub stage_counts : (rows : List Row) → total_of runs_of rows + total_of waits_of rows ≡ length rows
stage_counts [] = refl
stage_counts (x ∷ rows) = let more = stage_counts rows in elim (cases_Bool x.runs) [ inl t ↦ rw t (omega arith) | inr t ↦ rw t (omega arith) ]

pub waiting_few : (rows : List Row) → total_of waits_of rows ≤ length rows
waiting_few rows = let both = stage_counts rows in omega arith

pub placed_push : (rows : List Row) (p : OrderedKeys) (room room' : ℕ) (r : Row) → r.runs ≡ false → room' + 1 ≡ room → IsPlaced rows p room → IsPlaced (rows ++ r ∷ []) p room'
placed_push rows p room room' r w less i =
    let none : (n : ℕ) → runs_at_place n r ≡ 0 = λ n. rw w refl in
    let total = total_push waits_of rows r in
    let one_more : waits_of r ≡ 1 = rw w refl in
    let enough = i.enough in
    record {
      has_running = keys_push runs_at_place rows p.keys p.keys r i.has_running (λ n. let z = none n in omega arith);
      enough = omega arith;
    }

pub placed_without : (rows : List Row) (p p' : OrderedKeys) (room k : ℕ) (r : Row) → Rises 0 rows → row_at rows k ≡ Some r → IsPlaced rows p room → ((n : ℕ) → held n p'.keys + runs_at_place n r ≡ held n p.keys) → p'.room ≡ p.room → IsPlaced (without k rows) p' room
placed_without rows p p' room k r s e i m same =
    let total = total_without waits_of 0 rows k r s e in
    let enough = i.enough in
    record {
      has_running = keys_without runs_at_place rows p.keys p'.keys k r s e i.has_running m;
      enough = omega arith;
    }

-- while a call waits there is room for its place
pub start_room : (rows : List Row) (p : OrderedKeys) (room k : ℕ) (r : Row) → Rises 0 rows → row_at rows k ≡ Some r → r.runs ≡ false → IsPlaced rows p room → 0 < p.room
start_room rows p room k r s e w i =
    let total = total_without waits_of 0 rows k r s e in
    let own : waits_of r ≡ 1 = rw w refl in
    let enough = i.enough in omega arith

pub placed_started : (rows : List Row) (p p' : OrderedKeys) (room k : ℕ) (r : Row) → Rises 0 rows → row_at rows k ≡ Some r → r.runs ≡ false → IsPlaced rows p room → ((n : ℕ) → held n p'.keys ≡ held n p.keys + one n r.place) → p'.room + 1 ≡ p.room → IsPlaced (with_start k rows) p' room
placed_started rows p p' room k r s e w i m less =
    let total = total_marked waits_of taken 0 rows k r s e in
    let own : waits_of r ≡ 1 = rw w refl in
    let off : waits_of (taken r) ≡ 0 = refl in
    let enough = i.enough in
    record {
      has_running = keys_marked runs_at_place taken rows p.keys p'.keys k r s e i.has_running (λ n.
          let before : runs_at_place n r ≡ 0 = rw w refl in
          let now : runs_at_place n (taken r) ≡ one n r.place = refl in
          let more = m n in omega arith);
      enough = omega arith;
    }

pub placed_marked : (g : Row → Row) (rows : List Row) (p : OrderedKeys) (room k : ℕ) → ((n : ℕ) (r : Row) → runs_at_place n (g r) ≡ runs_at_place n r) → ((r : Row) → waits_of (g r) ≡ waits_of r) → IsPlaced rows p room → IsPlaced (map (at_call k g) rows) p room
placed_marked g rows p room k m w i =
    let same = total_same waits_of g rows k w in
    let enough = i.enough in
    record {
      has_running = keys_same runs_at_place g rows p.keys k m i.has_running;
      enough = omega arith;
    }

-- THE LEAST PLACE

none_runs : (rows : List Row) → ((n : ℕ) → total_of (runs_at_place n) rows ≡ 0) → running_places rows ≡ []
none_runs [] h = refl
none_runs (x ∷ rows) h =
    elim (cases_Bool x.runs) [
      | inl t ↦ absurd (
          let here : runs_at_place x.place x ≡ 1 = rw t (one_same x.place x.place refl) in
          let all = h x.place in omega arith)
      | inr t ↦ rw t (none_runs rows (λ n. let all = h n in omega arith))
    ]

own_up : (k : ℕ) (x : Row) (rows : List Row) → x.runs ≡ true → ((n : ℕ) → n < k → total_of (runs_at_place n) (x ∷ rows) ≡ 0) → k ≤ x.place
own_up k x rows t h =
    elim (cases_lt x.place k) [
      | inl lt ↦ absurd (
          let here : runs_at_place x.place x ≡ 1 = rw t (one_same x.place x.place refl) in
          let all = h x.place lt in omega arith)
      | inr le ↦ le
    ]

-- where no call has a place below k, the least isn't below it
least_up : (k : ℕ) (rows : List Row) → ((n : ℕ) → n < k → total_of (runs_at_place n) rows ≡ 0) → (m : ℕ) → least (running_places rows) ≡ Some m → k ≤ m
least_up k [] h m e = absurd (cc)
least_up k (x ∷ rows) h m e =
    let rest : (n : ℕ) → n < k → total_of (runs_at_place n) rows ≡ 0 = λ n lt. (let all = h n lt in omega arith) in
    elim (cases_Bool x.runs) [
      | inl t ↦ lesser_up k x.place m (least (running_places rows)) (own_up k x rows t h) (least_up k rows rest) (rw t at e)
      | inr t ↦ least_up k rows rest m (rw t at e)
    ]
  where
    lesser_up : (k x m : ℕ) (o : Option ℕ) → k ≤ x → ((n : ℕ) → o ≡ Some n → k ≤ n) → lesser x o ≡ Some m → k ≤ m
    lesser_up k x m None le h e = let same : x ≡ m = cc in omega arith
    lesser_up k x m (Some n) le h e = let same : min x n ≡ m = cc in let more = h n refl in omega arith

lesser_at : (k x : ℕ) (o : Option ℕ) → k ≡ x → ((n : ℕ) → o ≡ Some n → k ≤ n) → lesser x o ≡ Some k
lesser_at k x None e h = ap (λ n. Some n) (sym e)
lesser_at k x (Some n) e h = let more = h n refl in let same : min x n ≡ k = omega arith in ap (λ m. Some m) same

lesser_than : (k x : ℕ) (o : Option ℕ) → k ≤ x → o ≡ Some k → lesser x o ≡ Some k
lesser_than k x o le e = rw e (let same : min x k ≡ k = omega arith in ap (λ m. Some m) same)

least_at : (k : ℕ) (rows : List Row) → 0 < total_of (runs_at_place k) rows → ((n : ℕ) → n < k → total_of (runs_at_place n) rows ≡ 0) → least (running_places rows) ≡ Some k
least_at k [] some h = absurd (omega arith)
least_at k (x ∷ rows) some h =
    let rest : (n : ℕ) → n < k → total_of (runs_at_place n) rows ≡ 0 = λ n lt. (let all = h n lt in omega arith) in
    elim (cases_Bool x.runs) [
      | inl t ↦ rw t (
          elim (cases_lt 0 (total_of (runs_at_place k) rows)) [
            | inl more ↦ lesser_than k x.place (least (running_places rows)) (own_up k x rows t h) (least_at k rows more rest)
            | inr none ↦ lesser_at k x.place (least (running_places rows)) (own_place k x t (omega arith)) (least_up k rows rest)
          ])
      | inr t ↦
          let off : runs_at_place k x ≡ 0 = rw t refl in rw t (least_at k rows (omega arith) rest)
    ]
  where
    own_place : (k : ℕ) (x : Row) → x.runs ≡ true → 0 < runs_at_place k x → k ≡ x.place
    own_place k x t h =
        elim (cases_Bool (x.place == k)) [
          | inl e ↦ sym (eqb-true x.place k e)
          | inr f ↦ absurd (let off : runs_at_place k x ≡ 0 = rw (t, f) refl in omega arith)
        ]

pub least_place : (rows : List Row) (ks : List ℕ) (o : Option ℕ) → HasRunning rows ks → IsLeastFrom ks 0 o → o ≡ least (running_places rows)
least_place rows ks None h f = let none = none_runs rows (λ n. sym (h n) ∙ f n (omega arith)) in rw none refl
least_place rows ks (Some k) h f =
    let some = f.1 in
    let is = h k in sym (least_at k rows (omega arith) (λ n lt. sym (h n) ∙ f.2 n (omega arith) lt))
