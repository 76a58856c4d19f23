-- How many calls wait and run, and how many handles they may issue.
use Rattle.std.proofs.Common.{◌≡◌, ℕ, ◌+◌, Bool, true, false, ◌||◌, not, ◌==◌, Option, Some, None, if◌then◌else◌, List, [], ◌∷◌, ◌++◌, length, reverse, refl, sym, ◌∙◌, ap, arith, inl, inr}
use Rattle.std.specs.List.{list_any, filter, filter_map, cons_option}
use Rattle.std.proofs.lemmas.Grind.{common_steps}
use Rattle.std.proofs.lemmas.Bool.{eq-eqb, cases_Bool, false_from_ne_true}
use Rattle.std.proofs.lemmas.Bool.Decides.{eqb_tells}
use Rattle.handle_model.specs.declared.entry.Home.{Home}
use Rattle.handle_model.specs.declared.entry.Asked.{Asked}
use Rattle.handle_model.specs.declared.entry.Entry.{Entry}
use Rattle.handle_model.specs.declared.entry.Entry.TheVariants.{Accept, Take}
use Rattle.handle_model.specs.declared.base.BaseCall.{BaseCall}
use Rattle.handle_model.specs.declared.base.Base.{Base}
use Rattle.handle_model.specs.Slots.{opens}
use Rattle.handle_model.specs.Bases.{is_taken_call, numbers_of, taken_calls}
use Rattle.handle_model.specs.Sound.{rise, rise_above}
use Rattle.handle_model.specs.History.{History, since}
use Rattle.handle_model.specs.Journal.{Legal, asked, accepted, accept_count, taken, is_taken, slots, waits, runs, waiting, running, is_empty}
use Rattle.handle_model.specs.Limits.{openings}
use Rattle.handle_model.proofs.Tests.{or_right}
use Rattle.handle_model.proofs.Held.{runs_among}
use Rattle.handle_model.proofs.BaseFacts.{above_least, rise_later}
use Rattle.handle_model.proofs.Reversed.{reverse-cons}
use Rattle.call_table.specs.declared.row.Row.{Row}
use Rattle.call_table.specs.Rows.{is_running, openings_of}
use Rattle.call_table.specs.Shown.{row_as, row_in, rows_of}
use Rattle.call_table.proofs.Calls.{Falls, accepted_falls, falls_within, self, runs_taken, waits_idle, taken_decided, asked_listed, runs_asked, waits_asked, taken_within}
use Rattle.call_table.proofs.Found.{has_number, any_rows, runs_as_row, is_of}

-- SUMS

abbrev pub total : (ℕ → ℕ) → List ℕ → ℕ
total f [] = 0
total f (x ∷ xs) = f x + total f xs

abbrev pub when : Bool → ℕ → ℕ
when b n = if b then n else 0

total_same : (f g : ℕ → ℕ) (xs : List ℕ) → ((m : ℕ) → f m ≡ g m) → total f xs ≡ total g xs
total_same f g [] e = refl
total_same f g (x ∷ xs) e = rw (e x, total_same f g xs e) refl

total_both : (f g : ℕ → ℕ) (xs : List ℕ) → total (λ m. f m + g m) xs ≡ total f xs + total g xs
total_both f g [] = refl
total_both f g (x ∷ xs) = let more = total_both f g xs in omega arith

total_append : (f : ℕ → ℕ) (xs ys : List ℕ) → total f (xs ++ ys) ≡ total f xs + total f ys
total_append f [] ys = omega arith
total_append f (x ∷ xs) ys = let more = total_append f xs ys in omega arith

total_turned : (f : ℕ → ℕ) (xs : List ℕ) → total f (reverse xs) ≡ total f xs
total_turned f [] = refl
total_turned f (x ∷ xs) =
    let more = total_turned f xs in
    let all = ap (total f) (reverse-cons x xs) ∙ total_append f (reverse xs) (x ∷ []) in omega arith

total_filter : (f : ℕ → ℕ) (p : ℕ → Bool) (xs : List ℕ) → total f (filter p xs) ≡ total (λ m. when (p m) (f m)) xs
total_filter f p [] = refl
total_filter f p (x ∷ xs) =
    let more = total_filter f p xs in
    elim (cases_Bool (p x)) [ inl e ↦ rw e (omega arith) | inr e ↦ rw e (omega arith) ]

-- one of the numbers apart
split_off : (f : ℕ → ℕ) (q : ℕ → Bool) (m : ℕ) (xs : List ℕ) → has_number m xs ≡ false → total (λ k. when (m == k || q k) (f k)) xs ≡ total (λ k. when (q k) (f k)) xs
split_off f q m [] i = refl
split_off f q m (x ∷ xs) i =
    elim (eqb_tells x m) [
      | inl e ↦ let f = rw e.0 at i in absurd (cc)
      | inr e ↦
          let other : (m == x) ≡ false = elim (eqb_tells m x) [ inl g ↦ absurd (e.1 (sym g.1)) | inr g ↦ g.0 ] in
          rw (other, split_off f q m xs (rw e.0 at i)) refl
    ]

split_one : (f : ℕ → ℕ) (q : ℕ → Bool) (m high low : ℕ) (xs : List ℕ) → Falls high low xs → has_number m xs ≡ true → q m ≡ false → total (λ k. when (m == k || q k) (f k)) xs ≡ f m + total (λ k. when (q k) (f k)) xs
split_one f q m high low [] w i n = absurd (cc)
split_one f q m high low (x ∷ xs) w i n =
    let top = w.0 in
    elim (eqb_tells x m) [
      | inl e ↦
          let same = e.1 in
          let gone : has_number m xs ≡ false = false_from_ne_true (has_number m xs) (λ t. let less = falls_within x low xs m w.1 t in absurd (omega arith)) in
          let here = eq-eqb m x (sym e.1) in
          let off : q x ≡ false = ap q e.1 ∙ n in
          let rest = split_off f q m xs gone in
          let value : f x ≡ f m = ap f e.1 in
          rw (here, off) (omega arith)
      | inr e ↦
          let other : (m == x) ≡ false = elim (eqb_tells m x) [ inl g ↦ absurd (e.1 (sym g.1)) | inr g ↦ g.0 ] in
          let rest = split_one f q m x low xs w.1 (rw e.0 at i) n in
          rw other (omega arith)
    ]

-- TAKEN CALLS

waits_listed : (j : History) (k : ℕ) (o : Option Asked) → asked j k ≡ o → waits j k ≡ true → has_number k (accepted j) ≡ true
waits_listed j k None e w = let f = rw e at (waits_asked j k w) in absurd (cc)
waits_listed j k (Some a) e w = asked_listed j k a e

waits_untaken : (j : History) (k : ℕ) → waits j k ≡ true → is_taken j k ≡ false
waits_untaken j k w = false_from_ne_true (is_taken j k) (λ t. let d = taken_decided j k t in grind (arith, common_steps))

total_members : (f g : ℕ → ℕ) (xs : List ℕ) → ((m : ℕ) → has_number m xs ≡ true → f m ≡ g m) → total f xs ≡ total g xs
total_members f g [] e = refl
total_members f g (x ∷ xs) e =
    let q = self x in
    let here = e x (rw q refl) in
    let more = total_members f g xs (λ m i. e m (or_right (x == m) (has_number m xs) i)) in omega (arith, here, more)

untaken_above : (k : ℕ) (cs : List BaseCall) → rise_above k (numbers_of cs) ≡ true → list_any (is_taken_call k) cs ≡ false
untaken_above k cs r = false_from_ne_true (list_any (is_taken_call k) cs) (λ t. let low = above_least k k (numbers_of cs) r (numbered cs k t) in absurd (omega arith))
  where
    numbered : (cs : List BaseCall) (k : ℕ) → list_any (is_taken_call k) cs ≡ true → has_number k (numbers_of cs) ≡ true
    numbered [] k h = absurd (cc)
    numbered (d ∷ cs) k h = grind (arith, common_steps, numbered cs k)

-- a sum over the base's taken calls is one over its calls
total_calls : (f : ℕ → ℕ) (cs : List BaseCall) → rise (numbers_of cs) ≡ true → total f (numbers_of (filter (λ (c : BaseCall). c.taken) cs)) ≡ total (λ k. when (list_any (is_taken_call k) cs) (f k)) (numbers_of cs)
total_calls f [] r = refl
total_calls f (c ∷ cs) r =
    let q = self c.call in
    let off = untaken_above c.call cs r in
    let more = total_calls f cs (rise_later c.call (numbers_of cs) r) in
    let others : total (λ k. when (list_any (is_taken_call k) (c ∷ cs)) (f k)) (numbers_of cs) ≡ total (λ k. when (list_any (is_taken_call k) cs) (f k)) (numbers_of cs) =
    total_members (λ k. when (list_any (is_taken_call k) (c ∷ cs)) (f k)) (λ k. when (list_any (is_taken_call k) cs) (f k)) (numbers_of cs) (λ m i.
    let low = above_least c.call m (numbers_of cs) r i in
    let other : (c.call == m) ≡ false = elim (eqb_tells c.call m) [ inl e ↦ let same = e.1 in absurd (omega arith) | inr e ↦ e.0 ] in rw other refl) in
    let one : ℕ → ℕ = λ k. when (list_any (is_taken_call k) (c ∷ cs)) (f k) in
    let right : total one (numbers_of (c ∷ cs)) ≡ one c.call + total one (numbers_of cs) = refl in
    let left : total f (numbers_of (filter (λ (d : BaseCall). d.taken) (c ∷ cs))) ≡ one c.call + total f (numbers_of (filter (λ (d : BaseCall). d.taken) cs)) =
    elim (cases_Bool c.taken) [ inl t ↦ rw (q, t) refl | inr t ↦ rw (q, t, off) (omega arith) ] in
    left ∙ (ap (λ n. one c.call + n) (more ∙ sym others) ∙ sym right)

total_taken_since : (home : Home) (base : Base) (past : List Entry) (f : ℕ → ℕ) → Legal (since home base past) → total f (taken (since home base past)) ≡ total (λ k. when (is_taken (since home base past) k) (f k)) (accepted (since home base past))
total_taken_since home base [] f l =
    total_turned f (numbers_of (taken_calls base)) ∙ (total_calls f base.calls l.calls_rise ∙ sym (total_turned (λ k. when (list_any (is_taken_call k) base.calls) (f k)) (numbers_of base.calls)))
total_taken_since home base (Take m cookies ∷ past) f l =
    let j : History = since home base past in
    let w = l.0.fits.0 in
    let more = total_taken_since home base past f l.1 in
    let one = split_one f (λ k. is_taken j k) m (accept_count j + 1) 0 (accepted j) (accepted_falls j l.1) (waits_listed j m (asked j m) refl w) (waits_untaken j m w) in
    ap (λ n. f m + n) more ∙ sym one
total_taken_since home base (Accept k a ∷ past) f l =
    let j : History = since home base past in
    let top = l.0.fits.0 in
    let more = total_taken_since home base past f l.1 in
    let off : is_taken j k ≡ false = false_from_ne_true (is_taken j k) (λ t. let low = taken_within j k l.1 t in absurd (omega arith)) in
    more ∙ sym (rw off (omega arith))
total_taken_since home base (_ ∷ past) f l = total_taken_since home base past f l.1

-- a sum over the taken calls is one over the accepted ones
total_taken : (j : History) (f : ℕ → ℕ) → Legal j → total f (taken j) ≡ total (λ k. when (is_taken j k) (f k)) (accepted j)
total_taken j f l = total_taken_since j.home j.base j.past f l

running_when : (j : History) (f : ℕ → ℕ) (k : ℕ) → when (is_taken j k) (when (runs j k) (f k)) ≡ when (runs j k) (f k)
running_when j f k =
    elim (cases_Bool (runs j k)) [
      | inl r ↦ let t = runs_taken j k r in rw (r, t) refl
      | inr r ↦ rw r (elim (cases_Bool (is_taken j k)) [ inl t ↦ rw t refl | inr t ↦ rw t refl ])
    ]

total_running : (j : History) (f : ℕ → ℕ) → Legal j → total f (running j) ≡ total (λ k. when (runs j k) (f k)) (accepted j)
total_running j f l =
    total_filter f (runs j) (taken j) ∙ (total_taken j (λ k. when (runs j k) (f k)) l ∙ total_same (λ k. when (is_taken j k) (when (runs j k) (f k))) (λ k. when (runs j k) (f k)) (accepted j) (running_when j f))

-- ROWS

active_when : (j : History) (f : ℕ → ℕ) (k : ℕ) → when (waits j k || runs j k) (f k) ≡ when (waits j k) (f k) + when (runs j k) (f k)
active_when j f k =
    elim (cases_Bool (waits j k)) [
      | inl w ↦ let idle = waits_idle j k w in rw (w, idle) (omega arith)
      | inr w ↦ elim (cases_Bool (runs j k)) [ inl r ↦ rw (w, r) (omega arith) | inr r ↦ rw (w, r) (omega arith) ]
    ]

-- a sum over the waiting and the running calls
total_active : (j : History) (f : ℕ → ℕ) → Legal j → total (λ k. when (waits j k || runs j k) (f k)) (reverse (accepted j)) ≡ total f (waiting j) + total f (running j)
total_active j f l =
    let turned = total_turned (λ k. when (waits j k || runs j k) (f k)) (accepted j) in
    let parts = total_same (λ k. when (waits j k || runs j k) (f k)) (λ k. when (waits j k) (f k) + when (runs j k) (f k)) (accepted j) (active_when j f) in
    let both = total_both (λ k. when (waits j k) (f k)) (λ k. when (runs j k) (f k)) (accepted j) in
    let first = total_filter f (waits j) (accepted j) in
    let second = total_running j f l in omega arith

abbrev pub weight : (Row → ℕ) → Option Row → ℕ
weight g None = 0
weight g (Some r) = g r

abbrev pub row_total : (Row → ℕ) → List Row → ℕ
row_total g [] = 0
row_total g (r ∷ rows) = g r + row_total g rows

weight_cons : (g : Row → ℕ) (o : Option Row) (rows : List Row) → row_total g (cons_option o rows) ≡ weight g o + row_total g rows
weight_cons g None rows = omega arith
weight_cons g (Some r) rows = refl

rows_total : (g : Row → ℕ) (f : ℕ → ℕ) (j : History) (xs : List ℕ) → ((m : ℕ) → weight g (row_in j m) ≡ f m) → row_total g (filter_map (row_in j) xs) ≡ total f xs
rows_total g f j [] e = refl
rows_total g f j (x ∷ xs) e = weight_cons g (row_in j x) (filter_map (row_in j) xs) ∙ rw (e x, rows_total g f j xs e) refl

one_each : (j : History) (k : ℕ) (o : Option Asked) → Legal j → asked j k ≡ o → weight (λ r. 1) (row_as j k o) ≡ when (waits j k || runs j k) 1
one_each j k None l e =
    let w : waits j k ≡ false = rw e refl in
    let r : runs j k ≡ false = false_from_ne_true (runs j k) (λ r. let s = runs_asked j k None l e r in cc) in rw (w, r) refl
one_each j k (Some a) l e = elim (cases_Bool (waits j k || runs j k)) [ inl c ↦ rw c refl | inr c ↦ rw c refl ]

length_total : (rows : List Row) → length rows ≡ row_total (λ r. 1) rows
length_total [] = refl
length_total (r ∷ rows) = let more = length_total rows in omega arith

length_ones : (xs : List ℕ) → length xs ≡ total (λ m. 1) xs
length_ones [] = refl
length_ones (x ∷ xs) = let more = length_ones xs in omega arith

-- as many rows as calls wait and run
pub count_shown : (j : History) → Legal j → length (rows_of j) ≡ length (waiting j) + length (running j)
count_shown j l =
    let all = length_total (rows_of j) ∙ (rows_total (λ r. 1) (λ k. when (waits j k || runs j k) 1) j (reverse (accepted j)) (λ m. one_each j m (asked j m) l refl) ∙ total_active j (λ m. 1) l) in
    let a = length_ones (waiting j) in
    let b = length_ones (running j) in omega arith

opens_each : (j : History) (k : ℕ) (o : Option Asked) → Legal j → asked j k ≡ o → weight (λ (r : Row). length (filter opens r.slots)) (row_as j k o) ≡ when (waits j k || runs j k) (length (filter opens (slots j k)))
opens_each j k None l e =
    let w : waits j k ≡ false = rw e refl in
    let r : runs j k ≡ false = false_from_ne_true (runs j k) (λ r. let s = runs_asked j k None l e r in cc) in rw (w, r) refl
opens_each j k (Some a) l e = elim (cases_Bool (waits j k || runs j k)) [ inl c ↦ rw (c, e) refl | inr c ↦ rw c refl ]

openings_total : (j : History) (ks : List ℕ) → openings j ks ≡ total (λ k. length (filter opens (slots j k))) ks
openings_total j [] = refl
openings_total j (k ∷ ks) = rw (openings_total j ks) refl

openings_rows : (rows : List Row) → openings_of rows ≡ row_total (λ (r : Row). length (filter opens r.slots)) rows
openings_rows [] = refl
openings_rows (r ∷ rows) = rw (openings_rows rows) refl

-- and as many handles that they may issue
pub openings_shown : (j : History) → Legal j → openings_of (rows_of j) ≡ openings j (waiting j) + openings j (running j)
openings_shown j l =
    let g : Row → ℕ = λ (r : Row). length (filter opens r.slots) in
    let f : ℕ → ℕ = λ k. length (filter opens (slots j k)) in
    let all = openings_rows (rows_of j) ∙ (rows_total g (λ k. when (waits j k || runs j k) (f k)) j (reverse (accepted j)) (λ m. opens_each j m (asked j m) l refl) ∙ total_active j f l) in
    let a = openings_total j (waiting j) in
    let b = openings_total j (running j) in omega arith

-- RUNNING AT ALL

runs_there : (rows : List Row) → list_any is_running rows ≡ true → (k : ℕ) × (list_any (is_of k is_running) rows ≡ true)
runs_there [] h = absurd (cc)
runs_there (r ∷ rows) h =
    elim (cases_Bool r.runs) [
      | inl e ↦ (r.call, let q = self r.call in rw (q, e) refl)
      | inr e ↦ let more = runs_there rows (rw e at h) in (more.0, or_right (is_of more.0 is_running r) (list_any (is_of more.0 is_running) rows) more.1)
    ]

of_runs : (k : ℕ) (rows : List Row) → list_any (is_of k is_running) rows ≡ true → list_any is_running rows ≡ true
of_runs k [] h = absurd (cc)
of_runs k (r ∷ rows) h =
    elim (cases_Bool r.runs) [
      | inl e ↦ rw e refl
      | inr e ↦ rw e (of_runs k rows (elim (cases_Bool (r.call == k)) [ inl c ↦ rw (c, e) at h | inr c ↦ rw c at h ]))
    ]

some_runs : (j : History) (xs : List ℕ) → is_empty (filter (runs j) xs) ≡ false → (k : ℕ) × (runs j k ≡ true)
some_runs j [] h = absurd (cc)
some_runs j (x ∷ xs) h =
    elim (cases_Bool (runs j x)) [
      | inl e ↦ (x, e)
      | inr e ↦ some_runs j xs (rw e at h)
    ]

-- a call runs where a row does
pub idle_shown : (j : History) → Legal j → list_any is_running (rows_of j) ≡ not (is_empty (running j))
idle_shown j l =
    elim (cases_Bool (is_empty (running j))) [
      | inl e ↦
          let off : list_any is_running (rows_of j) ≡ false =
          false_from_ne_true (list_any is_running (rows_of j)) (λ h.
          let w = runs_there (rows_of j) h in
          let r : runs j w.0 ≡ true = sym (runs_as_row j w.0 (asked j w.0) l refl) ∙ (sym (any_rows j w.0 is_running) ∙ w.1) in
          let some = runs_among j w.0 r in cc) in rw (e, off) refl
      | inr e ↦
          let w = some_runs j (taken j) e in
          let on : list_any is_running (rows_of j) ≡ true =
          of_runs w.0 (rows_of j) (any_rows j w.0 is_running ∙ (runs_as_row j w.0 (asked j w.0) l refl ∙ w.1)) in rw (e, on) refl
    ]
