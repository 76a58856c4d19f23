-- What the rows of a journal say of a call, of blockers and of counts.
use Rattle.std.proofs.Common.{◌≡◌, ℕ, ◌+◌, ◌≤◌, ◌<◌, Bool, true, false, ◌&&◌, ◌||◌, not, ◌==◌, nat_lt, min, Option, Some, None, is_some, List, [], ◌∷◌, reverse, refl, sym, ◌∙◌, ap, subst, arith, inl, inr, ◌⊎◌}
use Rattle.std.specs.List.{list_any, filter, filter_map, cons_option, find}
use Rattle.std.specs.Option.{option_or}
use Rattle.std.proofs.lemmas.Bool.{eq-eqb, ltb-true, ltb-false, lt-ltb, cases_Bool, false_from_ne_true}
use Rattle.std.proofs.lemmas.Bool.Decides.{eqb_tells}
use Rattle.handle_model.specs.declared.entry.Slot.{Slot}
use Rattle.handle_model.specs.declared.entry.Asked.{Asked}
use Rattle.handle_model.specs.Bases.{is_number}
use Rattle.handle_model.specs.History.{History}
use Rattle.handle_model.specs.Journal.{Legal, asked, accepted, accept_count, taken, is_taken, slots, waits, runs, waiting, running, any_clash, conflict, least, lesser, running_blocker, waiting_blocker, blocker}
use Rattle.handle_model.proofs.Tests.{or_right, or_cases}
use Rattle.handle_model.proofs.Reversed.{list_any-reverse}
use Rattle.call_table.specs.declared.row.Row.{Row}
use Rattle.call_table.specs.Rows.{is_call, is_below, row_at, waits_at, runs_at, slots_in, slots_at, calls, over, blocks_running, blocks_waiting, least_running, least_waiting, blocker_of, conflict_of}
use Rattle.call_table.specs.Shown.{row_as, row_in, rows_of}
use Rattle.call_table.proofs.Calls.{self, runs_taken, waits_idle, waits_asked, runs_asked, accepted_falls, falls_within, asked_listed, number_taken}

-- MEMBERS

asked_there : (j : History) (k : ℕ) (a : Asked) → asked j k ≡ Some a → list_any (is_number k) (reverse (accepted j)) ≡ true
asked_there j k a e = list_any-reverse (is_number k) (accepted j) ∙ asked_listed j k a e

-- what a test says of a row, where there is one
abbrev pub passes : (Row → Bool) → Option Row → Bool
passes p None = false
passes p (Some r) = p r

abbrev pub is_of : ℕ → (Row → Bool) → Row → Bool
is_of k p r = is_call k r && p r

row_call : (j : History) (k x : ℕ) (p : Row → Bool) (o : Option Asked) → (x == k) ≡ false → passes (is_of k p) (row_as j x o) ≡ false
row_call j k x p None e = refl
row_call j k x p (Some a) e = elim (cases_Bool (waits j x || runs j x)) [ inl c ↦ rw (c, e) refl | inr c ↦ rw c refl ]

row_self : (j : History) (k : ℕ) (p : Row → Bool) (o : Option Asked) → passes (is_of k p) (row_as j k o) ≡ passes p (row_as j k o)
row_self j k p None = refl
row_self j k p (Some a) = let q = self k in elim (cases_Bool (waits j k || runs j k)) [ inl c ↦ rw (c, q) refl | inr c ↦ rw c refl ]

any_cons : (p : Row → Bool) (o : Option Row) (rows : List Row) → list_any p (cons_option o rows) ≡ (passes p o || list_any p rows)
any_cons p None rows = refl
any_cons p (Some r) rows = refl

both_or : (a b c : Bool) → ((a && c) || (b && c)) ≡ ((a || b) && c)
both_or true true true = refl
both_or true false true = refl
both_or false b c = refl
both_or true true false = refl
both_or true false false = refl

-- of a call's number, in the rows of a list of calls
any_of : (j : History) (k : ℕ) (p : Row → Bool) (xs : List ℕ) → list_any (is_of k p) (filter_map (row_in j) xs) ≡ (list_any (is_number k) xs && passes p (row_in j k))
any_of j k p [] = refl
any_of j k p (x ∷ xs) =
    any_cons (is_of k p) (row_in j x) (filter_map (row_in j) xs) ∙ rw (any_of j k p xs) (elim (eqb_tells x k) [
      | inl e ↦
          let here : passes (is_of k p) (row_in j x) ≡ passes p (row_in j k) = subst (λ n. passes (is_of k p) (row_in j n) ≡ passes p (row_in j k)) (sym e.1) (row_self j k p (asked j k)) in
          rw (here, e.0) (both_or true (list_any (is_number k) xs) (passes p (row_in j k)))
      | inr e ↦ rw (row_call j k x p (asked j x) e.0, e.0) refl
    ])

-- a row stands there where the call was accepted
there_or_not : (j : History) (k : ℕ) (p : Row → Bool) (o : Option Asked) → asked j k ≡ o → (list_any (is_number k) (reverse (accepted j)) && passes p (row_as j k o)) ≡ passes p (row_as j k o)
there_or_not j k p None e = elim (cases_Bool (list_any (is_number k) (reverse (accepted j)))) [ inl t ↦ rw t refl | inr f ↦ rw f refl ]
there_or_not j k p (Some a) e = rw (asked_there j k a e) refl

pub any_rows : (j : History) (k : ℕ) (p : Row → Bool) → list_any (is_of k p) (rows_of j) ≡ passes p (row_in j k)
any_rows j k p = any_of j k p (reverse (accepted j)) ∙ there_or_not j k p (asked j k) refl

-- THE ROW OF A CALL

find_cons : (j : History) (k x : ℕ) (o : Option Asked) (rows : List Row) → (x == k) ≡ false → find (is_call k) (cons_option (row_as j x o) rows) ≡ find (is_call k) rows
find_cons j k x None rows e = refl
find_cons j k x (Some a) rows e = elim (cases_Bool (waits j x || runs j x)) [ inl c ↦ rw (c, e) refl | inr c ↦ rw c refl ]

find_self : (j : History) (k : ℕ) (o : Option Asked) (rows : List Row) → (find (is_call k) rows ≡ None) ⊎ (find (is_call k) rows ≡ row_as j k o) → find (is_call k) (cons_option (row_as j k o) rows) ≡ row_as j k o
find_self j k None rows h = elim h [ inl e ↦ e | inr e ↦ e ]
find_self j k (Some a) rows h =
    let q = self k in
    elim (cases_Bool (waits j k || runs j k)) [
      | inl c ↦ rw (c, q) refl
      | inr c ↦ rw c (elim h [ inl e ↦ e | inr e ↦ e ∙ rw c refl ])
    ]

found_of : (j : History) (k : ℕ) (xs : List ℕ) → (find (is_call k) (filter_map (row_in j) xs) ≡ None) ⊎ (find (is_call k) (filter_map (row_in j) xs) ≡ row_in j k)
found_of j k [] = inl refl
found_of j k (x ∷ xs) =
    elim (eqb_tells x k) [
      | inl e ↦ inr (subst (λ n. find (is_call k) (cons_option (row_in j n) (filter_map (row_in j) xs)) ≡ row_in j k) (sym e.1) (find_self j k (asked j k) (filter_map (row_in j) xs) (found_of j k xs)))
      | inr e ↦ elim (found_of j k xs) [
        | inl f ↦ inl (find_cons j k x (asked j x) (filter_map (row_in j) xs) e.0 ∙ f)
        | inr f ↦ inr (find_cons j k x (asked j x) (filter_map (row_in j) xs) e.0 ∙ f)
      ]
    ]

-- where it is listed it is found
listed_found : (j : History) (k : ℕ) (xs : List ℕ) → list_any (is_number k) xs ≡ true → find (is_call k) (filter_map (row_in j) xs) ≡ row_in j k
listed_found j k [] i = absurd (cc)
listed_found j k (x ∷ xs) i =
    elim (eqb_tells x k) [
      | inl e ↦ subst (λ n. find (is_call k) (cons_option (row_in j n) (filter_map (row_in j) xs)) ≡ row_in j k) (sym e.1) (find_self j k (asked j k) (filter_map (row_in j) xs) (found_of j k xs))
      | inr e ↦ find_cons j k x (asked j x) (filter_map (row_in j) xs) e.0 ∙ listed_found j k xs (rw e.0 at i)
    ]

row_found : (j : History) (k : ℕ) (o : Option Asked) → asked j k ≡ o → row_at (rows_of j) k ≡ row_as j k o
row_found j k None e =
    elim (found_of j k (reverse (accepted j))) [
      | inl f ↦ f
      | inr f ↦ f ∙ rw e refl
    ]
row_found j k (Some a) e = listed_found j k (reverse (accepted j)) (asked_there j k a e) ∙ ap (row_as j k) e

-- the row of a call is its row
pub row_shown : (j : History) (k : ℕ) → row_at (rows_of j) k ≡ row_in j k
row_shown j k = row_found j k (asked j k) refl

-- what the rows say of a call
pub waits_as_row : (j : History) (k : ℕ) (o : Option Asked) → asked j k ≡ o → passes (λ (r : Row). not r.runs) (row_as j k o) ≡ waits j k
waits_as_row j k None e = rw e refl
waits_as_row j k (Some a) e =
    elim (cases_Bool (waits j k)) [
      | inl w ↦ let idle = waits_idle j k w in rw (w, idle) refl
      | inr w ↦ elim (cases_Bool (runs j k)) [ inl r ↦ rw (w, r) refl | inr r ↦ rw (w, r) refl ]
    ]

pub waits_shown : (j : History) (k : ℕ) → waits_at (rows_of j) k ≡ waits j k
waits_shown j k = any_rows j k (λ (r : Row). not r.runs) ∙ waits_as_row j k (asked j k) refl

pub runs_as_row : (j : History) (k : ℕ) (o : Option Asked) → Legal j → asked j k ≡ o → passes (λ (r : Row). r.runs) (row_as j k o) ≡ runs j k
runs_as_row j k None l e = sym (false_from_ne_true (runs j k) (λ r. let s = runs_asked j k None l e r in cc))
runs_as_row j k (Some a) l e =
    elim (cases_Bool (runs j k)) [
      | inl r ↦ let w : waits j k ≡ false = false_from_ne_true (waits j k) (λ w. let i = waits_idle j k w in cc) in rw (w, r) refl
      | inr r ↦ elim (cases_Bool (waits j k)) [ inl w ↦ rw (w, r) refl | inr w ↦ rw (w, r) refl ]
    ]

pub runs_shown : (j : History) (k : ℕ) → Legal j → runs_at (rows_of j) k ≡ runs j k
runs_shown j k l = any_rows j k (λ (r : Row). r.runs) ∙ runs_as_row j k (asked j k) l refl

slots_row : (j : History) (k : ℕ) (o : Option Asked) → asked j k ≡ o → (waits j k || runs j k) ≡ true → is_some o ≡ true → slots_in (row_as j k o) ≡ slots j k
slots_row j k None e c s = absurd (cc)
slots_row j k (Some a) e c s = rw (c, e) refl

active_asked : (j : History) (k : ℕ) → Legal j → (waits j k || runs j k) ≡ true → is_some (asked j k) ≡ true
active_asked j k l c =
    elim (or_cases (waits j k) (runs j k) c) [
      | inl w ↦ waits_asked j k w
      | inr r ↦ runs_asked j k (asked j k) l refl r
    ]

-- the slots of a call that waits or runs
pub slots_shown : (j : History) (k : ℕ) → Legal j → (waits j k || runs j k) ≡ true → slots_at (rows_of j) k ≡ slots j k
slots_shown j k l c = ap slots_in (row_shown j k) ∙ slots_row j k (asked j k) refl c (active_asked j k l c)

-- a new call's number is above them
below_rows : (j : History) (k : ℕ) (xs : List ℕ) → ((m : ℕ) → list_any (is_number m) xs ≡ true → m < k) → list_any (λ r. not (is_below k r)) (filter_map (row_in j) xs) ≡ false
below_rows j k [] h = refl
below_rows j k (x ∷ xs) h =
    let q = self x in
    let low : x < k = h x (rw q refl) in
    any_cons (λ r. not (is_below k r)) (row_in j x) (filter_map (row_in j) xs) ∙ rw (below_rows j k xs (λ m i. h m (or_right (x == m) (list_any (is_number m) xs) i)), below_one (asked j x) low) refl
  where
    below_one : {x : ℕ} (o : Option Asked) → x < k → passes (λ r. not (is_below k r)) (row_as j x o) ≡ false
    below_one {x} None lt = refl
    below_one {x} (Some a) lt = let t = lt-ltb x k lt in elim (cases_Bool (waits j x || runs j x)) [ inl c ↦ rw (c, t) refl | inr c ↦ rw c refl ]

pub over_shown : (j : History) (k : ℕ) → Legal j → accept_count j < k → over k (rows_of j) ≡ true
over_shown j k l lt =
    let low : (m : ℕ) → list_any (is_number m) (reverse (accepted j)) ≡ true → m < k =
    λ m i. let w = falls_within (accept_count j + 1) 0 (accepted j) m (accepted_falls j l) (sym (list_any-reverse (is_number m) (accepted j)) ∙ i) in omega arith in
    ap not (below_rows j k (reverse (accepted j)) low)

-- LEAST NUMBERS

abbrev pub has_number : ℕ → List ℕ → Bool
has_number m xs = list_any (is_number m) xs

pub none_least : (xs : List ℕ) → least xs ≡ None → xs ≡ []
none_least [] e = refl
none_least (x ∷ xs) e = absurd (none_lesser x (least xs) e)
  where
    none_lesser : (n : ℕ) (o : Option ℕ) → lesser n o ≡ None → ⊥
    none_lesser n None e = cc
    none_lesser n (Some m) e = cc

bounds_step : (x m n : ℕ) (xs : List ℕ) (o : Option ℕ) → ((p : ℕ) → o ≡ Some p → has_number n xs ≡ true → p ≤ n) → least xs ≡ o → lesser x o ≡ Some m → has_number n (x ∷ xs) ≡ true → m ≤ n
bounds_step x m n xs None ih f g t =
    let none = none_least xs f in
    let here : x ≡ m = cc in
    elim (eqb_tells x n) [
      | inl q ↦ let same = q.1 in omega arith
      | inr q ↦ let k = rw q.0 at t in let none_there = rw none at k in absurd (cc)
    ]
bounds_step x m n xs (Some p) ih f g t =
    let here : min x p ≡ m = cc in
    elim (eqb_tells x n) [
      | inl q ↦ let same = q.1 in omega arith
      | inr q ↦ let low = ih p refl (rw q.0 at t) in omega arith
    ]

least_bounds : (xs : List ℕ) (m n : ℕ) → least xs ≡ Some m → has_number n xs ≡ true → m ≤ n
least_bounds [] m n e i = absurd (cc)
least_bounds (x ∷ xs) m n e i = bounds_step x m n xs (least xs) (λ p f t. least_bounds xs p n f t) refl e i

there_step : (x m : ℕ) (xs : List ℕ) (o : Option ℕ) → ((p : ℕ) → o ≡ Some p → has_number p xs ≡ true) → lesser x o ≡ Some m → has_number m (x ∷ xs) ≡ true
there_step x m xs None ih g = let here : x ≡ m = cc in let q = eq-eqb x m here in rw q refl
there_step x m xs (Some p) ih g =
    let here : min x p ≡ m = cc in
    elim (cases_Bool (nat_lt p x)) [
      | inl lt ↦ let low = ltb-true p x lt in let same : p ≡ m = omega arith in or_right (x == m) (has_number m xs) (subst (λ n. has_number n xs ≡ true) same (ih p refl))
      | inr ge ↦ let high = ltb-false p x ge in let same : x ≡ m = omega arith in let q = eq-eqb x m same in rw q refl
    ]

least_there : (xs : List ℕ) (m : ℕ) → least xs ≡ Some m → has_number m xs ≡ true
least_there [] m e = absurd (cc)
least_there (x ∷ xs) m e = there_step x m xs (least xs) (λ p f. least_there xs p f) e

least_as : (xs ys : List ℕ) (a b : Option ℕ) → ((m : ℕ) → has_number m xs ≡ has_number m ys) → least xs ≡ a → least ys ≡ b → a ≡ b
least_as xs ys None None h e f = refl
least_as xs ys None (Some n) h e f = let none = none_least xs e in let t = least_there ys n f in let u = h n in let v = rw none at u in absurd (cc)
least_as xs ys (Some m) None h e f = let none = none_least ys f in let t = least_there xs m e in let u = h m in let v = rw none at u in absurd (cc)
least_as xs ys (Some m) (Some n) h e f =
    let down = least_bounds xs m n e (h n ∙ least_there ys n f) in
    let up = least_bounds ys n m f (sym (h m) ∙ least_there xs m e) in
    let same : m ≡ n = omega arith in ap (λ x. Some x) same

-- two lists of the same numbers have the same least
pub least_same : (xs ys : List ℕ) → ((m : ℕ) → has_number m xs ≡ has_number m ys) → least xs ≡ least ys
least_same xs ys h = least_as xs ys (least xs) (least ys) h refl refl

-- BLOCKERS

pub number_filter : (p : ℕ → Bool) (m : ℕ) (xs : List ℕ) → has_number m (filter p xs) ≡ (has_number m xs && p m)
number_filter p m [] = refl
number_filter p m (x ∷ xs) =
    elim (eqb_tells x m) [
      | inl e ↦
          let same : p x ≡ p m = ap p e.1 in
          elim (cases_Bool (p m)) [
            | inl t ↦ let u : p x ≡ true = same ∙ t in rw (u, e.0, t) refl
            | inr t ↦ let u : p x ≡ false = same ∙ t in rw (u, e.0, t) (number_filter p m xs ∙ rw t (and_off (has_number m xs)))
          ]
      | inr e ↦ elim (cases_Bool (p x)) [
        | inl t ↦ rw (t, e.0) (number_filter p m xs)
        | inr t ↦ rw (t, e.0) (number_filter p m xs)
      ]
    ]
  where
    and_off : (b : Bool) → (b && false) ≡ false
    and_off true = refl
    and_off false = refl

pub number_calls : (p : Row → Bool) (m : ℕ) (rows : List Row) → has_number m (calls (filter p rows)) ≡ list_any (is_of m p) rows
number_calls p m [] = refl
number_calls p m (r ∷ rows) =
    elim (cases_Bool (p r)) [
      | inl t ↦ rw (t, number_calls p m rows) (and_on (r.call == m) (list_any (is_of m p) rows))
      | inr t ↦ rw (t, number_calls p m rows) (and_off (r.call == m) (list_any (is_of m p) rows))
    ]
  where
    and_on : (a b : Bool) → (a || b) ≡ ((a && true) || b)
    and_on true b = refl
    and_on false b = refl

    and_off : (a b : Bool) → b ≡ ((a && false) || b)
    and_off true b = refl
    and_off false b = refl

clash_none : (ss : List Slot) → any_clash ss [] ≡ false
clash_none [] = refl
clash_none (s ∷ ss) = clash_none ss

-- a running call that blocks
running_row : (j : History) (ss : List Slot) (m : ℕ) (o : Option Asked) → Legal j → asked j m ≡ o → passes (blocks_running ss) (row_as j m o) ≡ (runs j m && any_clash ss (slots j m))
running_row j ss m None l e = let idle : runs j m ≡ false = false_from_ne_true (runs j m) (λ r. let s = runs_asked j m None l e r in cc) in rw idle refl
running_row j ss m (Some a) l e =
    elim (cases_Bool (runs j m)) [
      | inl r ↦ let w : waits j m ≡ false = false_from_ne_true (waits j m) (λ w. let i = waits_idle j m w in cc) in rw (w, r, e) refl
      | inr r ↦ elim (cases_Bool (waits j m)) [ inl w ↦ rw (w, r) refl | inr w ↦ rw (w, r) refl ]
    ]

pub taken_runs : (j : History) (m : ℕ) (b : Bool) → ((is_taken j m && runs j m) && b) ≡ (runs j m && b)
taken_runs j m b =
    elim (cases_Bool (runs j m)) [
      | inl r ↦ let t = runs_taken j m r in rw (r, t) refl
      | inr r ↦ elim (cases_Bool (is_taken j m)) [ inl t ↦ rw (r, t) refl | inr t ↦ rw (r, t) refl ]
    ]

pub running_numbers : (j : History) (k m : ℕ) → Legal j → has_number m (calls (filter (blocks_running (slots j k)) (rows_of j))) ≡ has_number m (filter (conflict j k) (running j))
running_numbers j k m l =
    number_calls (blocks_running (slots j k)) m (rows_of j) ∙ (any_rows j m (blocks_running (slots j k)) ∙ (running_row j (slots j k) m (asked j m) l refl ∙ sym (number_filter (conflict j k) m (running j) ∙ (ap (λ b. b && conflict j k m) (number_filter (runs j) m (taken j) ∙ ap (λ b. b && runs j m) (number_taken j m)) ∙ taken_runs j m (conflict j k m)))))

waiting_row : (j : History) (ss : List Slot) (k m : ℕ) (o : Option Asked) → asked j m ≡ o → passes (blocks_waiting ss k) (row_as j m o) ≡ (waits j m && (nat_lt m k && any_clash ss (slots j m)))
waiting_row j ss k m None e = rw e refl
waiting_row j ss k m (Some a) e =
    elim (cases_Bool (waits j m)) [
      | inl w ↦ let idle = waits_idle j m w in rw (w, idle, e) refl
      | inr w ↦ elim (cases_Bool (runs j m)) [ inl r ↦ rw (w, r) refl | inr r ↦ rw (w, r) refl ]
    ]

pub waits_listed : (j : History) (m : ℕ) (o : Option Asked) (b : Bool) → asked j m ≡ o → ((has_number m (accepted j) && waits j m) && b) ≡ (waits j m && b)
waits_listed j m None b e = let idle : waits j m ≡ false = rw e refl in rw idle (elim (cases_Bool (has_number m (accepted j))) [ inl t ↦ rw t refl | inr t ↦ rw t refl ])
waits_listed j m (Some a) b e = let t = asked_listed j m a e in rw t refl

pub waiting_numbers : (j : History) (k m : ℕ) → has_number m (calls (filter (blocks_waiting (slots j k) k) (rows_of j))) ≡ has_number m (filter (λ n. nat_lt n k && conflict j k n) (waiting j))
waiting_numbers j k m =
    number_calls (blocks_waiting (slots j k) k) m (rows_of j) ∙ (any_rows j m (blocks_waiting (slots j k) k) ∙ (waiting_row j (slots j k) k m (asked j m) refl ∙ sym (number_filter (λ n. nat_lt n k && conflict j k n) m (waiting j) ∙ (ap (λ b. b && (nat_lt m k && conflict j k m)) (number_filter (waits j) m (accepted j)) ∙ waits_listed j m (asked j m) (nat_lt m k && conflict j k m) refl))))

pub blocker_shown : (j : History) (k : ℕ) → Legal j → blocker_of (slots j k) k (rows_of j) ≡ blocker j k
blocker_shown j k l =
    let a : least_running (slots j k) (rows_of j) ≡ running_blocker j k = least_same _ _ (λ m. running_numbers j k m l) in
    let b : least_waiting (slots j k) k (rows_of j) ≡ waiting_blocker j k = least_same _ _ (λ m. waiting_numbers j k m) in
    ap (λ x. option_or x (least_waiting (slots j k) k (rows_of j))) a ∙ ap (option_or (running_blocker j k)) b

-- the blocker of a waiting call
pub conflict_shown : (j : History) (k : ℕ) → Legal j → waits j k ≡ true → conflict_of (rows_of j) k ≡ blocker j k
conflict_shown j k l w =
    ap (λ ss. blocker_of ss k (rows_of j)) (slots_shown j k l (rw w refl)) ∙ blocker_shown j k l
