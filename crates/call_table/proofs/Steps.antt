-- What each entry does to the rows.
use Rattle.std.proofs.Common.{◌≡◌, ℕ, ◌+◌, ◌<◌, Bool, true, false, ◌&&◌, ◌||◌, not, ◌==◌, Option, Some, None, if◌then◌else◌, List, [], ◌∷◌, ◌++◌, map, reverse, refl, sym, ◌∙◌, ap, subst, arith, inl, inr}
use Rattle.std.specs.List.{list_any, filter, filter_map, cons_option}
use Rattle.std.specs.Option.{option_map}
use Rattle.std.proofs.lemmas.Grind.{common_steps}
use Rattle.std.proofs.lemmas.Bool.{eq-eqb, cases_Bool, false_from_ne_true}
use Rattle.std.proofs.lemmas.Bool.Decides.{eqb_tells}
use Rattle.handle_model.specs.declared.entry.Asked.{Asked}
use Rattle.handle_model.specs.declared.entry.Outcome.{Outcome}
use Rattle.handle_model.specs.declared.entry.Said.{Said}
use Rattle.handle_model.specs.declared.entry.DueItem.{DueItem}
use Rattle.handle_model.specs.declared.entry.Entry.TheVariants.{Join, Accept, Take, Deny, Cancel, Orphan, End, Leave, Shut}
use Rattle.handle_model.specs.History.{History, with_entry, size}
use Rattle.handle_model.specs.Journal.{Legal, has_joined, leaves, ends, is_open, asked, accepted, accept_count, is_taken, is_decided, is_cancelled, is_orphaned, waits, runs}
use Rattle.handle_model.specs.Bases.{is_number}
use Rattle.handle_model.proofs.Tests.{and_right, or_right}
use Rattle.handle_model.proofs.Reversed.{reverse-cons, list_any-reverse}
use Rattle.std.proofs.lemmas.List.Elements.{filter_map-append}
use Rattle.call_table.specs.declared.row.Row.{Row}
use Rattle.call_table.specs.Rows.{is_other, stays, taken, cancelled, orphaned, at_call, with_start, with_cancel, with_orphan, without, left}
use Rattle.call_table.specs.Shown.{place_of, call_row, row_as, row_in, rows_of}
use Rattle.call_table.proofs.Calls.{self, turned, taken_decided, cancels_decided, orphans_decided, waits_idle, ended_taken, accepted_falls, falls_within, decided_within}

-- LISTS

abbrev pub keep : (Row → Bool) → Option Row → Option Row
keep p None = None
keep p (Some r) = if p r then Some r else None

map_some : (f : Row → Row) (g h : ℕ → Option Row) (xs : List ℕ) → ((m : ℕ) → g m ≡ option_map f (h m)) → filter_map g xs ≡ map f (filter_map h xs)
map_some f g h [] e = refl
map_some f g h (x ∷ xs) e = rw (e x, map_some f g h xs e) (map_cons (h x) (filter_map h xs))
  where
    map_cons : (o : Option Row) (rows : List Row) → cons_option (option_map f o) (map f rows) ≡ map f (cons_option o rows)
    map_cons None rows = refl
    map_cons (Some r) rows = refl

keep_cons : (p : Row → Bool) (o : Option Row) (rows : List Row) → cons_option (keep p o) (filter p rows) ≡ filter p (cons_option o rows)
keep_cons p None rows = refl
keep_cons p (Some r) rows = elim (cases_Bool (p r)) [ inl e ↦ rw e refl | inr e ↦ rw e refl ]

keep_some : (p : Row → Bool) (g h : ℕ → Option Row) (xs : List ℕ) → ((m : ℕ) → g m ≡ keep p (h m)) → filter_map g xs ≡ filter p (filter_map h xs)
keep_some p g h [] e = refl
keep_some p g h (x ∷ xs) e = rw (e x, keep_some p g h xs e) (keep_cons p (h x) (filter_map h xs))

same_some : (g h : ℕ → Option Row) (xs : List ℕ) → ((m : ℕ) → g m ≡ h m) → filter_map g xs ≡ filter_map h xs
same_some g h [] e = refl
same_some g h (x ∷ xs) e = rw (e x, same_some g h xs e) refl

-- CALLS

waits_unended : (j : History) (k : ℕ) → Legal j → waits j k ≡ true → list_any (ends k) j.past ≡ false
waits_unended j k l w =
    false_from_ne_true (list_any (ends k) j.past) (λ e. let d = taken_decided j k (ended_taken j k l e) in grind (arith, common_steps))

-- ONE ROW, WHERE THE ENTRY SPEAKS OF ANOTHER CALL

at_other : (f : Row → Row) (j : History) (k m : ℕ) (o : Option Asked) → (m == k) ≡ false → option_map (at_call k f) (row_as j m o) ≡ row_as j m o
at_other f j k m None e = refl
at_other f j k m (Some a) e = elim (cases_Bool (waits j m || runs j m)) [ inl c ↦ rw (c, e) refl | inr c ↦ rw c refl ]

at_here : (f : Row → Row) (j : History) (k : ℕ) (o : Option Asked) → option_map (at_call k f) (row_as j k o) ≡ option_map f (row_as j k o)
at_here f j k None = refl
at_here f j k (Some a) = let q = self k in elim (cases_Bool (waits j k || runs j k)) [ inl c ↦ rw (c, q) refl | inr c ↦ rw c refl ]

kept_other : (j : History) (k m : ℕ) (o : Option Asked) → (m == k) ≡ false → keep (is_other k) (row_as j m o) ≡ row_as j m o
kept_other j k m None e = refl
kept_other j k m (Some a) e = elim (cases_Bool (waits j m || runs j m)) [ inl c ↦ rw (c, e) refl | inr c ↦ rw c refl ]

kept_here : (j : History) (k : ℕ) (o : Option Asked) → keep (is_other k) (row_as j k o) ≡ None
kept_here j k None = refl
kept_here j k (Some a) = let q = self k in elim (cases_Bool (waits j k || runs j k)) [ inl c ↦ rw (c, q) refl | inr c ↦ rw c refl ]

take_other : (j : History) (k m : ℕ) (cookies : List (Option ℕ)) (o : Option Asked) → asked j m ≡ o → (k == m) ≡ false → row_as (with_entry j (Take k cookies)) m o ≡ row_as j m o
take_other j k m cookies None e d = refl
take_other j k m cookies (Some a) e d = rw (e, d) refl

deny_other : (j : History) (k m slot : ℕ) (o : Option Asked) → asked j m ≡ o → (k == m) ≡ false → row_as (with_entry j (Deny k slot)) m o ≡ row_as j m o
deny_other j k m slot None e d = refl
deny_other j k m slot (Some a) e d = rw (e, d) refl

cancel_other : (j : History) (k m : ℕ) (o : Option Asked) → asked j m ≡ o → (k == m) ≡ false → row_as (with_entry j (Cancel k)) m o ≡ row_as j m o
cancel_other j k m None e d = refl
cancel_other j k m (Some a) e d = rw (e, d) refl

orphan_other : (j : History) (k m : ℕ) (o : Option Asked) → asked j m ≡ o → (k == m) ≡ false → row_as (with_entry j (Orphan k)) m o ≡ row_as j m o
orphan_other j k m None e d = refl
orphan_other j k m (Some a) e d = rw (e, d) refl

end_other : (j : History) (k m : ℕ) (results : List Outcome) (said : Said) (o : Option Asked) → asked j m ≡ o → (k == m) ≡ false → row_as (with_entry j (End k results said)) m o ≡ row_as j m o
end_other j k m results said None e d = refl
end_other j k m results said (Some a) e d = rw (e, d) refl

-- AND WHERE IT SPEAKS OF THIS ONE

-- neither waits nor runs
row_none : (j : History) (k : ℕ) (o : Option Asked) → waits j k ≡ false → runs j k ≡ false → row_as j k o ≡ None
row_none j k None w r = refl
row_none j k (Some a) w r = rw (w, r) refl

pub row_there : (j : History) (k : ℕ) (a : Asked) → (waits j k || runs j k) ≡ true → row_as j k (Some a) ≡ Some (call_row j k a)
row_there j k a c = rw c refl

or_left : (a b : Bool) → a ≡ true → (a || b) ≡ true
or_left true b h = refl
or_left false b h = absurd (cc)

take_here : (j : History) (k : ℕ) (cookies : List (Option ℕ)) (o : Option Asked) → Legal j → waits j k ≡ true → row_as (with_entry j (Take k cookies)) k o ≡ option_map taken (row_as j k o)
take_here j k cookies None l w = refl
take_here j k cookies (Some a) l w =
    let q = self k in
    let unended = waits_unended j k l w in
    let run : runs (with_entry j (Take k cookies)) k ≡ true = rw (q, unended) refl in
    let new = row_there (with_entry j (Take k cookies)) k a (or_right (waits (with_entry j (Take k cookies)) k) (runs (with_entry j (Take k cookies)) k) run) in
    let old = row_there j k a (or_left (waits j k) (runs j k) w) in
    let made : Bool → Row = λ b. record { call = k; conn = a.conn; slots = a.slots; place = place_of j k; runs = b; cancelled = is_cancelled j k; orphaned = is_orphaned j k } in
    new ∙ (ap (λ b. Some (made b)) run ∙ sym (ap (option_map taken) old))

deny_waits : (j : History) (k slot : ℕ) → waits (with_entry j (Deny k slot)) k ≡ false
deny_waits j k slot = let q = self k in grind (arith, common_steps)

cancel_waits : (j : History) (k : ℕ) → waits (with_entry j (Cancel k)) k ≡ false
cancel_waits j k = let q = self k in grind (arith, common_steps)

orphan_waits : (j : History) (k : ℕ) → waits (with_entry j (Orphan k)) k ≡ false
orphan_waits j k = let q = self k in grind (arith, common_steps)

deny_here : (j : History) (k slot : ℕ) (o : Option Asked) → waits j k ≡ true → row_as (with_entry j (Deny k slot)) k o ≡ None
deny_here j k slot o w = row_none (with_entry j (Deny k slot)) k o (deny_waits j k slot) (waits_idle j k w)

cancel_here : (j : History) (k : ℕ) (o : Option Asked) → waits j k ≡ true → row_as (with_entry j (Cancel k)) k o ≡ None
cancel_here j k o w = row_none (with_entry j (Cancel k)) k o (cancel_waits j k) (waits_idle j k w)

orphan_here : (j : History) (k : ℕ) (o : Option Asked) → waits j k ≡ true → row_as (with_entry j (Orphan k)) k o ≡ None
orphan_here j k o w = row_none (with_entry j (Orphan k)) k o (orphan_waits j k) (waits_idle j k w)

flag_here : (j : History) (k : ℕ) (o : Option Asked) → runs j k ≡ true → row_as (with_entry j (Cancel k)) k o ≡ option_map cancelled (row_as j k o)
flag_here j k None r = refl
flag_here j k (Some a) r =
    let q = self k in
    let new = row_there (with_entry j (Cancel k)) k a (or_right (waits (with_entry j (Cancel k)) k) (runs (with_entry j (Cancel k)) k) r) in
    let old = row_there j k a (or_right (waits j k) (runs j k) r) in
    let seen : is_cancelled (with_entry j (Cancel k)) k ≡ true = rw q refl in
    let made : Bool → Row = λ b. record { call = k; conn = a.conn; slots = a.slots; place = place_of j k; runs = runs j k; cancelled = b; orphaned = is_orphaned j k } in
    new ∙ (ap (λ b. Some (made b)) seen ∙ sym (ap (option_map cancelled) old))

drop_here : (j : History) (k : ℕ) (o : Option Asked) → runs j k ≡ true → row_as (with_entry j (Orphan k)) k o ≡ option_map orphaned (row_as j k o)
drop_here j k None r = refl
drop_here j k (Some a) r =
    let q = self k in
    let new = row_there (with_entry j (Orphan k)) k a (or_right (waits (with_entry j (Orphan k)) k) (runs (with_entry j (Orphan k)) k) r) in
    let old = row_there j k a (or_right (waits j k) (runs j k) r) in
    let seen : is_orphaned (with_entry j (Orphan k)) k ≡ true = rw q refl in
    let made : Bool → Row = λ b. record { call = k; conn = a.conn; slots = a.slots; place = place_of j k; runs = runs j k; cancelled = is_cancelled j k; orphaned = b } in
    new ∙ (ap (λ b. Some (made b)) seen ∙ sym (ap (option_map orphaned) old))

runs_waits_not : (j : History) (k : ℕ) → runs j k ≡ true → waits j k ≡ false
runs_waits_not j k r = false_from_ne_true (waits j k) (λ w. let i = waits_idle j k w in cc)

end_waits : (j : History) (k m : ℕ) (results : List Outcome) (said : Said) (o : Option Asked) → asked j m ≡ o → waits (with_entry j (End k results said)) m ≡ waits j m
end_waits j k m results said None e = rw e refl
end_waits j k m results said (Some a) e = rw e refl

end_here : (j : History) (k : ℕ) (results : List Outcome) (said : Said) (o : Option Asked) → runs j k ≡ true → row_as (with_entry j (End k results said)) k o ≡ None
end_here j k results said o r =
    let q = self k in
    let over : runs (with_entry j (End k results said)) k ≡ false = grind (arith, common_steps) in
    row_none (with_entry j (End k results said)) k o (end_waits j k k results said (asked j k) refl ∙ runs_waits_not j k r) over

-- THE ROWS

-- a new call
fresh_row : (j : History) (k : ℕ) (a : Asked) → Legal (with_entry j (Accept k a)) → row_in (with_entry j (Accept k a)) k ≡ Some (record { call = k; conn = a.conn; slots = a.slots; place = size j; runs = false; cancelled = false; orphaned = false })
fresh_row j k a l =
    let q = self k in
    let top = l.0.fits.0 in
    let stands : is_open j a.conn ≡ true = l.0.fits.1 in
    let undecided : is_decided j k ≡ false = false_from_ne_true (is_decided j k) (λ d. let w = decided_within j k l.1 d in absurd (omega arith)) in
    let untaken : is_taken j k ≡ false = false_from_ne_true (is_taken j k) (λ d. let t = taken_decided j k d in cc) in
    let uncancelled : is_cancelled j k ≡ false = false_from_ne_true (is_cancelled j k) (λ d. let t = cancels_decided j k l.1 d in cc) in
    let unorphaned : is_orphaned j k ≡ false = false_from_ne_true (is_orphaned j k) (λ d. let t = orphans_decided j k l.1 d in cc) in
    let here : list_any (leaves a.conn) j.past ≡ false = false_from_ne_true (list_any (leaves a.conn) j.past) (λ g. let n = and_right (has_joined j a.conn) (not (list_any (leaves a.conn) j.past)) stands in let f = rw g at n in cc) in
    let e : asked (with_entry j (Accept k a)) k ≡ Some a = rw q refl in
    let w : waits (with_entry j (Accept k a)) k ≡ true = rw (e, here, undecided) refl in
    let made : Bool → Bool → Bool → Row = λ x y z. record { call = k; conn = a.conn; slots = a.slots; place = size j; runs = x && not (list_any (ends k) j.past); cancelled = y; orphaned = z } in
    let here_place : place_of (with_entry j (Accept k a)) k ≡ size j = rw q refl in
    ap (row_as (with_entry j (Accept k a)) k) e ∙ (row_there (with_entry j (Accept k a)) k a (or_left (waits (with_entry j (Accept k a)) k) (runs (with_entry j (Accept k a)) k) w) ∙ (ap (λ p. Some (record { call = k; conn = a.conn; slots = a.slots; place = p; runs = runs j k; cancelled = is_cancelled j k; orphaned = is_orphaned j k })) here_place ∙ (ap (λ x. Some (made x (is_cancelled j k) (is_orphaned j k))) untaken ∙ (ap (λ y. Some (made false y (is_orphaned j k))) uncancelled ∙ ap (λ z. Some (made false false z)) unorphaned))))

older_some : (j : History) (k m : ℕ) (b a : Asked) → (k == m) ≡ false → asked (with_entry j (Accept k b)) m ≡ Some a → asked j m ≡ Some a → row_as (with_entry j (Accept k b)) m (Some a) ≡ row_as j m (Some a)
older_some j k m b a d n e =
    let same : waits (with_entry j (Accept k b)) m ≡ waits j m = rw (n, e) refl in
    let stands : place_of (with_entry j (Accept k b)) m ≡ place_of j m = rw d refl in
    let made : ℕ → Row = λ p. record { call = m; conn = a.conn; slots = a.slots; place = p; runs = runs j m; cancelled = is_cancelled j m; orphaned = is_orphaned j m } in
    ap (λ (w : Bool). if w || runs j m then Some (call_row (with_entry j (Accept k b)) m a) else None) same ∙ ap (λ p. if waits j m || runs j m then Some (made p) else None) stands

older_as : (j : History) (k m : ℕ) (b : Asked) (o : Option Asked) → (k == m) ≡ false → asked j m ≡ o → row_in (with_entry j (Accept k b)) m ≡ row_in j m
older_as j k m b None d e =
    let n : asked (with_entry j (Accept k b)) m ≡ None = rw d e in
    ap (row_as (with_entry j (Accept k b)) m) n ∙ sym (ap (row_as j m) e)
older_as j k m b (Some a) d e =
    let n : asked (with_entry j (Accept k b)) m ≡ Some a = rw d e in
    ap (row_as (with_entry j (Accept k b)) m) n ∙ (older_some j k m b a d n e ∙ sym (ap (row_as j m) e))

older_rows : (j : History) (k : ℕ) (a : Asked) (xs : List ℕ) → ((m : ℕ) → list_any (is_number m) xs ≡ true → m < k) → filter_map (row_in (with_entry j (Accept k a))) xs ≡ filter_map (row_in j) xs
older_rows j k a [] h = refl
older_rows j k a (x ∷ xs) h =
    let q = self x in
    let low : x < k = h x (rw q refl) in
    let other : (k == x) ≡ false = elim (eqb_tells k x) [ inl e ↦ let same = e.1 in absurd (omega arith) | inr e ↦ e.0 ] in
    rw (older_as j k x a (asked j x) other refl, older_rows j k a xs (λ m i. h m (or_right (x == m) (list_any (is_number m) xs) i))) refl

pub accept_rows : (j : History) (k : ℕ) (a : Asked) → Legal (with_entry j (Accept k a)) → rows_of (with_entry j (Accept k a)) ≡ rows_of j ++ record { call = k; conn = a.conn; slots = a.slots; place = size j; runs = false; cancelled = false; orphaned = false } ∷ []
accept_rows j k a l =
    let xs = reverse (accepted j) in
    let top = l.0.fits.0 in
    let low : (m : ℕ) → list_any (is_number m) xs ≡ true → m < k =
    λ m i. let w = falls_within (accept_count j + 1) 0 (accepted j) m (accepted_falls j l.1) (sym (list_any-reverse (is_number m) (accepted j)) ∙ i) in omega arith in
    ap (filter_map (row_in (with_entry j (Accept k a)))) (reverse-cons k (accepted j)) ∙ (filter_map-append (row_in (with_entry j (Accept k a))) xs (k ∷ []) ∙ rw (older_rows j k a xs low, fresh_row j k a l) refl)

pub join_rows : (j : History) (c : ℕ) → rows_of (with_entry j (Join c)) ≡ rows_of j
join_rows j c = same_some (row_in (with_entry j (Join c))) (row_in j) (reverse (accepted j)) (λ m. one m (asked j m) refl)
  where
    one : (m : ℕ) (o : Option Asked) → asked j m ≡ o → row_as (with_entry j (Join c)) m o ≡ row_as j m o
    one m None e = refl
    one m (Some a) e = rw e refl

pub shut_rows : (j : History) (items : List DueItem) → rows_of (with_entry j (Shut items)) ≡ rows_of j
shut_rows j items = same_some (row_in (with_entry j (Shut items))) (row_in j) (reverse (accepted j)) (λ m. one m (asked j m) refl)
  where
    one : (m : ℕ) (o : Option Asked) → asked j m ≡ o → row_as (with_entry j (Shut items)) m o ≡ row_as j m o
    one m None e = refl
    one m (Some a) e = rw e refl

pub take_rows : (j : History) (k : ℕ) (cookies : List (Option ℕ)) → Legal j → waits j k ≡ true → rows_of (with_entry j (Take k cookies)) ≡ with_start k (rows_of j)
take_rows j k cookies l w =
    map_some (at_call k taken) (row_in (with_entry j (Take k cookies))) (row_in j) (reverse (accepted j)) (λ m. elim (eqb_tells k m) [
      | inl e ↦ subst (λ n. row_in (with_entry j (Take k cookies)) n ≡ option_map (at_call k taken) (row_in j n)) e.1 (take_here j k cookies (asked j k) l w ∙ sym (at_here taken j k (asked j k)))
      | inr e ↦ take_other j k m cookies (asked j m) refl e.0 ∙ sym (at_other taken j k m (asked j m) (turned k m e.0))
    ])

pub deny_rows : (j : History) (k slot : ℕ) → waits j k ≡ true → rows_of (with_entry j (Deny k slot)) ≡ without k (rows_of j)
deny_rows j k slot w =
    keep_some (is_other k) (row_in (with_entry j (Deny k slot))) (row_in j) (reverse (accepted j)) (λ m. elim (eqb_tells k m) [
      | inl e ↦ subst (λ n. row_in (with_entry j (Deny k slot)) n ≡ keep (is_other k) (row_in j n)) e.1 (deny_here j k slot (asked j k) w ∙ sym (kept_here j k (asked j k)))
      | inr e ↦ deny_other j k m slot (asked j m) refl e.0 ∙ sym (kept_other j k m (asked j m) (turned k m e.0))
    ])

-- a cancel of a waiting call, and of a running one
pub cancel_rows : (j : History) (k : ℕ) → waits j k ≡ true → rows_of (with_entry j (Cancel k)) ≡ without k (rows_of j)
cancel_rows j k w =
    keep_some (is_other k) (row_in (with_entry j (Cancel k))) (row_in j) (reverse (accepted j)) (λ m. elim (eqb_tells k m) [
      | inl e ↦ subst (λ n. row_in (with_entry j (Cancel k)) n ≡ keep (is_other k) (row_in j n)) e.1 (cancel_here j k (asked j k) w ∙ sym (kept_here j k (asked j k)))
      | inr e ↦ cancel_other j k m (asked j m) refl e.0 ∙ sym (kept_other j k m (asked j m) (turned k m e.0))
    ])

pub flag_rows : (j : History) (k : ℕ) → runs j k ≡ true → rows_of (with_entry j (Cancel k)) ≡ with_cancel k (rows_of j)
flag_rows j k r =
    map_some (at_call k cancelled) (row_in (with_entry j (Cancel k))) (row_in j) (reverse (accepted j)) (λ m. elim (eqb_tells k m) [
      | inl e ↦ subst (λ n. row_in (with_entry j (Cancel k)) n ≡ option_map (at_call k cancelled) (row_in j n)) e.1 (flag_here j k (asked j k) r ∙ sym (at_here cancelled j k (asked j k)))
      | inr e ↦ cancel_other j k m (asked j m) refl e.0 ∙ sym (at_other cancelled j k m (asked j m) (turned k m e.0))
    ])

-- an orphan of a waiting call, and of a running one
pub orphan_rows : (j : History) (k : ℕ) → waits j k ≡ true → rows_of (with_entry j (Orphan k)) ≡ without k (rows_of j)
orphan_rows j k w =
    keep_some (is_other k) (row_in (with_entry j (Orphan k))) (row_in j) (reverse (accepted j)) (λ m. elim (eqb_tells k m) [
      | inl e ↦ subst (λ n. row_in (with_entry j (Orphan k)) n ≡ keep (is_other k) (row_in j n)) e.1 (orphan_here j k (asked j k) w ∙ sym (kept_here j k (asked j k)))
      | inr e ↦ orphan_other j k m (asked j m) refl e.0 ∙ sym (kept_other j k m (asked j m) (turned k m e.0))
    ])

pub drop_rows : (j : History) (k : ℕ) → runs j k ≡ true → rows_of (with_entry j (Orphan k)) ≡ with_orphan k (rows_of j)
drop_rows j k r =
    map_some (at_call k orphaned) (row_in (with_entry j (Orphan k))) (row_in j) (reverse (accepted j)) (λ m. elim (eqb_tells k m) [
      | inl e ↦ subst (λ n. row_in (with_entry j (Orphan k)) n ≡ option_map (at_call k orphaned) (row_in j n)) e.1 (drop_here j k (asked j k) r ∙ sym (at_here orphaned j k (asked j k)))
      | inr e ↦ orphan_other j k m (asked j m) refl e.0 ∙ sym (at_other orphaned j k m (asked j m) (turned k m e.0))
    ])

pub end_rows : (j : History) (k : ℕ) (results : List Outcome) (said : Said) → runs j k ≡ true → rows_of (with_entry j (End k results said)) ≡ without k (rows_of j)
end_rows j k results said r =
    keep_some (is_other k) (row_in (with_entry j (End k results said))) (row_in j) (reverse (accepted j)) (λ m. elim (eqb_tells k m) [
      | inl e ↦ subst (λ n. row_in (with_entry j (End k results said)) n ≡ keep (is_other k) (row_in j n)) e.1 (end_here j k results said (asked j k) r ∙ sym (kept_here j k (asked j k)))
      | inr e ↦ end_other j k m results said (asked j m) refl e.0 ∙ sym (kept_other j k m (asked j m) (turned k m e.0))
    ])

-- a connection leaves
left_bools : (w r c : Bool) → (w ≡ true → r ≡ false) → (((w && not c) || r) ≡ ((w || r) && not (not r && c)))
left_bools true true c h = let f = h refl in absurd (cc)
left_bools true false true h = refl
left_bools true false false h = refl
left_bools false true c h = refl
left_bools false false c h = refl

eq_turned : (a b : ℕ) → (a == b) ≡ (b == a)
eq_turned a b = elim (eqb_tells a b) [ inl e ↦ e.0 ∙ sym (eq-eqb b a (sym e.1)) | inr e ↦ e.0 ∙ sym (turned a b e.0) ]

leave_waits : (j : History) (c m : ℕ) (a : Asked) → asked j m ≡ Some a → waits (with_entry j (Leave c)) m ≡ (waits j m && not (c == a.conn))
leave_waits j c m a e = rw e (bools (c == a.conn) (list_any (leaves a.conn) j.past) (is_decided j m))
  where
    bools : (c d x : Bool) → (true && not (c || d) && not x) ≡ ((true && not d && not x) && not c)
    bools true true true = refl
    bools true true false = refl
    bools true false true = refl
    bools true false false = refl
    bools false true true = refl
    bools false true false = refl
    bools false false true = refl
    bools false false false = refl

leave_one : (j : History) (c m : ℕ) (o : Option Asked) → asked j m ≡ o → row_as (with_entry j (Leave c)) m o ≡ keep (stays c) (row_as j m o)
leave_one j c m None e = refl
leave_one j c m (Some a) e =
    let w = leave_waits j c m a e in
    let turn = eq_turned c a.conn in
    let b = left_bools (waits j m) (runs j m) (a.conn == c) (waits_idle j m) in
    let now : (waits (with_entry j (Leave c)) m || runs j m) ≡ ((waits j m || runs j m) && not (not (runs j m) && (a.conn == c))) =
    ap (λ x. x || runs j m) (w ∙ ap (λ x. waits j m && not x) turn) ∙ b in
    elim (cases_Bool (waits j m || runs j m)) [
      | inl t ↦ elim (cases_Bool (stays c (call_row j m a))) [
        | inl s ↦ let yes : (waits (with_entry j (Leave c)) m || runs j m) ≡ true = now ∙ rw (t, s) refl in rw (t, s) (row_there (with_entry j (Leave c)) m a yes)
        | inr s ↦ let no : (waits (with_entry j (Leave c)) m || runs j m) ≡ false = now ∙ rw (t, s) refl in rw (t, s) (rw no refl)
      ]
      | inr f ↦ let no : (waits (with_entry j (Leave c)) m || runs j m) ≡ false = now ∙ rw f refl in rw f (rw no refl)
    ]

pub leave_rows : (j : History) (c : ℕ) → rows_of (with_entry j (Leave c)) ≡ left c (rows_of j)
leave_rows j c = keep_some (stays c) (row_in (with_entry j (Leave c))) (row_in j) (reverse (accepted j)) (λ m. leave_one j c m (asked j m) refl)
