-- What the tables of a journal say is what the journal says.
use Rattle.std.proofs.Common.{◌≡◌, ℕ, ◌+◌, ◌<◌, suc, Bool, true, false, ◌&&◌, ◌||◌, not, ◌==◌, ◌↔◌, Option, Some, None, if◌then◌else◌, List, [], ◌∷◌, length, refl, sym, ◌∙◌, ap, subst, arith, inl, inr}
use Rattle.std.specs.List.{list_any}
use Rattle.std.proofs.lemmas.Bool.{cases_Bool, false_from_ne_true}
use Rattle.handle_model.specs.declared.entry.Home.{Home}
use Rattle.handle_model.specs.declared.entry.Asked.{Asked}
use Rattle.handle_model.specs.declared.entry.DueItem.{DueItem}
use Rattle.handle_model.specs.declared.entry.Entry.{Entry}
use Rattle.handle_model.specs.declared.entry.Entry.TheVariants.{Join, Accept, Take, Deny, Cancel, Orphan, End, Leave, Shut}
use Rattle.handle_model.specs.declared.base.Base.{Base}
use Rattle.handle_model.specs.Sound.{IsSoundBase}
use Rattle.handle_model.specs.History.{History, since, with_entry, size}
use Rattle.handle_model.specs.Journal.{Legal, Allowed, Fits, is_join, is_accept, is_shut, opens_in, join_count, accept_count, opened, conns, is_open, asked, waits, runs, running, is_empty, slots, is_cancelled, is_orphaned, fault, fault_in, cookies_for, due, due_items}
use Rattle.handle_table.specs.Uses.{fault_at, cookies_at}
use Rattle.handle_table.specs.Ended.{ended}
use Rattle.handle_table.proofs.Named.{fault_shown, cookies_shown}
use Rattle.handle_table.proofs.Steps as items
use Rattle.handle_table.proofs.Started as start_items
use Rattle.call_table.specs.declared.row.Row.{Row}
use Rattle.call_table.specs.Rows.{row_at, slots_at, is_running}
use Rattle.call_table.specs.Laws as row_laws
use Rattle.call_table.specs.Shown.{row_as, row_in, rows_of, base_rows}
use Rattle.call_table.proofs.Calls.{waits_idle, runs_asked}
use Rattle.call_table.proofs.Found.{passes, row_shown, waits_as_row, runs_as_row, slots_shown, conflict_shown, over_shown}
use Rattle.call_table.proofs.Counts.{idle_shown}
use Rattle.call_table.proofs.Follows as rows
use Rattle.call_table.proofs.Started as start_rows
use Rattle.journal_tables.specs.declared.conns.OpenConn.{OpenConn}
use Rattle.journal_tables.specs.Tables.{Tables, waits_in, runs_in, cancels_in, orphans_in, is_due, FitsIn, Admits, speaks_of_running, items_after, conns_after, entered}
use Rattle.journal_tables.specs.Shown.{conns_of, tables_of, base_conn, base_tables}
use Rattle.journal_tables.proofs.Joined.{open_shown, none_shown, join_conns, leave_conns, base_conns}

-- THE ROW OF A CALL

waits_passes : (o : Option Row) → waits_in o ≡ passes (λ (r : Row). not r.runs) o
waits_passes None = refl
waits_passes (Some r) = refl

runs_passes : (o : Option Row) → runs_in o ≡ passes (λ (r : Row). r.runs) o
runs_passes None = refl
runs_passes (Some r) = refl

pub waits_row : (j : History) (k : ℕ) → waits_in (row_at (rows_of j) k) ≡ waits j k
waits_row j k = ap waits_in (row_shown j k) ∙ (waits_passes (row_in j k) ∙ waits_as_row j k (asked j k) refl)

pub runs_row : (j : History) (k : ℕ) → Legal j → runs_in (row_at (rows_of j) k) ≡ runs j k
runs_row j k l = ap runs_in (row_shown j k) ∙ (runs_passes (row_in j k) ∙ runs_as_row j k (asked j k) l refl)

idle_asked : (j : History) (k : ℕ) → Legal j → asked j k ≡ None → runs j k ≡ false
idle_asked j k l e = false_from_ne_true (runs j k) (λ r. let s = runs_asked j k None l e r in cc)

cancels_as : (j : History) (k : ℕ) (o : Option Asked) → Legal j → asked j k ≡ o → cancels_in (row_as j k o) ≡ (waits j k || runs j k && not (is_cancelled j k))
cancels_as j k None l e = let r = idle_asked j k l e in let w : waits j k ≡ false = rw e refl in rw (w, r) refl
cancels_as j k (Some a) l e =
    elim (cases_Bool (waits j k)) [
      | inl w ↦ let idle = waits_idle j k w in rw (w, idle) refl
      | inr w ↦ elim (cases_Bool (runs j k)) [ inl r ↦ rw (w, r) refl | inr r ↦ rw (w, r) refl ]
    ]

pub cancels_row : (j : History) (k : ℕ) → Legal j → cancels_in (row_at (rows_of j) k) ≡ (waits j k || runs j k && not (is_cancelled j k))
cancels_row j k l = ap cancels_in (row_shown j k) ∙ cancels_as j k (asked j k) l refl

orphans_as : (j : History) (k : ℕ) (o : Option Asked) → Legal j → asked j k ≡ o → orphans_in (row_as j k o) ≡ (waits j k || runs j k && not (is_orphaned j k))
orphans_as j k None l e = let r = idle_asked j k l e in let w : waits j k ≡ false = rw e refl in rw (w, r) refl
orphans_as j k (Some a) l e =
    elim (cases_Bool (waits j k)) [
      | inl w ↦ let idle = waits_idle j k w in rw (w, idle) refl
      | inr w ↦ elim (cases_Bool (runs j k)) [ inl r ↦ rw (w, r) refl | inr r ↦ rw (w, r) refl ]
    ]

pub orphans_row : (j : History) (k : ℕ) → Legal j → orphans_in (row_at (rows_of j) k) ≡ (waits j k || runs j k && not (is_orphaned j k))
orphans_row j k l = ap orphans_in (row_shown j k) ∙ orphans_as j k (asked j k) l refl

or_left : (a b : Bool) → a ≡ true → (a || b) ≡ true
or_left true b h = refl
or_left false b h = absurd (cc)

or_second : (a b : Bool) → b ≡ true → (a || b) ≡ true
or_second true b h = refl
or_second false b h = h

waiting_slots : (j : History) (k : ℕ) → Legal j → waits j k ≡ true → slots_at (rows_of j) k ≡ slots j k
waiting_slots j k l w = slots_shown j k l (or_left (waits j k) (runs j k) w)

running_slots : (j : History) (k : ℕ) → Legal j → runs j k ≡ true → slots_at (rows_of j) k ≡ slots j k
running_slots j k l r = slots_shown j k l (or_second (waits j k) (runs j k) r)

fault_row : (j : History) (k : ℕ) → Legal j → waits j k ≡ true → fault_at j.home (due_items j) (slots_at (rows_of j) k) ≡ fault j k
fault_row j k l w = ap (fault_at j.home (due_items j)) (waiting_slots j k l w) ∙ fault_shown j (slots j k) l

cookies_row : (j : History) (k : ℕ) → Legal j → waits j k ≡ true → fault j k ≡ None → cookies_at j.home (due_items j) (slots_at (rows_of j) k) ≡ cookies_for j (slots j k)
cookies_row j k l w f = ap (cookies_at j.home (due_items j)) (waiting_slots j k l w) ∙ cookies_shown j (slots j k) l f

-- THE END OF THE GROUP

twice_not : (b : Bool) → not (not b) ≡ b
twice_not true = refl
twice_not false = refl

pub due_shown : (j : History) → Legal j → is_due (tables_of j) ≡ due j
due_shown j l =
    let none = none_shown j in
    let idle : not (list_any is_running (rows_of j)) ≡ is_empty (running j) = ap not (idle_shown j l) ∙ twice_not (is_empty (running j)) in
    let made : Bool → Bool → Bool = λ x y. not (join_count j == 0) && not (list_any is_shut j.past) && x && y in
    ap (λ x. made x (not (list_any is_running (rows_of j)))) none ∙ ap (made (is_empty (conns j))) idle

-- ENTRIES THAT MAY COME

fits_to : (j : History) (e : Entry) → Legal j → FitsIn (tables_of j) e → Fits j e
fits_to j (Join c) l f = f
fits_to j (Accept k a) l f = (f.0, sym (open_shown j a.conn) ∙ f.2, f.3, f.4, f.5, f.6)
fits_to j (Take k cookies) l f =
    let w : waits j k ≡ true = sym (waits_row j k) ∙ f.0 in
    let none : fault j k ≡ None = sym (fault_row j k l w) ∙ f.2 in
    (w, sym (conflict_shown j k l w) ∙ f.1, none, f.3 ∙ cookies_row j k l w none)
fits_to j (Deny k slot) l f =
    let w : waits j k ≡ true = sym (waits_row j k) ∙ f.0 in (w, sym (conflict_shown j k l w) ∙ f.1, sym (fault_row j k l w) ∙ f.2)
fits_to j (Cancel k) l f = sym (cancels_row j k l) ∙ f
fits_to j (Orphan k) l f = sym (orphans_row j k l) ∙ f
fits_to j (End k results said) l f =
    let r : runs j k ≡ true = sym (runs_row j k l) ∙ f.0 in (r, rw (running_slots j k l r) at f.1)
fits_to j (Leave c) l f = sym (open_shown j c) ∙ f
fits_to j (Shut items) l f = (sym (due_shown j l) ∙ f.0, f.1)

fits_from : (j : History) (e : Entry) → Legal j → Fits j e → FitsIn (tables_of j) e
fits_from j (Join c) l f = f
fits_from j (Accept k a) l f =
    let first = f.0 in (f.0, over_shown j k l (omega (arith, first)), open_shown j a.conn ∙ f.1, f.2, f.3, f.4, f.5)
fits_from j (Take k cookies) l f =
    let w = f.0 in (waits_row j k ∙ w, conflict_shown j k l w ∙ f.1, fault_row j k l w ∙ f.2, f.3 ∙ sym (cookies_row j k l w f.2))
fits_from j (Deny k slot) l f = let w = f.0 in (waits_row j k ∙ w, conflict_shown j k l w ∙ f.1, fault_row j k l w ∙ f.2)
fits_from j (Cancel k) l f = cancels_row j k l ∙ f
fits_from j (Orphan k) l f = orphans_row j k l ∙ f
fits_from j (End k results said) l f = (runs_row j k l ∙ f.0, rw (running_slots j k l f.0) f.1)
fits_from j (Leave c) l f = open_shown j c ∙ f
fits_from j (Shut items) l f = (due_shown j l ∙ f.0, f.1)

pub admits_shown : (j : History) (e : Entry) → Legal j → Admits (tables_of j) e ↔ Allowed j e
admits_shown j e l =
    (λ a. record { before_shut = a.before_shut; shut_when_due = λ d. a.shut_when_due (due_shown j l ∙ d); fits = fits_to j e l a.fits }, λ a. record { before_shut = a.before_shut; shut_when_due = λ d. a.shut_when_due (sym (due_shown j l) ∙ d); fits = fits_from j e l a.fits })

-- WHAT THEY MAKE OF THE TABLES

items_entered : (j : History) (e : Entry) → Legal (with_entry j e) → due_items (with_entry j e) ≡ items_after (tables_of j) e
items_entered j (Join c) l = items.follows j (Join c) l
items_entered j (Accept k a) l = items.follows j (Accept k a) l
items_entered j (Take k cookies) l = items.follows j (Take k cookies) l
items_entered j (Deny k slot) l = items.follows j (Deny k slot) l
items_entered j (Cancel k) l = items.follows j (Cancel k) l
items_entered j (Orphan k) l = items.follows j (Orphan k) l
items_entered j (End k results said) l =
    items.follows j (End k results said) l ∙ ap (λ ss. ended j.home ss results (due_items j)) (sym (running_slots j k l.1 l.0.fits.0))
items_entered j (Leave c) l = items.follows j (Leave c) l
items_entered j (Shut due) l = items.follows j (Shut due) l

speaks : (j : History) (e : Entry) → Legal j → row_laws.speaks_of_running j e ≡ speaks_of_running (tables_of j) e
speaks j (Join c) l = refl
speaks j (Accept k a) l = refl
speaks j (Take k cookies) l = refl
speaks j (Deny k slot) l = refl
speaks j (Cancel k) l = sym (runs_row j k l)
speaks j (Orphan k) l = sym (runs_row j k l)
speaks j (End k results said) l = refl
speaks j (Leave c) l = refl
speaks j (Shut due) l = refl

rows_entered : (j : History) (e : Entry) → Legal (with_entry j e) → rows_of (with_entry j e) ≡ row_laws.left_by (rows_of j) (size j) e (speaks_of_running (tables_of j) e)
rows_entered j e l = rows.follows j e l ∙ ap (row_laws.left_by (rows_of j) (size j) e) (speaks j e l.1)

conns_entered : (j : History) (e : Entry) → Legal (with_entry j e) → conns_of (with_entry j e) ≡ conns_after (tables_of j) (size j) e
conns_entered j (Join c) l = join_conns j c l.1 l.0.fits.0
conns_entered j (Accept k a) l = refl
conns_entered j (Take k cookies) l = refl
conns_entered j (Deny k slot) l = refl
conns_entered j (Cancel k) l = refl
conns_entered j (Orphan k) l = refl
conns_entered j (End k results said) l = refl
conns_entered j (Leave c) l = leave_conns j c
conns_entered j (Shut due) l = refl

pub follows : (j : History) (e : Entry) → Legal (with_entry j e) → tables_of (with_entry j e) ≡ entered (tables_of j) (size j) e
follows j e l =
    let h : History = with_entry j e in
    let made : List DueItem → List Row → List OpenConn → Tables =
    λ i r c. record { home = j.home; items = i; rows = r; conns = c; joins = join_count h; accepts = accept_count h; opens = opened h; shut = list_any is_shut h.past } in
    ap (λ i. made i (rows_of h) (conns_of h)) (items_entered j e l) ∙ (ap (λ r. made (items_after (tables_of j) e) r (conns_of h)) (rows_entered j e l) ∙ ap (made (items_after (tables_of j) e) (row_laws.left_by (rows_of j) (size j) e (speaks_of_running (tables_of j) e))) (conns_entered j e l))

-- A BASE

pub base_shown : (home : Home) (base : Base) → IsSoundBase home base → tables_of (since home base []) ≡ base_tables home base
base_shown home base s =
    let j : History = since home base [] in
    let made : List DueItem → List Row → List OpenConn → Tables =
    λ i r c. record { home = home; items = i; rows = r; conns = c; joins = base.joins; accepts = base.accepts; opens = base.opens; shut = false } in
    ap (λ i. made i (rows_of j) (conns_of j)) (start_items.base_shown home base s) ∙ (ap (λ r. made base.handles r (conns_of j)) (start_rows.base_shown home base s) ∙ ap (made base.handles (base_rows base)) (base_conns home base))
