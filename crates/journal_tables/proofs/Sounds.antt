-- The base that a legal journal gives is sound.
use Rattle.std.proofs.Common.{◌≡◌, ◌≢◌, ℕ, zero, suc, ◌+◌, ◌≤◌, ◌<◌, ◌^◌, Bool, true, false, ◌&&◌, ◌||◌, not, ◌==◌, nat_le, nat_lt, if◌then◌else◌, Option, Some, None, is_some, unwrap_or, List, [], ◌∷◌, ◌++◌, length, map, reverse, refl, sym, ◌∙◌, ap, subst, arith, inl, inr, ◌⊎◌}
use Rattle.std.specs.List.{list_any, list_all, filter, filter_map, cons_option, find}
use Rattle.std.proofs.lemmas.Grind.{common_steps}
use Rattle.std.proofs.lemmas.Bool.{cases_Bool, false_from_ne_true, eqb-true, eq-eqb, le-leb, lt-ltb, ltb-true, leb-true}
use Rattle.std.proofs.lemmas.Bool.Decides.{eqb_tells}
use Rattle.std.proofs.lemmas.List.Folds.{list_any-append}
use Rattle.std.proofs.lemmas.List.Elements.{filter-append}
use Rattle.handle_model.specs.declared.entry.Home.{Home}
use Rattle.handle_model.specs.declared.entry.Slot.{Slot}
use Rattle.handle_model.specs.declared.entry.Slot.TheVariants.{Opens}
use Rattle.handle_model.specs.declared.entry.Asked.{Asked}
use Rattle.handle_model.specs.declared.entry.DueItem.{DueItem}
use Rattle.handle_model.specs.declared.entry.Entry.{Entry}
use Rattle.handle_model.specs.declared.entry.Entry.TheVariants.{Accept, Take}
use Rattle.handle_model.specs.declared.base.BaseCall.{BaseCall}
use Rattle.handle_model.specs.declared.base.Base.{Base}
use Rattle.handle_model.specs.Slots.{wire_of, kind_of, named, names}
use Rattle.handle_model.specs.Bases.{empty_base, is_number, has_conn, has_item, asked_before, taken_calls, numbers_of, serials_of}
use Rattle.handle_model.specs.Sound.{rise_above, rise, at_most, differ, is_fresh, is_within, conflicts_with, are_apart, names_apart, is_item_for, is_known, serial_of, opening, is_held, IsSoundBase}
use Rattle.handle_model.specs.Folds.{call_of, call_as, call_in, open_calls, base_of}
use Rattle.handle_model.specs.History.{History, since, with_entry, size}
use Rattle.handle_model.specs.Journal.{Legal, is_item_of, is_shut, ends, join_count, joined, is_open, conns, accept_count, accepted, asked, is_taken, is_decided, is_cancelled, is_orphaned, waits, runs, running, slots, conflict, is_empty, due, opened, numbers, is_live, is_issued, live, kind, is_kind, is_usable, is_usable_as, serial_named, due_item, due_items}
use Rattle.handle_model.proofs.Tests.{and_left, and_right, or_right, or_cases}
use Rattle.handle_model.proofs.Held.{joined_small, accepted_small, opened_small, slots_few, waits_open, joined_within, found_call, found_passes}
use Rattle.handle_model.proofs.Reversed.{reverse-cons, list_any-reverse}
use Rattle.handle_model.specs.Running.{AllUsable}
use Rattle.handle_model.proofs.Apart.{running_apart}
use Rattle.handle_model.proofs.LiveNames.{opens_serial, any_opens, opens_within, opens_free, opens_once, issued_by, Issuer, serial_named_is, named_live}
use Rattle.handle_model.proofs.OneSlot.{running_unrepeated, serials_differ}
use Rattle.handle_table.specs.Handles.{item_at}
use Rattle.handle_table.proofs.Live.{live_item, live_issued, due_item_at}
use Rattle.call_table.specs.declared.row.Row.{Row}
use Rattle.call_table.specs.Rows.{is_running}
use Rattle.call_table.specs.Shown.{row_as, row_in, rows_of}
use Rattle.call_table.proofs.Calls.{Falls, falls_within, accepted_falls, self, taken_decided, cancels_decided, orphans_decided, waits_idle, ended_taken, runs_asked}
use Rattle.call_table.proofs.Counts.{idle_shown}
use Rattle.journal_tables.proofs.Joined.{has, falls_since, filter_turned, open_listed}
use Rattle.journal_tables.specs.Folding.{HasBegun}
use Rattle.journal_tables.proofs.Apart.{unrepeated_apart}

-- LISTS OF NUMBERS

at_most_of : (top : ℕ) (ns : List ℕ) → ((m : ℕ) → has m ns ≡ true → m ≤ top) → at_most top ns ≡ true
at_most_of top [] e = refl
at_most_of top (n ∷ ns) e =
    let s = self n in
    let here = le-leb n top (e n (rw s refl)) in
    let more = at_most_of top ns (λ m i. e m (or_right (n == m) (has m ns) i)) in rw here more

above_last : (n x : ℕ) (ns : List ℕ) → rise_above n ns ≡ true → n < x → ((m : ℕ) → has m ns ≡ true → m < x) → rise_above n (ns ++ x ∷ []) ≡ true
above_last n x [] r lt e = let up = lt-ltb n x lt in rw up refl
above_last n x (y ∷ ns) r lt e =
    let s = self y in
    let here = and_left (nat_lt n y) (rise_above y ns) r in
    let more = above_last y x ns (and_right (nat_lt n y) (rise_above y ns) r) (e y (rw s refl)) (λ m i. e m (or_right (y == m) (has m ns) i)) in
    rw here more

rise_last : (x : ℕ) (ns : List ℕ) → rise ns ≡ true → ((m : ℕ) → has m ns ≡ true → m < x) → rise (ns ++ x ∷ []) ≡ true
rise_last x [] r e = refl
rise_last x (y ∷ ns) r e = let s = self y in above_last y x ns r (e y (rw s refl)) (λ m i. e m (or_right (y == m) (has m ns) i))

falls_rise : (high low : ℕ) (xs : List ℕ) → Falls high low xs → rise (reverse xs) ≡ true
falls_rise high low [] f = refl
falls_rise high low (x ∷ xs) f =
    subst (λ ns. rise ns ≡ true) (sym (reverse-cons x xs)) (rise_last x (reverse xs) (falls_rise x low xs f.1) (λ m i. falls_within x low xs m f.1 (sym (list_any-reverse (is_number m) xs) ∙ i)))

falls_higher : (x high low : ℕ) (xs : List ℕ) → x ≤ high → Falls x low xs → Falls high low xs
falls_higher x high low [] le f = omega (arith, le, f)
falls_higher x high low (y ∷ xs) le f = let first = f.0 in (omega (arith, le, first), f.1)

falls_filter : (p : ℕ → Bool) (high low : ℕ) (xs : List ℕ) → Falls high low xs → Falls high low (filter p xs)
falls_filter p high low [] f = f
falls_filter p high low (x ∷ xs) f =
    let first = f.0 in
    let rest = falls_filter p x low xs f.1 in
    elim (cases_Bool (p x)) [
      | inl t ↦ rw t (f.0, rest)
      | inr t ↦ rw t (falls_higher x high low (filter p xs) (omega (arith, first)) rest)
    ]

falls_most : (high low : ℕ) (xs : List ℕ) → Falls (high + 1) low xs → at_most high (reverse xs) ≡ true
falls_most high low xs f = at_most_of high (reverse xs) (λ m i. let w = falls_within (high + 1) low xs m f (sym (list_any-reverse (is_number m) xs) ∙ i) in omega (arith, w))

-- THE OPEN CALLS

abbrev pub is_active : History → ℕ → Bool
is_active j k = is_some (call_in j k)

numbers_as : (j : History) (k : ℕ) (o : Option Asked) (cs : List BaseCall) (ns : List ℕ) → numbers_of cs ≡ ns → numbers_of (cons_option (call_as j k o) cs) ≡ (if is_some (call_as j k o) then k ∷ ns else ns)
numbers_as j k None cs ns e = e
numbers_as j k (Some a) cs ns e = elim (cases_Bool (waits j k || runs j k)) [ inl c ↦ rw c (ap (λ ms. k ∷ ms) e) | inr c ↦ rw c e ]

numbers_open : (j : History) (ks : List ℕ) → numbers_of (filter_map (call_in j) ks) ≡ filter (is_active j) ks
numbers_open j [] = refl
numbers_open j (k ∷ ks) = numbers_as j k (asked j k) (filter_map (call_in j) ks) (filter (is_active j) ks) (numbers_open j ks)

open_numbers : (j : History) → numbers_of (open_calls j) ≡ reverse (filter (is_active j) (accepted j))
open_numbers j = numbers_open j (reverse (accepted j)) ∙ sym (filter_turned (is_active j) (accepted j))

-- what holds of all calls that wait or run
abbrev pub OfOpen : (BaseCall → Bool) → History → Type 0
OfOpen p j = (k : ℕ) (a : Asked) → asked j k ≡ Some a → (waits j k || runs j k) ≡ true → p (call_of j k a) ≡ true

all_as : (p : BaseCall → Bool) (j : History) (k : ℕ) (o : Option Asked) (cs : List BaseCall) → OfOpen p j → asked j k ≡ o → list_all p cs ≡ true → list_all p (cons_option (call_as j k o) cs) ≡ true
all_as p j k None cs h e a = a
all_as p j k (Some b) cs h e a =
    elim (cases_Bool (waits j k || runs j k)) [
      | inl c ↦ let here = h k b e c in rw c (rw here a)
      | inr c ↦ rw c a
    ]

all_open : (p : BaseCall → Bool) (j : History) (ks : List ℕ) → OfOpen p j → list_all p (filter_map (call_in j) ks) ≡ true
all_open p j [] h = refl
all_open p j (k ∷ ks) h = all_as p j k (asked j k) (filter_map (call_in j) ks) h refl (all_open p j ks h)

-- and of all that run
abbrev pub OfRunning : (BaseCall → Bool) → History → Type 0
OfRunning p j = (k : ℕ) (a : Asked) → asked j k ≡ Some a → runs j k ≡ true → p (call_of j k a) ≡ true

abbrev pub is_taken_one : BaseCall → Bool
is_taken_one c = c.taken

ran_as : (p : BaseCall → Bool) (j : History) (k : ℕ) (o : Option Asked) (cs : List BaseCall) → OfRunning p j → asked j k ≡ o → list_all p (filter is_taken_one cs) ≡ true → list_all p (filter is_taken_one (cons_option (call_as j k o) cs)) ≡ true
ran_as p j k None cs h e a = a
ran_as p j k (Some b) cs h e a =
    elim (cases_Bool (runs j k)) [
      | inl r ↦ let c : (waits j k || runs j k) ≡ true = or_right (waits j k) (runs j k) r in let here = rw r at (h k b e r) in rw c (rw r (rw here a))
      | inr r ↦ elim (cases_Bool (waits j k)) [ inl w ↦ rw (w, r) a | inr w ↦ rw (w, r) a ]
    ]

all_ran : (p : BaseCall → Bool) (j : History) (ks : List ℕ) → OfRunning p j → list_all p (filter is_taken_one (filter_map (call_in j) ks)) ≡ true
all_ran p j [] h = refl
all_ran p j (k ∷ ks) h = ran_as p j k (asked j k) (filter_map (call_in j) ks) h refl (all_ran p j ks h)

asked_slots : (j : History) (k : ℕ) (a : Asked) → asked j k ≡ Some a → slots j k ≡ a.slots
asked_slots j k a e = rw e refl

-- CONNECTIONS OF CALLS

pub conn_since : (home : Home) (base : Base) (past : List Entry) (k : ℕ) (a : Asked) → Legal (since home base past) → asked (since home base past) k ≡ Some a → a.conn ≤ join_count (since home base past)
conn_since home base [] k a l e =
    let w = found_call base k a e in
    let f = found_passes (is_within base) base.calls k w.call l.within w.found in
    let le = leb-true w.call.asked.conn base.joins (and_right (nat_le (length w.call.asked.slots) 4) (nat_le w.call.asked.conn base.joins) f) in
    subst (λ (b : Asked). b.conn ≤ base.joins) w.asks le
conn_since home base (Accept m b ∷ past) k a l e =
    elim (eqb_tells m k) [
      | inl q ↦
          let same : b ≡ a = (let f = rw q.0 at e in cc) in
          let low = joined_within home base past b.conn l.1 (and_left _ _ l.0.fits.1) in
          subst (λ (x : Asked). x.conn ≤ join_count (since home base past)) same low
      | inr q ↦ conn_since home base past k a l.1 (rw q.0 at e)
    ]
conn_since home base (e ∷ past) k a l h = let low = conn_since home base past k a l.1 h in grown e low
  where
    grown : (e : Entry) → a.conn ≤ join_count (since home base past) → a.conn ≤ join_count (since home base (e ∷ past))
    grown e le = grind (arith, common_steps)

open_before : (j : History) (c : ℕ) → is_open j c ≡ true → has_conn (base_of j) c ≡ true
open_before j c o = list_any-reverse (is_number c) (conns j) ∙ (open_listed j c ∙ o)

fresh_one : (j : History) → Legal j → OfOpen (is_fresh (base_of j)) j
fresh_one j l k a e c =
    elim (cases_Bool (runs j k)) [
      | inl r ↦ rw r refl
      | inr r ↦
          let w : waits j k ≡ true = elim (or_cases (waits j k) (runs j k) c) [ inl x ↦ x | inr x ↦ absurd (cc) ] in
          let o = open_before j a.conn (waits_open j k a l e w) in
          let undecided : is_decided j k ≡ false = grind (arith, common_steps) in
          let uncancelled : is_cancelled j k ≡ false = false_from_ne_true (is_cancelled j k) (λ t. let d = cancels_decided j k l t in cc) in
          let unorphaned : is_orphaned j k ≡ false = false_from_ne_true (is_orphaned j k) (λ t. let d = orphans_decided j k l t in cc) in
          rw (r, o, uncancelled, unorphaned) refl
    ]

within_one : (j : History) → Legal j → OfOpen (is_within (base_of j)) j
within_one j l k a e c =
    let few : length a.slots ≤ 4 = subst (λ (ss : List Slot). length ss ≤ 4) (asked_slots j k a e) (slots_few j.home j.base j.past k l) in
    let x = le-leb (length a.slots) 4 few in
    let y = le-leb a.conn (join_count j) (conn_since j.home j.base j.past k a l e) in rw (x, y) refl

-- RUNNING CALLS

abbrev pub OtherThan : (BaseCall → Bool) → History → List ℕ → Type 0
OtherThan q j ks = (m : ℕ) (b : Asked) → has m ks ≡ true → asked j m ≡ Some b → runs j m ≡ true → q (call_of j m b) ≡ false

none_as : (q : BaseCall → Bool) (j : History) (k : ℕ) (o : Option Asked) (ks : List ℕ) (cs : List BaseCall) → OtherThan q j (k ∷ ks) → asked j k ≡ o → list_any q (filter is_taken_one cs) ≡ false → list_any q (filter is_taken_one (cons_option (call_as j k o) cs)) ≡ false
none_as q j k None ks cs h e n = n
none_as q j k (Some b) ks cs h e n =
    elim (cases_Bool (runs j k)) [
      | inl r ↦
          let c : (waits j k || runs j k) ≡ true = or_right (waits j k) (runs j k) r in
          let s = self k in
          let here = rw r at (h k b (rw s refl) e r) in rw c (rw r (rw here n))
      | inr r ↦ elim (cases_Bool (waits j k)) [ inl w ↦ rw (w, r) n | inr w ↦ rw (w, r) n ]
    ]

none_ran : (q : BaseCall → Bool) (j : History) (ks : List ℕ) → OtherThan q j ks → list_any q (filter is_taken_one (filter_map (call_in j) ks)) ≡ false
none_ran q j [] h = refl
none_ran q j (k ∷ ks) h = none_as q j k (asked j k) ks (filter_map (call_in j) ks) h refl (none_ran q j ks (λ m b i. h m b (or_right (k == m) (has m ks) i)))

clash_none : (j : History) (k m : ℕ) (a b : Asked) → Legal j → asked j k ≡ Some a → asked j m ≡ Some b → runs j k ≡ true → runs j m ≡ true → k ≢ m → conflicts_with (call_of j k a) (call_of j m b) ≡ false
clash_none j k m a b l e f r s n = let apart = running_apart j k m l r s n in rw (asked_slots j k a e, asked_slots j m b f) at apart

above_not : (k m : ℕ) (ks : List ℕ) → rise_above k ks ≡ true → has m ks ≡ true → k ≢ m
above_not k m [] r i e = absurd (cc)
above_not k m (x ∷ ks) r i e =
    let up = ltb-true k x (and_left (nat_lt k x) (rise_above x ks) r) in
    elim (eqb_tells x m) [
      | inl q ↦ let same = q.1 in omega (arith, up, same, e)
      | inr q ↦ let more = above_not x m ks (and_right (nat_lt k x) (rise_above x ks) r) (rw q.0 at i) in above_far k x m ks up (and_right (nat_lt k x) (rise_above x ks) r) (rw q.0 at i) e
    ]
  where
    above_far : (k x m : ℕ) (ks : List ℕ) → k < x → rise_above x ks ≡ true → has m ks ≡ true → k ≡ m → ⊥
    above_far k x m [] lt r i e = absurd (cc)
    above_far k x m (y ∷ ks) lt r i e =
        let up = ltb-true x y (and_left (nat_lt x y) (rise_above y ks) r) in
        elim (eqb_tells y m) [
          | inl q ↦ let same = q.1 in omega (arith, up, lt, same, e)
          | inr q ↦ above_far k y m ks (omega (arith, up, lt)) (and_right (nat_lt x y) (rise_above y ks) r) (rw q.0 at i) e
        ]

rise_next : (k : ℕ) (ks : List ℕ) → rise_above k ks ≡ true → rise ks ≡ true
rise_next k [] r = refl
rise_next k (x ∷ ks) r = and_right (nat_lt k x) (rise_above x ks) r

apart_as : (j : History) (k : ℕ) (o : Option Asked) (ks : List ℕ) → Legal j → rise_above k ks ≡ true → asked j k ≡ o → are_apart (filter is_taken_one (filter_map (call_in j) ks)) ≡ true → are_apart (filter is_taken_one (cons_option (call_as j k o) (filter_map (call_in j) ks))) ≡ true
apart_as j k None ks l r e p = p
apart_as j k (Some a) ks l r e p =
    elim (cases_Bool (runs j k)) [
      | inl s ↦
          let c : (waits j k || runs j k) ≡ true = or_right (waits j k) (runs j k) s in
          let none = none_ran (conflicts_with (call_of j k a)) j ks (λ m b i f t. clash_none j k m a b l e f s t (above_not k m ks r i)) in
          rw c (rw s (rw none p))
      | inr s ↦ elim (cases_Bool (waits j k)) [ inl w ↦ rw (w, s) p | inr w ↦ rw (w, s) p ]
    ]

apart_all : (j : History) (ks : List ℕ) → Legal j → rise ks ≡ true → are_apart (filter is_taken_one (filter_map (call_in j) ks)) ≡ true
apart_all j [] l r = refl
apart_all j (k ∷ ks) l r = apart_as j k (asked j k) ks l r refl (apart_all j ks l (rise_next k ks r))

names_one : (j : History) → Legal j → OfRunning (λ (c : BaseCall). names_apart c.asked.slots) j
names_one j l k a e r = subst (λ ss. names_apart ss ≡ true) (asked_slots j k a e) (unrepeated_apart (slots j k) (running_unrepeated j k l r))

-- HANDLES

found_passing : (q p : DueItem → Bool) (items : List DueItem) (x : DueItem) → find q items ≡ Some x → p x ≡ true → list_any p items ≡ true
found_passing q p [] x e t = absurd (cc)
found_passing q p (i ∷ items) x e t =
    elim (cases_Bool (q i)) [
      | inl s ↦ let same : i ≡ x = (let f = rw s at e in cc) in let u : p i ≡ true = ap p same ∙ t in rw u refl
      | inr s ↦ or_right (p i) (list_any p items) (found_passing q p items x (rw s at e) t)
    ]

kind_back : (o : Option ℕ) (wanted : ℕ) → is_kind o wanted ≡ true → (unwrap_or o 0 == wanted) ≡ true
kind_back None wanted h = absurd (cc)
kind_back (Some k) wanted h = h

known_live : (j : History) (s : Slot) (h : ℕ) → Legal j → serial_named j s ≡ Some h → (is_live j h && is_kind (kind j h) (kind_of s)) ≡ true → list_any (is_item_for j.home s) (due_items j) ≡ true
known_live j s h l e u =
    let v = and_left (is_live j h) (is_kind (kind j h) (kind_of s)) u in
    let k = kind_back (kind j h) (kind_of s) (and_right (is_live j h) (is_kind (kind j h) (kind_of s)) u) in
    let n = serial_named_is j.home j.base j.past s h e in
    let there : item_at (due_items j) h ≡ Some (due_item j h) = due_item_at j h l ∙ rw v refl in
    found_passing (is_item_of h) (is_item_for j.home s) (due_items j) (due_item j h) there (rw (n, k) refl)

known_as : (j : History) (s : Slot) (o : Option ℕ) → Legal j → serial_named j s ≡ o → is_usable_as j (kind_of s) o ≡ true → list_any (is_item_for j.home s) (due_items j) ≡ true
known_as j s None l e u = absurd (cc)
known_as j s (Some h) l e u = known_live j s h l e u

known_all : (j : History) (ss : List Slot) → Legal j → AllUsable j ss → list_all (is_known j.home (base_of j)) ss ≡ true
known_all j [] l u = refl
known_all j (s ∷ ss) l u =
    let here : is_known j.home (base_of j) s ≡ true =
    elim (cases_Bool (is_some (named s))) [
      | inl n ↦ let k = known_as j s (serial_named j s) l refl (u.0 n) in rw (n, k) refl
      | inr n ↦ rw n refl
    ] in rw here (known_all j ss l u.1)

known_one : (j : History) → Legal j → OfRunning (λ (c : BaseCall). list_all (is_known j.home (base_of j)) c.asked.slots) j
known_one j l k a e r = subst (λ ss. list_all (is_known j.home (base_of j)) ss ≡ true) (asked_slots j k a e) (known_all j (slots j k) l (named_live j k l r))

serials_back : (j : History) (hs : List ℕ) → serials_of (map (due_item j) hs) ≡ hs
serials_back j [] = refl
serials_back j (h ∷ hs) = ap (λ ns. h ∷ ns) (serials_back j hs)

append_none : (xs : List ℕ) → xs ++ [] ≡ xs
append_none [] = refl
append_none (x ∷ xs) = ap (λ ys. x ∷ ys) (append_none xs)

parted : (p : ℕ → Bool) (n : ℕ) → filter p (numbers (suc n)) ≡ filter p (numbers n) ++ filter p (suc n ∷ [])
parted p n = filter-append p (numbers n) (suc n ∷ [])

numbered : (p : ℕ → Bool) (n m : ℕ) → has m (filter p (numbers n)) ≡ true → m ≤ n
numbered p zero m i = absurd (cc)
numbered p (suc n) m i =
    let parts = sym (ap (has m) (parted p n) ∙ list_any-append (is_number m) (filter p (numbers n)) (filter p (suc n ∷ []))) ∙ i in
    elim (or_cases (has m (filter p (numbers n))) (has m (filter p (suc n ∷ []))) parts) [
      | inl x ↦ let low = numbered p n m x in omega (arith, low)
      | inr y ↦ elim (cases_Bool (p (suc n))) [
        | inl t ↦ let f : ((suc n == m) || false) ≡ true = rw t at y in elim (or_cases (suc n == m) false f) [ inl q ↦ let same = eqb-true (suc n) m q in omega (arith, same) | inr q ↦ absurd (cc) ]
        | inr t ↦ absurd (let f = rw t at y in cc)
      ]
    ]

numbers_rise : (p : ℕ → Bool) (n : ℕ) → rise_above 0 (filter p (numbers n)) ≡ true
numbers_rise p zero = refl
numbers_rise p (suc n) =
    subst (λ xs. rise_above 0 xs ≡ true) (sym (parted p n)) (elim (cases_Bool (p (suc n))) [
      | inl t ↦ rw t (above_last 0 (suc n) (filter p (numbers n)) (numbers_rise p n) (omega arith) (λ m i. let low = numbered p n m i in omega (arith, low)))
      | inr t ↦ rw (t, append_none (filter p (numbers n))) (numbers_rise p n)
    ])

-- SERIALS THAT MAY YET BE ISSUED

listed_opens : (h : ℕ) (ss : List Slot) → has h (filter_map serial_of ss) ≡ true → any_opens h ss ≡ true
listed_opens h [] i = absurd (cc)
listed_opens h (Opens t serial ∷ ss) i =
    elim (or_cases (serial == h) (has h (filter_map serial_of ss)) i) [
      | inl e ↦ rw e refl
      | inr r ↦ or_right (serial == h) (any_opens h ss) (listed_opens h ss r)
    ]
listed_opens h (_ ∷ ss) i = listed_opens h ss i

-- a serial of one of these calls
pub record OpenedBy (j : History) (ks : List ℕ) (h : ℕ) : Type 0 where
  pub call : ℕ
  pub among : has call ks ≡ true
  pub active : (waits j call || runs j call) ≡ true
  pub opens_it : any_opens h (slots j call) ≡ true

opened_as : (j : History) (k h : ℕ) (o : Option Asked) (ks : List ℕ) → asked j k ≡ o → has h (opening (cons_option (call_as j k o) (filter_map (call_in j) ks))) ≡ true → (has h (opening (filter_map (call_in j) ks)) ≡ true → OpenedBy j ks h) → OpenedBy j (k ∷ ks) h
opened_as j k h None ks e i f = let w = f i in record { call = w.call; among = or_right (k == w.call) (has w.call ks) w.among; active = w.active; opens_it = w.opens_it }
opened_as j k h (Some a) ks e i f =
    elim (cases_Bool (waits j k || runs j k)) [
      | inl c ↦
          let parts : (has h (filter_map serial_of a.slots) || has h (opening (filter_map (call_in j) ks))) ≡ true = sym (list_any-append (is_number h) (filter_map serial_of a.slots) (opening (filter_map (call_in j) ks))) ∙ (rw c at i) in
          elim (or_cases (has h (filter_map serial_of a.slots)) (has h (opening (filter_map (call_in j) ks))) parts) [
            | inl x ↦
                let s = self k in
                let o = subst (λ ss. any_opens h ss ≡ true) (sym (asked_slots j k a e)) (listed_opens h a.slots x) in
                record { call = k; among = rw s refl; active = c; opens_it = o }
            | inr y ↦ let w = f y in record { call = w.call; among = or_right (k == w.call) (has w.call ks) w.among; active = w.active; opens_it = w.opens_it }
          ]
      | inr c ↦ let w = f (rw c at i) in record { call = w.call; among = or_right (k == w.call) (has w.call ks) w.among; active = w.active; opens_it = w.opens_it }
    ]

opened_by : (j : History) (h : ℕ) (ks : List ℕ) → has h (opening (filter_map (call_in j) ks)) ≡ true → OpenedBy j ks h
opened_by j h [] i = absurd (cc)
opened_by j h (k ∷ ks) i = opened_as j k h (asked j k) ks refl i (opened_by j h ks)

differ_both : (xs ys : List ℕ) → differ xs ≡ true → differ ys ≡ true → ((h : ℕ) → has h xs ≡ true → has h ys ≡ false) → differ (xs ++ ys) ≡ true
differ_both [] ys d e n = e
differ_both (x ∷ xs) ys d e n =
    let s = self x in
    let off = n x (rw s refl) in
    let mine : has x xs ≡ false = false_from_ne_true (has x xs) (λ t. let f = and_left (not (has x xs)) (differ xs) d in let g = rw t at f in cc) in
    let here : has x (xs ++ ys) ≡ false = list_any-append (is_number x) xs ys ∙ rw (mine, off) refl in
    rw here (differ_both xs ys (and_right (not (has x xs)) (differ xs) d) e (λ h i. n h (or_right (x == h) (has h xs) i)))

differ_as : (j : History) (k : ℕ) (o : Option Asked) (ks : List ℕ) → Legal j → rise_above k ks ≡ true → asked j k ≡ o → differ (opening (filter_map (call_in j) ks)) ≡ true → differ (opening (cons_option (call_as j k o) (filter_map (call_in j) ks))) ≡ true
differ_as j k None ks l r e d = d
differ_as j k (Some a) ks l r e d =
    elim (cases_Bool (waits j k || runs j k)) [
      | inl c ↦
          let own = subst (λ ss. differ (filter_map serial_of ss) ≡ true) (asked_slots j k a e) (serials_differ j k l) in
          rw c (differ_both (filter_map serial_of a.slots) (opening (filter_map (call_in j) ks)) own d (λ h i.
          false_from_ne_true (has h (opening (filter_map (call_in j) ks))) (λ t.
          let w = opened_by j h ks t in
          let mine = subst (λ ss. any_opens h ss ≡ true) (sym (asked_slots j k a e)) (listed_opens h a.slots i) in
          above_not k w.call ks r w.among (opens_once j.home j.base j.past h k w.call l mine w.opens_it))))
      | inr c ↦ rw c d
    ]

differ_all : (j : History) (ks : List ℕ) → Legal j → rise ks ≡ true → differ (opening (filter_map (call_in j) ks)) ≡ true
differ_all j [] l r = refl
differ_all j (k ∷ ks) l r = differ_as j k (asked j k) ks l r refl (differ_all j ks l (rise_next k ks r))

all_passing : (p : ℕ → Bool) (ns : List ℕ) → ((h : ℕ) → has h ns ≡ true → p h ≡ true) → list_all p ns ≡ true
all_passing p [] e = refl
all_passing p (n ∷ ns) e =
    let s = self n in
    let here = e n (rw s refl) in rw here (all_passing p ns (λ m i. e m (or_right (n == m) (has m ns) i)))

-- a call that waits or runs has not ended
not_ended : (j : History) (k : ℕ) → Legal j → (waits j k || runs j k) ≡ true → list_any (ends k) j.past ≡ true → ⊥
not_ended j k l c e =
    elim (or_cases (waits j k) (runs j k) c) [
      | inl w ↦ let d = taken_decided j k (ended_taken j k l e) in let f : waits j k ≡ false = grind (arith, common_steps) in cc
      | inr r ↦ let n = and_right (is_taken j k) (not (list_any (ends k) j.past)) r in let f = rw e at n in cc
    ]

-- so its serials are not live
not_live : (j : History) (k h : ℕ) → Legal j → (waits j k || runs j k) ≡ true → any_opens h (slots j k) ≡ true → is_live j h ≡ true → ⊥
not_live j k h l c o v =
    elim (issued_by j.home j.base j.past h l (live_issued j h v)) [
      | inl b ↦ let off = opens_free j.home j.base j.past k h l o in cc
      | inr i ↦
          let same = opens_once j.home j.base j.past h i.call k l i.opened_it o in
          not_ended j k l c (subst (λ n. list_any (ends n) j.past ≡ true) same i.ended)
    ]

item_live : (j : History) (h : ℕ) (o : Option DueItem) → live_item j h ≡ o → item_at (due_items j) h ≡ o → list_any (is_item_of h) (due_items j) ≡ true → is_live j h ≡ true
item_live j h o e f i =
    elim (cases_Bool (is_live j h)) [
      | inl v ↦ v
      | inr v ↦ absurd (let none : item_at (due_items j) h ≡ None = f ∙ (sym e ∙ rw v refl) in none_found (due_items j) none i)
    ]
  where
    none_found : (items : List DueItem) → item_at items h ≡ None → list_any (is_item_of h) items ≡ true → ⊥
    none_found [] e i = absurd (cc)
    none_found (x ∷ items) e i =
        elim (cases_Bool (is_item_of h x)) [
          | inl t ↦ let f = rw t at e in cc
          | inr t ↦ none_found items (rw t at e) (rw t at i)
        ]

free_one : (j : History) (h : ℕ) → Legal j → has h (opening (open_calls j)) ≡ true → has_item (base_of j) h ≡ false
free_one j h l i =
    let w = opened_by j h (reverse (accepted j)) i in
    false_from_ne_true (has_item (base_of j) h) (λ t. not_live j w.call h l w.active w.opens_it (item_live j h (live_item j h) refl (due_item_at j h l) t))

-- HELD

any_taken : (j : History) (k : ℕ) (o : Option Asked) (cs : List BaseCall) (rows : List Row) → list_any is_taken_one cs ≡ list_any is_running rows → list_any is_taken_one (cons_option (call_as j k o) cs) ≡ list_any is_running (cons_option (row_as j k o) rows)
any_taken j k None cs rows e = e
any_taken j k (Some a) cs rows e = elim (cases_Bool (waits j k || runs j k)) [ inl c ↦ rw c (ap (λ b. runs j k || b) e) | inr c ↦ rw c e ]

taken_rows : (j : History) (ks : List ℕ) → list_any is_taken_one (filter_map (call_in j) ks) ≡ list_any is_running (filter_map (row_in j) ks)
taken_rows j [] = refl
taken_rows j (k ∷ ks) = any_taken j k (asked j k) (filter_map (call_in j) ks) (filter_map (row_in j) ks) (taken_rows j ks)

counted_any : (p : BaseCall → Bool) (cs : List BaseCall) → nat_lt 0 (length (filter p cs)) ≡ list_any p cs
counted_any p [] = refl
counted_any p (c ∷ cs) =
    elim (cases_Bool (p c)) [
      | inl t ↦ rw t (lt-ltb 0 (length (c ∷ filter p cs)) (omega arith))
      | inr t ↦ rw t (counted_any p cs)
    ]

counted_none : (ns : List ℕ) → nat_lt 0 (length (reverse ns)) ≡ false → is_empty ns ≡ true
counted_none [] h = refl
counted_none (n ∷ ns) h =
    let longer : 0 < length (reverse (n ∷ ns)) = grind (arith, common_steps) in
    let t = lt-ltb 0 (length (reverse (n ∷ ns))) longer in absurd (cc)

or_none : (a b : Bool) → (a || b) ≡ false → (a ≡ false) × (b ≡ false)
or_none true b h = absurd (cc)
or_none false b h = (refl, h)

held_joined : (j : History) → Legal j → list_any is_shut j.past ≡ false → due j ≡ false → 0 < join_count j → is_held (base_of j) ≡ false → ⊥
held_joined j l u d lt h =
    let parts = or_none (nat_lt 0 (length (reverse (conns j)))) (nat_lt 0 (length (taken_calls (base_of j)))) h in
    let no_conn = counted_none (conns j) parts.0 in
    let no_row : list_any is_running (rows_of j) ≡ false = sym (taken_rows j (reverse (accepted j))) ∙ (sym (counted_any is_taken_one (open_calls j)) ∙ parts.1) in
    let idle : is_empty (running j) ≡ true = (let e = sym (idle_shown j l) ∙ no_row in elim (cases_Bool (is_empty (running j))) [ inl t ↦ t | inr t ↦ absurd (let f = rw t at e in cc) ]) in
    let some : (join_count j == 0) ≡ false = elim (eqb_tells (join_count j) 0) [ inl e ↦ let same = e.1 in absurd (omega (arith, lt, same)) | inr e ↦ e.0 ] in
    let on : due j ≡ true = rw (some, u, no_conn, idle) refl in cc

held_base : (j : History) → Legal j → list_any is_shut j.past ≡ false → due j ≡ false → HasBegun j → is_held (base_of j) ≡ false → base_of j ≡ empty_base
held_base j l u d b h = elim b [ inl lt ↦ absurd (held_joined j l u d lt h) | inr e ↦ ap base_of e ]

-- THE BASE

pub base_sound : (j : History) → Legal j → list_any is_shut j.past ≡ false → due j ≡ false → HasBegun j → IsSoundBase j.home (base_of j)
base_sound j l u d b =
    let ks = reverse (accepted j) in
    let falls = accepted_falls j l in
    let kept = falls_filter (is_active j) (accept_count j + 1) 0 (accepted j) falls in
    let joins = falls_filter (is_open j) (join_count j + 1) 0 (joined j) (falls_since j.home j.base j.past l) in
    let rising = falls_rise (accept_count j + 1) 0 (accepted j) falls in
    record {
      joins_small = joined_small j.home j.base j.past l;
      accepts_small = accepted_small j.home j.base j.past l;
      opens_small = opened_small j.home j.base j.past l;
      conns_rise = falls_rise (join_count j + 1) 0 (conns j) joins;
      conns_within = falls_most (join_count j) 0 (conns j) joins;
      calls_rise = subst (λ ns. rise ns ≡ true) (sym (open_numbers j)) (falls_rise (accept_count j + 1) 0 (filter (is_active j) (accepted j)) kept);
      calls_within = subst (λ ns. at_most (accept_count j) ns ≡ true) (sym (open_numbers j)) (falls_most (accept_count j) 0 (filter (is_active j) (accepted j)) kept);
      fresh = all_open (is_fresh (base_of j)) j ks (fresh_one j l);
      within = all_open (is_within (base_of j)) j ks (within_one j l);
      apart = apart_all j ks l rising;
      names_once = all_ran (λ (c : BaseCall). names_apart c.asked.slots) j ks (names_one j l);
      known = all_ran (λ (c : BaseCall). list_all (is_known j.home (base_of j)) c.asked.slots) j ks (known_one j l);
      serials_rise = subst (λ ns. rise_above 0 ns ≡ true) (sym (serials_back j (live j))) (numbers_rise (is_live j) (opened j));
      serials_within = subst (λ ns. at_most (opened j) ns ≡ true) (sym (serials_back j (live j))) (at_most_of (opened j) (live j) (numbered (is_live j) (opened j)));
      openings_differ = differ_all j ks l rising;
      openings_counted = all_passing (nat_lt 0) (opening (open_calls j)) (λ h i. let w = opened_by j h ks i in lt-ltb 0 h (opens_within j.home j.base j.past w.call h l w.opens_it).0);
      openings_within = at_most_of (opened j) (opening (open_calls j)) (λ h i. let w = opened_by j h ks i in (opens_within j.home j.base j.past w.call h l w.opens_it).1);
      openings_free = all_passing (λ n. not (has_item (base_of j) n)) (opening (open_calls j)) (λ h i. let f = free_one j h l i in rw f refl);
      held = held_base j l u d b;
    }
