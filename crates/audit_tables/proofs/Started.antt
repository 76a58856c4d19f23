-- Tables that are made of a base: its lists rise, so each value comes last.
use Rattle.std.proofs.Common.{◌≡◌, ℕ, ◌+◌, ◌<◌, ◌≤◌, ◌^◌, Bool, true, false, not, ◌==◌, nat_lt, None, List, [], ◌∷◌, ◌++◌, map, drop, length, get_or, append_assoc, refl, sym, ◌∙◌, ap, subst, arith, inl, inr}
use Rattle.std.specs.List.{filter, find, list_any}
use Rattle.std.proofs.lemmas.Bool.{cases_Bool, or_parts, or_from, not-true, not-false, not_from_true, lt-ltb, ltb-true}
use Rattle.std.proofs.lemmas.Bool.Decides.{nat_tests}
use Rattle.handle_model.specs.declared.entry.Home.{Home}
use Rattle.handle_model.specs.declared.entry.DueItem.{DueItem}
use Rattle.handle_model.specs.declared.entry.Slot.{Slot}
use Rattle.handle_model.specs.declared.base.BaseCall.{BaseCall}
use Rattle.handle_model.specs.declared.base.Base.{Base}
use Rattle.handle_model.specs.Sound.{IsSoundBase, rise_above, rise}
use Rattle.handle_model.proofs.Held.{and_left, and_right}
use Rattle.handle_model.proofs.Rest.{rest_more}
use Rattle.handle_table.specs.Kept as handle_kept
use Rattle.handle_table.specs.Handles.{with_item}
use Rattle.handle_table.proofs.Started.{items_rise}
use Rattle.call_table.specs.declared.row.Row.{Row}
use Rattle.call_table.specs.Kept.{Rises}
use Rattle.call_table.specs.Rows.{row_at}
use Rattle.call_table.specs.Rows as calls
use Rattle.call_table.specs.Shown.{base_row, base_rows}
use Rattle.call_table.proofs.Started.{base_rises}
use Rattle.journal_tables.specs.declared.conns.OpenConn.{OpenConn}
use Rattle.journal_tables.specs.Shown.{base_conn}
use Rattle.audit_tables.specs.Calls.{call_of, with_row}
use Rattle.audit_tables.specs.Conns.{number_of, over}
use Rattle.audit_tables.specs.Handles.{serial_of}
use Rattle.audit_tables.proofs.Keyed.{is, below, over_below, over_above}

module _ {X : Type 0} (number : X → ℕ) where
  -- the numbers rise from this one on
  abbrev pub Up : ℕ → List X → Type 0
  Up low [] = Unit {0}
  Up low (x ∷ xs) = (low ≤ number x) × Up (number x + 1) xs

  up_low : (low : ℕ) (xs : List X) (x : X) (ys : List X) → Up low (xs ++ x ∷ ys) → low ≤ number x
  up_low low [] x ys u = u.0
  up_low low (y ∷ xs) x ys u =
      let more = up_low (number y + 1) xs x ys u.1 in
      let first = u.0 in omega arith

  -- those before a value are below it
  pub front_over : (low : ℕ) (xs : List X) (x : X) (ys : List X) → Up low (xs ++ x ∷ ys) → list_any (λ y. not (below number (number x) y)) xs ≡ false
  front_over low [] x ys u = refl
  front_over low (y ∷ xs) x ys u =
      let more = up_low (number y + 1) xs x ys u.1 in
      let t : below number (number x) y ≡ true = lt-ltb (number y) (number x) (omega arith) in
      or_from (not (below number (number x) y)) (list_any (λ z. not (below number (number x) z)) xs) (not_from_true (below number (number x) y) t) (front_over (number y + 1) xs x ys u.1)

  pub not_there : (k : ℕ) (xs : List X) → list_any (λ y. not (below number k y)) xs ≡ false → find (is number k) xs ≡ None
  not_there k [] h = refl
  not_there k (y ∷ xs) h =
      let p = or_parts (not (below number k y)) (list_any (λ z. not (below number k z)) xs) h in
      let lt = ltb-true (number y) k (not-false (below number k y) p.0) in
      let f : is number k y ≡ false = grind (arith, nat_tests) in
      rw f (not_there k xs p.1)

-- ROWS

rows_up : (low : ℕ) (rows : List Row) → Rises low rows → Up call_of low rows
rows_up low [] r = tt
rows_up low (x ∷ rows) r = (r.0, rows_up (x.call + 1) rows r.2)

-- the rows that stand yet, the next one, and those behind it
pub row_over : (home : Home) (base : Base) (xs : List Row) (r : Row) (ys : List Row) → IsSoundBase home base → xs ++ r ∷ ys ≡ base_rows base → list_any (λ y. not (below call_of r.call y)) xs ≡ false
row_over home base xs r ys s e = front_over call_of 0 xs r ys (subst (Up call_of 0) (sym e) (rows_up 0 (base_rows base) (base_rises home base s)))

pub row_new : (home : Home) (base : Base) (xs : List Row) (r : Row) (ys : List Row) → IsSoundBase home base → xs ++ r ∷ ys ≡ base_rows base → row_at xs r.call ≡ None
row_new home base xs r ys s e = not_there call_of r.call xs (row_over home base xs r ys s e)

pub row_last : (home : Home) (base : Base) (xs : List Row) (r : Row) (ys : List Row) → IsSoundBase home base → xs ++ r ∷ ys ≡ base_rows base → with_row r xs ≡ xs ++ r ∷ []
row_last home base xs r ys s e =
    let o = row_over home base xs r ys s e in
    ap (λ zs. zs ++ r ∷ filter (λ (x : Row). nat_lt r.call x.call) xs) (over_below call_of r.call xs o) ∙ ap (λ zs. xs ++ r ∷ zs) (over_above call_of r.call xs o)

-- a row above all comes last
last_row : (r : Row) (xs : List Row) → list_any (λ y. not (below call_of r.call y)) xs ≡ false → with_row r xs ≡ xs ++ r ∷ []
last_row r xs o =
    ap (λ zs. zs ++ r ∷ filter (λ (x : Row). nat_lt r.call x.call) xs) (over_below call_of r.call xs o) ∙ ap (λ zs. xs ++ r ∷ zs) (over_above call_of r.call xs o)

-- and isn't there before
not_over : (k : ℕ) (xs : List Row) → calls.over k xs ≡ true → list_any (λ y. not (below call_of k y)) xs ≡ false
not_over k xs h = not-true (list_any (λ y. not (below call_of k y)) xs) h

pub over_new : (k : ℕ) (xs : List Row) → calls.over k xs ≡ true → row_at xs k ≡ None
over_new k xs h = not_there call_of k xs (not_over k xs h)

pub over_last : (r : Row) (xs : List Row) → calls.over r.call xs ≡ true → with_row r xs ≡ xs ++ r ∷ []
over_last r xs h = last_row r xs (not_over r.call xs h)

-- CONNECTIONS

conns_up : (place n : ℕ) (ns : List ℕ) → rise_above n ns ≡ true → Up number_of (n + 1) (map (base_conn place) ns)
conns_up place n [] h = tt
conns_up place n (m ∷ ns) h =
    let low = ltb-true n m (and_left (nat_lt n m) (rise_above m ns) h) in
    (omega arith, conns_up place m ns (and_right (nat_lt n m) (rise_above m ns) h))

base_conns_up : (place : ℕ) (ns : List ℕ) → rise ns ≡ true → Up number_of 0 (map (base_conn place) ns)
base_conns_up place [] h = tt
base_conns_up place (n ∷ ns) h = (omega arith, conns_up place n ns h)

over_is : (b : Bool) → b ≡ false → not b ≡ true
over_is true h = absurd (cc)
over_is false h = refl

pub conn_over : (home : Home) (base : Base) (xs : List OpenConn) (c : OpenConn) (ys : List OpenConn) → IsSoundBase home base → xs ++ c ∷ ys ≡ map (base_conn base.count) base.conns → over c.conn xs ≡ true
conn_over home base xs c ys s e =
    over_is (list_any (λ y. not (below number_of c.conn y)) xs) (front_over number_of 0 xs c ys (subst (Up number_of 0) (sym e) (base_conns_up base.count base.conns s.conns_rise)))

-- HANDLES

items_up : (low : ℕ) (items : List DueItem) → handle_kept.Rises low items → Up serial_of low items
items_up low [] r = tt
items_up low (i ∷ items) r = (r.0, items_up (i.serial + 1) items r.2)

pub item_last : (home : Home) (base : Base) (xs : List DueItem) (i : DueItem) (ys : List DueItem) → IsSoundBase home base → xs ++ i ∷ ys ≡ base.handles → with_item i xs ≡ xs ++ i ∷ []
item_last home base xs i ys s e =
    let up = items_up 0 base.handles (items_rise base.opens base.handles s.serials_rise s.serials_within s.opens_small) in
    let o = front_over serial_of 0 xs i ys (subst (Up serial_of 0) (sym e) up) in
    ap (λ zs. zs ++ i ∷ filter (λ (x : DueItem). nat_lt i.serial x.serial) xs) (over_below serial_of i.serial xs o) ∙ ap (λ zs. xs ++ i ∷ zs) (over_above serial_of i.serial xs o)

-- ONE MORE

-- the row that is made of a call of the base
pub row_like : (count place : ℕ) (x : BaseCall) (ss : List Slot) → place ≡ count → ss ≡ x.asked.slots → record { call = x.call; conn = x.asked.conn; slots = ss; place = place; runs = x.taken; cancelled = x.cancelled; orphaned = x.orphaned } ≡ base_row count x
row_like count place x ss at same =
    let made : ℕ → List Slot → Row = λ p zs. record { call = x.call; conn = x.asked.conn; slots = zs; place = p; runs = x.taken; cancelled = x.cancelled; orphaned = x.orphaned } in
    ap (λ zs. made place zs) same ∙ ap (λ p. made p x.asked.slots) at

split_rows : (base : Base) (calls : List Row) (items : List BaseCall) (i : ℕ) (x : BaseCall) → items ≡ base.calls → i < length items → x ≡ get_or items i x → calls ++ map (base_row base.count) (drop i base.calls) ≡ base_rows base → calls ++ base_row base.count x ∷ map (base_row base.count) (drop (i + 1) base.calls) ≡ base_rows base
split_rows base calls items i x q lt e h =
    let next : drop i base.calls ≡ x ∷ drop (i + 1) base.calls = subst (λ xs. drop i xs ≡ x ∷ drop (i + 1) xs) q (rest_more items i x lt ∙ ap (λ y. y ∷ drop (i + 1) items) (sym e)) in
    sym (ap (λ xs. calls ++ map (base_row base.count) xs) next) ∙ h

pub row_free : (home : Home) (base : Base) (calls : List Row) (items : List BaseCall) (i : ℕ) (x : BaseCall) → IsSoundBase home base → items ≡ base.calls → i < length items → x ≡ get_or items i x → calls ++ map (base_row base.count) (drop i base.calls) ≡ base_rows base → row_at calls x.call ≡ None
row_free home base calls items i x s q lt e h = row_new home base calls (base_row base.count x) (map (base_row base.count) (drop (i + 1) base.calls)) s (split_rows base calls items i x q lt e h)

pub row_step : (home : Home) (base : Base) (calls new : List Row) (items : List BaseCall) (i : ℕ) (x : BaseCall) (r : Row) → IsSoundBase home base → items ≡ base.calls → i < length items → x ≡ get_or items i x → calls ++ map (base_row base.count) (drop i base.calls) ≡ base_rows base → r ≡ base_row base.count x → new ≡ with_row r calls → new ++ map (base_row base.count) (drop (i + 1) base.calls) ≡ base_rows base
row_step home base calls new items i x r s q lt e h same n =
    let more = map (base_row base.count) (drop (i + 1) base.calls) in
    let whole = split_rows base calls items i x q lt e h in
    let put : new ≡ calls ++ base_row base.count x ∷ [] = n ∙ (ap (λ y. with_row y calls) same ∙ row_last home base calls (base_row base.count x) more s whole) in
    ap (λ xs. xs ++ more) put ∙ (append_assoc calls (base_row base.count x ∷ []) more ∙ whole)

split_conns : (base : Base) (all : List OpenConn) (items : List ℕ) (i d : ℕ) → items ≡ base.conns → i < length items → all ++ map (base_conn base.count) (drop i base.conns) ≡ map (base_conn base.count) base.conns → all ++ base_conn base.count (get_or items i d) ∷ map (base_conn base.count) (drop (i + 1) base.conns) ≡ map (base_conn base.count) base.conns
split_conns base all items i d q lt h =
    let next : drop i base.conns ≡ get_or items i d ∷ drop (i + 1) base.conns = subst (λ xs. drop i xs ≡ get_or items i d ∷ drop (i + 1) xs) q (rest_more items i d lt) in
    sym (ap (λ xs. all ++ map (base_conn base.count) xs) next) ∙ h

pub conn_free : (home : Home) (base : Base) (all : List OpenConn) (items : List ℕ) (i d : ℕ) → IsSoundBase home base → items ≡ base.conns → i < length items → all ++ map (base_conn base.count) (drop i base.conns) ≡ map (base_conn base.count) base.conns → over (get_or items i d) all ≡ true
conn_free home base all items i d s q lt h = conn_over home base all (base_conn base.count (get_or items i d)) (map (base_conn base.count) (drop (i + 1) base.conns)) s (split_conns base all items i d q lt h)

pub conn_step : (base : Base) (all new : List OpenConn) (items : List ℕ) (i d place : ℕ) → items ≡ base.conns → i < length items → all ++ map (base_conn base.count) (drop i base.conns) ≡ map (base_conn base.count) base.conns → place ≡ base.count → new ≡ all ++ record { conn = get_or items i d; place = place } ∷ [] → new ++ map (base_conn base.count) (drop (i + 1) base.conns) ≡ map (base_conn base.count) base.conns
conn_step base all new items i d place q lt h at n =
    let x = get_or items i d in
    let more = map (base_conn base.count) (drop (i + 1) base.conns) in
    let put : new ≡ all ++ base_conn base.count x ∷ [] = n ∙ ap (λ p. all ++ base_conn p x ∷ []) at in
    ap (λ xs. xs ++ more) put ∙ (append_assoc all (base_conn base.count x ∷ []) more ∙ split_conns base all items i d q lt h)

pub item_step : (home : Home) (base : Base) (all new : List DueItem) (items : List DueItem) (i : ℕ) (d : DueItem) → IsSoundBase home base → items ≡ base.handles → i < length items → all ++ drop i base.handles ≡ base.handles → new ≡ with_item (get_or items i d) all → new ++ drop (i + 1) base.handles ≡ base.handles
item_step home base all new items i d s q lt h n =
    let x = get_or items i d in
    let more = drop (i + 1) base.handles in
    let next : drop i base.handles ≡ x ∷ more = subst (λ xs. drop i xs ≡ x ∷ drop (i + 1) xs) q (rest_more items i d lt) in
    let whole : all ++ x ∷ more ≡ base.handles = sym (ap (λ xs. all ++ xs) next) ∙ h in
    ap (λ xs. xs ++ more) (n ∙ item_last home base all x more s whole) ∙ (append_assoc all (x ∷ []) more ∙ whole)
