-- Where a journal is folded before all that is open, the places of what is open stay.
use Rattle.std.proofs.Common.{◌≡◌, ℕ, suc, ◌+◌, ◌≤◌, Bool, true, false, ◌||◌, unwrap_or, Option, Some, None, List, [], ◌∷◌, ◌++◌, length, map, reverse, refl, sym, ◌∙◌, ap, subst, arith, inl, inr}
use Rattle.std.specs.List.{list_any, filter_map, cons_option}
use Rattle.std.proofs.lemmas.List.{length-append}
use Rattle.std.proofs.lemmas.Bool.{cases_Bool}
use Rattle.std.proofs.lemmas.Bool.Decides.{eqb_tells}
use Rattle.handle_model.specs.declared.entry.Home.{Home}
use Rattle.handle_model.specs.declared.entry.Asked.{Asked}
use Rattle.handle_model.specs.declared.entry.Entry.{Entry}
use Rattle.handle_model.specs.declared.entry.Entry.TheVariants.{Join, Accept}
use Rattle.handle_model.specs.declared.base.Base.{Base}
use Rattle.handle_model.specs.Bases.{is_number}
use Rattle.handle_model.specs.History.{History, since}
use Rattle.handle_model.specs.Journal.{Legal, conns, accepted, asked, waits, runs, least, lesser}
use Rattle.handle_model.proofs.Held.{waits_open}
use Rattle.handle_model.proofs.Reversed.{list_any-reverse}
use Rattle.call_table.specs.declared.row.Row.{Row}
use Rattle.call_table.specs.Rows.{running_places}
use Rattle.call_table.specs.Shown.{place_of, call_row, row_as, row_in, rows_of}
use Rattle.call_table.specs.Shown.{place_since as call_place}
use Rattle.journal_tables.specs.declared.conns.OpenConn.{OpenConn}
use Rattle.journal_tables.specs.Floor.{open_places, lesser_of}
use Rattle.journal_tables.specs.Shown.{open_conn, conns_of}
use Rattle.journal_tables.specs.Shown.{place_since as conn_place}
use Rattle.journal_tables.proofs.Joined.{open_listed}
use Rattle.journal_tables.specs.Unplaced.{row_unplaced}
use Rattle.journal_tables.proofs.Sounds.{conn_since}

-- ONE PLACE

low_more : (b p n : ℕ) → p ≤ b + n → p ≤ b + suc n
low_more b p n h = omega (arith, h)

conn_low : (base : Base) (past : List Entry) (c : ℕ) → conn_place base past c ≤ base.count + length past
conn_low base [] c = omega arith
conn_low base (Join d ∷ past) c =
    let low = conn_low base past c in elim (eqb_tells d c) [ inl e ↦ rw e.0 (omega arith) | inr e ↦ rw e.0 (omega (arith, low)) ]
conn_low base (_ ∷ past) c = low_more base.count (conn_place base past c) (length past) (conn_low base past c)

-- what stands behind the new base stays
conn_kept : (base new : Base) (newer older : List Entry) (c : ℕ) → new.count ≡ base.count + length older → new.count ≤ conn_place base (newer ++ older) c → conn_place new newer c ≡ conn_place base (newer ++ older) c
conn_kept base new [] older c n h = let low = conn_low base older c in omega (arith, low, n, h)
conn_kept base new (Join d ∷ newer) older c n h =
    elim (eqb_tells d c) [
      | inl e ↦ rw e.0 (let more = length-append newer older in omega (arith, more, n))
      | inr e ↦ rw e.0 (conn_kept base new newer older c n (rw e.0 at h))
    ]
conn_kept base new (_ ∷ newer) older c n h = conn_kept base new newer older c n h

call_low : (base : Base) (past : List Entry) (k : ℕ) → call_place base past k ≤ base.count + length past
call_low base [] k = omega arith
call_low base (Accept m a ∷ past) k =
    let low = call_low base past k in elim (eqb_tells m k) [ inl e ↦ rw e.0 (omega arith) | inr e ↦ rw e.0 (omega (arith, low)) ]
call_low base (_ ∷ past) k = low_more base.count (call_place base past k) (length past) (call_low base past k)

call_kept : (base new : Base) (newer older : List Entry) (k : ℕ) → new.count ≡ base.count + length older → new.count ≤ call_place base (newer ++ older) k → call_place new newer k ≡ call_place base (newer ++ older) k
call_kept base new [] older k n h = let low = call_low base older k in omega (arith, low, n, h)
call_kept base new (Accept m a ∷ newer) older k n h =
    elim (eqb_tells m k) [
      | inl e ↦ rw e.0 (let more = length-append newer older in omega (arith, more, n))
      | inr e ↦ rw e.0 (call_kept base new newer older k n (rw e.0 at h))
    ]
call_kept base new (_ ∷ newer) older k n h = call_kept base new newer older k n h

-- a connection joins before its calls are accepted
joins_first : (home : Home) (base : Base) (past : List Entry) (k : ℕ) (a : Asked) → Legal (since home base past) → asked (since home base past) k ≡ Some a → conn_place base past a.conn ≤ call_place base past k
joins_first home base [] k a l e = omega arith
joins_first home base (Join d ∷ past) k a l e =
    let within = conn_since home base past k a l.1 e in
    let number = l.0.fits.0 in
    elim (eqb_tells d a.conn) [
      | inl s ↦ absurd (omega (arith, within, number, s.1))
      | inr s ↦ rw s.0 (joins_first home base past k a l.1 e)
    ]
joins_first home base (Accept m b ∷ past) k a l e =
    elim (eqb_tells m k) [
      | inl s ↦ rw s.0 (conn_low base past a.conn)
      | inr s ↦ rw s.0 (joins_first home base past k a l.1 (rw s.0 at e))
    ]
joins_first home base (_ ∷ past) k a l e = joins_first home base past k a l.1 e

-- FROM A PLACE ON

-- none is less than n
abbrev pub AllFrom : ℕ → List ℕ → Type 0
AllFrom n [] = Unit {0}
AllFrom n (m ∷ ms) = (n ≤ m) × AllFrom n ms

abbrev pub From : ℕ → Option ℕ → Type 0
From n None = Unit {0}
From n (Some m) = n ≤ m

lesser_from : (n m : ℕ) (o : Option ℕ) → From n (lesser m o) → (n ≤ m) × From n o
lesser_from n m None h = (h, record {})
lesser_from n m (Some p) h = (omega (arith, h), omega (arith, h))

least_from : (n : ℕ) (ms : List ℕ) → From n (least ms) → AllFrom n ms
least_from n [] h = record {}
least_from n (m ∷ ms) h = let s = lesser_from n m (least ms) h in (s.0, least_from n ms s.1)

both_from : (n : ℕ) (a b : Option ℕ) → From n (lesser_of a b) → From n a × From n b
both_from n None b h = (record {}, h)
both_from n (Some m) b h = lesser_from n m b h

some_from : (n d : ℕ) (o : Option ℕ) → n ≤ unwrap_or o d → From n o
some_from n d None h = record {}
some_from n d (Some m) h = h

-- where a floor isn't less than n, no place of an open connection or of a running call is
pub floor_from : (n d : ℕ) (os : List OpenConn) (rows : List Row) → n ≤ unwrap_or (lesser_of (least (open_places os)) (least (running_places rows))) d → AllFrom n (open_places os) × AllFrom n (running_places rows)
floor_from n d os rows h =
    let parts = both_from n (least (open_places os)) (least (running_places rows)) (some_from n d (lesser_of (least (open_places os)) (least (running_places rows))) h) in
    (least_from n (open_places os) parts.0, least_from n (running_places rows) parts.1)

-- THE CONNECTIONS

pub conns_stay : (n : ℕ) (j new : History) (cs : List ℕ) → ((c : ℕ) → n ≤ conn_place j.base j.past c → conn_place new.base new.past c ≡ conn_place j.base j.past c) → AllFrom n (open_places (map (open_conn j) cs)) → map (open_conn new) cs ≡ map (open_conn j) cs
conns_stay n j new [] f h = refl
conns_stay n j new (c ∷ cs) f h =
    ap (λ (p : ℕ). record { conn = c; place = p } ∷ map (open_conn new) cs) (f c h.0) ∙ ap (λ os. open_conn j c ∷ os) (conns_stay n j new cs f h.1)

from_conn : (n : ℕ) (j : History) (cs : List ℕ) (c : ℕ) → list_any (is_number c) cs ≡ true → AllFrom n (open_places (map (open_conn j) cs)) → n ≤ conn_place j.base j.past c
from_conn n j [] c i h = absurd (cc)
from_conn n j (d ∷ cs) c i h =
    elim (eqb_tells d c) [
      | inl e ↦ subst (λ m. n ≤ conn_place j.base j.past m) e.1 h.0
      | inr e ↦ from_conn n j cs c (rw e.0 at i) h.1
    ]

-- and so no place of a waiting call
pub from_waiting : (n : ℕ) (j : History) (k : ℕ) (a : Asked) → Legal j → AllFrom n (open_places (conns_of j)) → asked j k ≡ Some a → waits j k ≡ true → n ≤ place_of j k
from_waiting n j k a l h e w =
    let listed : list_any (is_number a.conn) (reverse (conns j)) ≡ true = list_any-reverse (is_number a.conn) (conns j) ∙ (open_listed j a.conn ∙ waits_open j k a l e w) in
    let first = from_conn n j (reverse (conns j)) a.conn listed h in
    let later = joins_first j.home j.base j.past k a l e in
    omega (arith, first, later)

-- THE ROWS

abbrev pub placed : History → Row → Row
placed j r =
    record { call = r.call; conn = r.conn; slots = r.slots; place = place_of j r.call; runs = r.runs; cancelled = r.cancelled; orphaned = r.orphaned }

own_as : (j : History) (k : ℕ) (o : Option Asked) (rows : List Row) → map (placed j) (map row_unplaced rows) ≡ rows → map (placed j) (map row_unplaced (cons_option (row_as j k o) rows)) ≡ cons_option (row_as j k o) rows
own_as j k None rows e = e
own_as j k (Some a) rows e = elim (cases_Bool (waits j k || runs j k)) [ inl c ↦ rw c (ap (λ rs. call_row j k a ∷ rs) e) | inr c ↦ rw c e ]

own : (j : History) (ks : List ℕ) → map (placed j) (map row_unplaced (filter_map (row_in j) ks)) ≡ filter_map (row_in j) ks
own j [] = refl
own j (k ∷ ks) = own_as j k (asked j k) (filter_map (row_in j) ks) (own j ks)

active_waits : (w r : Bool) → (w || r) ≡ true → r ≡ false → w ≡ true
active_waits true r h f = refl
active_waits false true h f = cc
active_waits false false h f = h

rows_as : (n : ℕ) (j new : History) (k : ℕ) (o : Option Asked) (rows : List Row) → Legal j → ((m : ℕ) → n ≤ place_of j m → place_of new m ≡ place_of j m) → AllFrom n (open_places (conns_of j)) → asked j k ≡ o → AllFrom n (running_places (cons_option (row_as j k o) rows)) → (AllFrom n (running_places rows) → map (placed new) (map row_unplaced rows) ≡ rows) → map (placed new) (map row_unplaced (cons_option (row_as j k o) rows)) ≡ cons_option (row_as j k o) rows
rows_as n j new k None rows l f c e h more = more h
rows_as n j new k (Some a) rows l f c e h more =
    elim (cases_Bool (waits j k || runs j k)) [
      | inr idle ↦ rw idle (more (rw idle at h))
      | inl active ↦
          let all : AllFrom n (running_places (call_row j k a ∷ rows)) = rw active at h in
          rw active
          (elim (cases_Bool (runs j k)) [
            | inl r ↦
                let parts : (n ≤ place_of j k) × AllFrom n (running_places rows) = rw r at all in
                ap (λ (p : ℕ). record { call = k; conn = a.conn; slots = a.slots; place = p; runs = runs j k; cancelled = (call_row j k a).cancelled; orphaned = (call_row j k a).orphaned } ∷ map (placed new) (map row_unplaced rows)) (f k parts.0)
                ∙ ap (λ rs. call_row j k a ∷ rs) (more parts.1)
            | inr r ↦
                let later : AllFrom n (running_places rows) = rw r at all in
                ap (λ (p : ℕ). record { call = k; conn = a.conn; slots = a.slots; place = p; runs = runs j k; cancelled = (call_row j k a).cancelled; orphaned = (call_row j k a).orphaned } ∷ map (placed new) (map row_unplaced rows)) (f k (from_waiting n j k a l c e (active_waits (waits j k) (runs j k) active r)))
                ∙ ap (λ rs. call_row j k a ∷ rs) (more later)
          ])
    ]

rows_at : (n : ℕ) (j new : History) (ks : List ℕ) → Legal j → ((m : ℕ) → n ≤ place_of j m → place_of new m ≡ place_of j m) → AllFrom n (open_places (conns_of j)) → AllFrom n (running_places (filter_map (row_in j) ks)) → map (placed new) (map row_unplaced (filter_map (row_in j) ks)) ≡ filter_map (row_in j) ks
rows_at n j new [] l f c h = refl
rows_at n j new (k ∷ ks) l f c h = rows_as n j new k (asked j k) (filter_map (row_in j) ks) l f c refl h (rows_at n j new ks l f c)

pub rows_stay : (n : ℕ) (j new : History) → Legal j → ((m : ℕ) → n ≤ place_of j m → place_of new m ≡ place_of j m) → AllFrom n (open_places (conns_of j)) → AllFrom n (running_places (rows_of j)) → map row_unplaced (rows_of new) ≡ map row_unplaced (rows_of j) → rows_of new ≡ rows_of j
rows_stay n j new l f c h e = sym (own new (reverse (accepted new))) ∙ (ap (map (placed new)) e ∙ rows_at n j new (reverse (accepted j)) l f c h)

-- A FOLD

-- what is open stands at the same place after the fold
pub places_stay : (home : Home) (base new : Base) (newer older : List Entry) → new.count ≡ base.count + length older → ((c : ℕ) → new.count ≤ conn_place base (newer ++ older) c → conn_place new newer c ≡ conn_place base (newer ++ older) c) × ((k : ℕ) → new.count ≤ call_place base (newer ++ older) k → call_place new newer k ≡ call_place base (newer ++ older) k)
places_stay home base new newer older n = (λ c h. conn_kept base new newer older c n h, λ k h. call_kept base new newer older k n h)
