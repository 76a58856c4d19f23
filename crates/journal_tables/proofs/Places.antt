-- What may come next by tables, and what it makes of them, has nothing to do with places.
use Rattle.std.proofs.Common.{◌≡◌, ℕ, ◌+◌, ◌<◌, Bool, true, false, ◌&&◌, ◌||◌, not, ◌==◌, nat_lt, Option, Some, None, if◌then◌else◌, List, [], ◌∷◌, ◌++◌, length, map, refl, sym, ◌∙◌, ap, subst, inl, inr}
use Rattle.std.specs.List.{list_any, filter, find}
use Rattle.std.specs.Option.{option_map, option_or}
use Rattle.std.proofs.lemmas.Bool.{cases_Bool}
use Rattle.std.proofs.lemmas.List.{map-append, length-map}
use Rattle.handle_model.specs.declared.entry.Slot.{Slot}
use Rattle.handle_model.specs.declared.entry.DueItem.{DueItem}
use Rattle.handle_model.specs.declared.entry.Entry.{Entry}
use Rattle.handle_model.specs.declared.entry.Entry.TheVariants.{Join, Accept, Take, Deny, Cancel, Orphan, End, Leave, Shut}
use Rattle.handle_model.specs.Journal.{least, suit}
use Rattle.handle_table.specs.Uses.{fault_at, cookies_at}
use Rattle.handle_table.specs.Ended.{ended}
use Rattle.call_table.specs.declared.row.Row.{Row}
use Rattle.call_table.specs.Rows.{is_call, is_other, is_below, is_running, row_at, slots_in, slots_at, calls, over, stays, blocks_running, blocks_waiting, least_running, least_waiting, blocker_of, conflict_of, taken, cancelled, orphaned, at_call, with_start, with_cancel, with_orphan, without, left}
use Rattle.call_table.specs.Laws as row_laws
use Rattle.journal_tables.specs.declared.conns.OpenConn.{OpenConn}
use Rattle.journal_tables.specs.Conns as opened
use Rattle.journal_tables.specs.Tables.{Tables, waits_in, runs_in, cancels_in, orphans_in, is_due, FitsIn, Admits, speaks_of_running, items_after, conns_after, entered}
use Rattle.journal_tables.specs.Unplaced.{row_unplaced, conn_unplaced, unplaced}

-- LISTS

any_mapped : {X : Type 0} (u : X → X) (p : X → Bool) (xs : List X) → ((x : X) → p (u x) ≡ p x) → list_any p (map u xs) ≡ list_any p xs
any_mapped u p [] e = refl
any_mapped u p (x ∷ xs) e = rw (e x, any_mapped u p xs e) refl

find_mapped : {X : Type 0} (u : X → X) (p : X → Bool) (xs : List X) → ((x : X) → p (u x) ≡ p x) → find p (map u xs) ≡ option_map u (find p xs)
find_mapped u p [] e = refl
find_mapped u p (x ∷ xs) e =
    let here = e x in
    let more = find_mapped u p xs e in
    elim (cases_Bool (p x)) [ inl t ↦ rw (here, t) refl | inr t ↦ rw (here, t, more) refl ]

filter_mapped : {X : Type 0} (u : X → X) (p : X → Bool) (xs : List X) → ((x : X) → p (u x) ≡ p x) → filter p (map u xs) ≡ map u (filter p xs)
filter_mapped u p [] e = refl
filter_mapped u p (x ∷ xs) e =
    let here = e x in
    let more = filter_mapped u p xs e in
    elim (cases_Bool (p x)) [ inl t ↦ rw (here, t, more) refl | inr t ↦ rw (here, t, more) refl ]

map_twice : {X : Type 0} (u f g : X → X) (xs : List X) → ((x : X) → u (f x) ≡ u (g (u x))) → map u (map f xs) ≡ map u (map g (map u xs))
map_twice u f g [] e = refl
map_twice u f g (x ∷ xs) e = rw (e x, map_twice u f g xs e) refl

map_once : {X : Type 0} (u : X → X) (xs : List X) → ((x : X) → u (u x) ≡ u x) → map u (map u xs) ≡ map u xs
map_once u [] e = refl
map_once u (x ∷ xs) e = rw (e x, map_once u xs e) refl

length_mapped : {X : Type 0} (u : X → X) (xs : List X) → (length (map u xs) == 0) ≡ (length xs == 0)
length_mapped u xs = ap (λ n. n == 0) (length-map xs u)

-- ROWS

row_of : (rows : List Row) (k : ℕ) → row_at (map row_unplaced rows) k ≡ option_map row_unplaced (row_at rows k)
row_of rows k = find_mapped row_unplaced (is_call k) rows (λ r. refl)

waits_same : (o : Option Row) → waits_in (option_map row_unplaced o) ≡ waits_in o
waits_same None = refl
waits_same (Some r) = refl

runs_same : (o : Option Row) → runs_in (option_map row_unplaced o) ≡ runs_in o
runs_same None = refl
runs_same (Some r) = refl

cancels_same : (o : Option Row) → cancels_in (option_map row_unplaced o) ≡ cancels_in o
cancels_same None = refl
cancels_same (Some r) = refl

orphans_same : (o : Option Row) → orphans_in (option_map row_unplaced o) ≡ orphans_in o
orphans_same None = refl
orphans_same (Some r) = refl

slots_same : (o : Option Row) → slots_in (option_map row_unplaced o) ≡ slots_in o
slots_same None = refl
slots_same (Some r) = refl

pub row_waits : (rows : List Row) (k : ℕ) → waits_in (row_at (map row_unplaced rows) k) ≡ waits_in (row_at rows k)
row_waits rows k = ap waits_in (row_of rows k) ∙ waits_same (row_at rows k)

pub row_runs : (rows : List Row) (k : ℕ) → runs_in (row_at (map row_unplaced rows) k) ≡ runs_in (row_at rows k)
row_runs rows k = ap runs_in (row_of rows k) ∙ runs_same (row_at rows k)

row_cancels : (rows : List Row) (k : ℕ) → cancels_in (row_at (map row_unplaced rows) k) ≡ cancels_in (row_at rows k)
row_cancels rows k = ap cancels_in (row_of rows k) ∙ cancels_same (row_at rows k)

row_orphans : (rows : List Row) (k : ℕ) → orphans_in (row_at (map row_unplaced rows) k) ≡ orphans_in (row_at rows k)
row_orphans rows k = ap orphans_in (row_of rows k) ∙ orphans_same (row_at rows k)

row_slots : (rows : List Row) (k : ℕ) → slots_at (map row_unplaced rows) k ≡ slots_at rows k
row_slots rows k = ap slots_in (row_of rows k) ∙ slots_same (row_at rows k)

calls_same : (rows : List Row) → calls (map row_unplaced rows) ≡ calls rows
calls_same [] = refl
calls_same (r ∷ rows) = ap (λ ks. r.call ∷ ks) (calls_same rows)

least_of : (p : Row → Bool) (rows : List Row) → ((r : Row) → p (row_unplaced r) ≡ p r) → least (calls (filter p (map row_unplaced rows))) ≡ least (calls (filter p rows))
least_of p rows e = ap (λ xs. least (calls xs)) (filter_mapped row_unplaced p rows e) ∙ ap least (calls_same (filter p rows))

pub row_conflict : (rows : List Row) (k : ℕ) → conflict_of (map row_unplaced rows) k ≡ conflict_of rows k
row_conflict rows k =
    let ss = slots_at rows k in
    ap (λ xs. blocker_of xs k (map row_unplaced rows)) (row_slots rows k) ∙ (ap (λ o. option_or o (least_waiting ss k (map row_unplaced rows))) (least_of (blocks_running ss) rows (λ r. refl)) ∙ ap (option_or (least_running ss rows)) (least_of (blocks_waiting ss k) rows (λ r. refl)))

row_over : (rows : List Row) (k : ℕ) → over k (map row_unplaced rows) ≡ over k rows
row_over rows k = ap not (any_mapped row_unplaced (λ r. not (is_below k r)) rows (λ r. refl))

row_running : (rows : List Row) → list_any is_running (map row_unplaced rows) ≡ list_any is_running rows
row_running rows = any_mapped row_unplaced is_running rows (λ r. refl)

conn_open : (conns : List OpenConn) (c : ℕ) → opened.has_open (map conn_unplaced conns) c ≡ opened.has_open conns c
conn_open conns c = any_mapped conn_unplaced (opened.is_conn c) conns (λ o. refl)

-- WHAT MAY COME

pub due_same : (t : Tables) → is_due (unplaced t) ≡ is_due t
due_same t =
    let made : Bool → Bool → Bool = λ x y. not (t.joins == 0) && not t.shut && x && not y in
    ap (λ x. made x (list_any is_running (map row_unplaced t.rows))) (length_mapped conn_unplaced t.conns) ∙ ap (made (length t.conns == 0)) (row_running t.rows)

fits_there : (t : Tables) (e : Entry) → FitsIn t e → FitsIn (unplaced t) e
fits_there t (Join c) f = f
fits_there t (Accept k a) f = (f.0, row_over t.rows k ∙ f.1, conn_open t.conns a.conn ∙ f.2, f.3, f.4, f.5, f.6)
fits_there t (Take k cookies) f =
    let s = row_slots t.rows k in
    (row_waits t.rows k ∙ f.0, row_conflict t.rows k ∙ f.1, ap (fault_at t.home t.items) s ∙ f.2, f.3 ∙ sym (ap (cookies_at t.home t.items) s))
fits_there t (Deny k slot) f = (row_waits t.rows k ∙ f.0, row_conflict t.rows k ∙ f.1, ap (fault_at t.home t.items) (row_slots t.rows k) ∙ f.2)
fits_there t (Cancel k) f = row_cancels t.rows k ∙ f
fits_there t (Orphan k) f = row_orphans t.rows k ∙ f
fits_there t (End k results said) f = (row_runs t.rows k ∙ f.0, ap (λ ss. suit ss results) (row_slots t.rows k) ∙ f.1)
fits_there t (Leave c) f = conn_open t.conns c ∙ f
fits_there t (Shut items) f = (due_same t ∙ f.0, f.1)

fits_back : (t : Tables) (e : Entry) → FitsIn (unplaced t) e → FitsIn t e
fits_back t (Join c) f = f
fits_back t (Accept k a) f = (f.0, sym (row_over t.rows k) ∙ f.1, sym (conn_open t.conns a.conn) ∙ f.2, f.3, f.4, f.5, f.6)
fits_back t (Take k cookies) f =
    let s = row_slots t.rows k in
    (sym (row_waits t.rows k) ∙ f.0, sym (row_conflict t.rows k) ∙ f.1, sym (ap (fault_at t.home t.items) s) ∙ f.2, f.3 ∙ ap (cookies_at t.home t.items) s)
fits_back t (Deny k slot) f =
    (sym (row_waits t.rows k) ∙ f.0, sym (row_conflict t.rows k) ∙ f.1, sym (ap (fault_at t.home t.items) (row_slots t.rows k)) ∙ f.2)
fits_back t (Cancel k) f = sym (row_cancels t.rows k) ∙ f
fits_back t (Orphan k) f = sym (row_orphans t.rows k) ∙ f
fits_back t (End k results said) f = (sym (row_runs t.rows k) ∙ f.0, sym (ap (λ ss. suit ss results) (row_slots t.rows k)) ∙ f.1)
fits_back t (Leave c) f = sym (conn_open t.conns c) ∙ f
fits_back t (Shut items) f = (sym (due_same t) ∙ f.0, f.1)

admits_there : (t : Tables) (e : Entry) → Admits t e → Admits (unplaced t) e
admits_there t e a = record { before_shut = a.before_shut; shut_when_due = λ d. a.shut_when_due (sym (due_same t) ∙ d); fits = fits_there t e a.fits }

admits_back : (t : Tables) (e : Entry) → Admits (unplaced t) e → Admits t e
admits_back t e a = record { before_shut = a.before_shut; shut_when_due = λ d. a.shut_when_due (due_same t ∙ d); fits = fits_back t e a.fits }

-- tables that differ in places alone admit the same
pub admits_alike : (t u : Tables) (e : Entry) → unplaced t ≡ unplaced u → Admits t e → Admits u e
admits_alike t u e q a = admits_back u e (subst (λ v. Admits v e) q (admits_there t e a))

-- WHAT IT MAKES OF THEM

mark_same : (k : ℕ) (f : Row → Row) (rows : List Row) → ((r : Row) → row_unplaced (f r) ≡ row_unplaced (f (row_unplaced r))) → map row_unplaced (map (at_call k f) rows) ≡ map row_unplaced (map (at_call k f) (map row_unplaced rows))
mark_same k f rows e =
    map_twice row_unplaced (at_call k f) (at_call k f) rows (λ r. elim (cases_Bool (is_call k r)) [ inl t ↦ rw t (e r) | inr t ↦ rw t refl ])

part_same : {X : Type 0} (u : X → X) (p : X → Bool) (xs : List X) → ((x : X) → p (u x) ≡ p x) → ((x : X) → u (u x) ≡ u x) → map u (filter p xs) ≡ map u (filter p (map u xs))
part_same u p xs e f = sym (map_once u (filter p xs) f) ∙ ap (map u) (sym (filter_mapped u p xs e))

rows_same : (rows : List Row) (place other : ℕ) (e : Entry) (b : Bool) → map row_unplaced (row_laws.left_by rows place e b) ≡ map row_unplaced (row_laws.left_by (map row_unplaced rows) other e b)
rows_same rows place other (Join c) b = sym (map_once row_unplaced rows (λ r. refl))
rows_same rows place other (Accept k a) b =
    let made : ℕ → Row = λ p. record { call = k; conn = a.conn; slots = a.slots; place = p; runs = false; cancelled = false; orphaned = false } in
    map-append row_unplaced rows (made place ∷ []) ∙ (ap (λ xs. xs ++ made 0 ∷ []) (sym (map_once row_unplaced rows (λ r. refl))) ∙ sym (map-append row_unplaced (map row_unplaced rows) (made other ∷ [])))
rows_same rows place other (Take k cookies) b = mark_same k taken rows (λ r. refl)
rows_same rows place other (Deny k slot) b = part_same row_unplaced (is_other k) rows (λ r. refl) (λ r. refl)
rows_same rows place other (Cancel k) true = mark_same k cancelled rows (λ r. refl)
rows_same rows place other (Cancel k) false = part_same row_unplaced (is_other k) rows (λ r. refl) (λ r. refl)
rows_same rows place other (Orphan k) true = mark_same k orphaned rows (λ r. refl)
rows_same rows place other (Orphan k) false = part_same row_unplaced (is_other k) rows (λ r. refl) (λ r. refl)
rows_same rows place other (End k results said) b = part_same row_unplaced (is_other k) rows (λ r. refl) (λ r. refl)
rows_same rows place other (Leave c) b = part_same row_unplaced (stays c) rows (λ r. refl) (λ r. refl)
rows_same rows place other (Shut items) b = sym (map_once row_unplaced rows (λ r. refl))

conns_same : (t : Tables) (place other : ℕ) (e : Entry) → map conn_unplaced (conns_after t place e) ≡ map conn_unplaced (conns_after (unplaced t) other e)
conns_same t place other (Join c) =
    let made : ℕ → OpenConn = λ p. record { conn = c; place = p } in
    map-append conn_unplaced t.conns (made place ∷ []) ∙ (ap (λ xs. xs ++ made 0 ∷ []) (sym (map_once conn_unplaced t.conns (λ o. refl))) ∙ sym (map-append conn_unplaced (map conn_unplaced t.conns) (made other ∷ [])))
conns_same t place other (Leave c) = part_same conn_unplaced (opened.is_other c) t.conns (λ o. refl) (λ o. refl)
conns_same t place other (Accept k a) = sym (map_once conn_unplaced t.conns (λ o. refl))
conns_same t place other (Take k cookies) = sym (map_once conn_unplaced t.conns (λ o. refl))
conns_same t place other (Deny k slot) = sym (map_once conn_unplaced t.conns (λ o. refl))
conns_same t place other (Cancel k) = sym (map_once conn_unplaced t.conns (λ o. refl))
conns_same t place other (Orphan k) = sym (map_once conn_unplaced t.conns (λ o. refl))
conns_same t place other (End k results said) = sym (map_once conn_unplaced t.conns (λ o. refl))
conns_same t place other (Shut items) = sym (map_once conn_unplaced t.conns (λ o. refl))

items_same : (t : Tables) (e : Entry) → items_after t e ≡ items_after (unplaced t) e
items_same t (End k results said) = ap (λ ss. ended t.home ss results t.items) (sym (row_slots t.rows k))
items_same t (Join c) = refl
items_same t (Accept k a) = refl
items_same t (Take k cookies) = refl
items_same t (Deny k slot) = refl
items_same t (Cancel k) = refl
items_same t (Orphan k) = refl
items_same t (Leave c) = refl
items_same t (Shut items) = refl

speaks_same : (t : Tables) (e : Entry) → speaks_of_running t e ≡ speaks_of_running (unplaced t) e
speaks_same t (Cancel k) = sym (row_runs t.rows k)
speaks_same t (Orphan k) = sym (row_runs t.rows k)
speaks_same t (Join c) = refl
speaks_same t (Accept k a) = refl
speaks_same t (Take k cookies) = refl
speaks_same t (Deny k slot) = refl
speaks_same t (End k results said) = refl
speaks_same t (Leave c) = refl
speaks_same t (Shut items) = refl

entered_same : (t : Tables) (place other : ℕ) (e : Entry) → unplaced (entered t place e) ≡ unplaced (entered (unplaced t) other e)
entered_same t place other e =
    let now : Tables = entered t place e in
    let made : List DueItem → List Row → List OpenConn → Tables =
    λ i r c. record { home = t.home; items = i; rows = r; conns = c; joins = now.joins; accepts = now.accepts; opens = now.opens; shut = now.shut } in
    let rows : map row_unplaced now.rows ≡ map row_unplaced (row_laws.left_by (map row_unplaced t.rows) other e (speaks_of_running (unplaced t) e)) =
    rows_same t.rows place other e (speaks_of_running t e) ∙ ap (λ b. map row_unplaced (row_laws.left_by (map row_unplaced t.rows) other e b)) (speaks_same t e) in
    ap (λ i. made i (map row_unplaced now.rows) (map conn_unplaced now.conns)) (items_same t e) ∙ (ap (λ r. made (items_after (unplaced t) e) r (map conn_unplaced now.conns)) rows ∙ ap (made (items_after (unplaced t) e) (map row_unplaced (row_laws.left_by (map row_unplaced t.rows) other e (speaks_of_running (unplaced t) e)))) (conns_same t place other e))

-- and stay alike
pub entered_alike : (t u : Tables) (place other : ℕ) (e : Entry) → unplaced t ≡ unplaced u → unplaced (entered t place e) ≡ unplaced (entered u other e)
entered_alike t u place other e q =
    entered_same t place 0 e ∙ (ap (λ v. unplaced (entered v 0 e)) q ∙ sym (entered_same u other 0 e))
