-- The base that a journal gives says what the journal says.
use Rattle.std.proofs.Common.{◌≡◌, ◌≢◌, ℕ, ◌+◌, ◌≤◌, ◌<◌, suc, Bool, true, false, ◌&&◌, ◌||◌, not, ◌==◌, nat_lt, Option, Some, None, is_some, if◌then◌else◌, List, [], ◌∷◌, ◌++◌, length, map, reverse, refl, sym, ◌∙◌, ap, subst, arith, inl, inr, ◌⊎◌}
use Rattle.std.specs.List.{list_any, filter, filter_map, cons_option, find}
use Rattle.std.specs.Option.{option_map}
use Rattle.std.proofs.lemmas.Grind.{common_steps}
use Rattle.std.proofs.lemmas.Bool.{cases_Bool}
use Rattle.std.proofs.lemmas.Bool.Decides.{eqb_tells}
use Rattle.handle_model.specs.declared.entry.Home.{Home}
use Rattle.handle_model.specs.declared.entry.Asked.{Asked}
use Rattle.handle_model.specs.declared.entry.DueItem.{DueItem}
use Rattle.handle_model.specs.declared.entry.Outcome.{Outcome}
use Rattle.handle_model.specs.declared.entry.Said.{Said}
use Rattle.handle_model.specs.declared.entry.Entry.{Entry}
use Rattle.handle_model.specs.declared.entry.Entry.TheVariants.{Join, Accept, Take, Deny, Cancel, Orphan, End, Leave, Shut}
use Rattle.handle_model.specs.declared.base.BaseCall.{BaseCall}
use Rattle.handle_model.specs.declared.base.Base.{Base}
use Rattle.handle_model.specs.Bases.{is_number, is_call, asked_before}
use Rattle.handle_model.specs.Sound.{IsSoundBase}
use Rattle.handle_model.specs.Folds.{call_of, call_as, call_in, open_calls, base_of}
use Rattle.handle_model.specs.History.{History, since, with_entry, size}
use Rattle.handle_model.specs.Journal.{Legal, is_shut, join_count, conns, accept_count, accepted, asked, opened, is_taken, is_decided, waits, runs, due_items}
use Rattle.handle_model.proofs.Tests.{and_left, and_right, or_right, or_cases}
use Rattle.handle_model.specs.Further.{with_entries}
use Rattle.call_table.specs.declared.row.Row.{Row}
use Rattle.call_table.specs.Shown.{row_as, row_in, rows_of, base_row, base_rows}
use Rattle.call_table.specs.Based.{call_with}
use Rattle.call_table.proofs.Calls.{self, asked_listed, runs_asked}
use Rattle.call_table.proofs.Started.{Stands as StandsIn, AllStand, all_stand}
use Rattle.journal_tables.specs.declared.conns.OpenConn.{OpenConn}
use Rattle.journal_tables.specs.Tables.{Tables}
use Rattle.journal_tables.specs.Shown.{open_conn, conns_of, tables_of, base_conn, base_tables}
use Rattle.journal_tables.proofs.Joined.{has}
use Rattle.journal_tables.specs.Unplaced.{row_unplaced, conn_unplaced, unplaced}
use Rattle.journal_tables.specs.Folding.{Stands, GoesOn}
use Rattle.handle_model.proofs.Reversed.{list_any-reverse}

-- ROWS AND CONNECTIONS

rows_as : (place : ℕ) (j : History) (k : ℕ) (o : Option Asked) (cs : List BaseCall) (rows : List Row) → map row_unplaced (map (base_row place) cs) ≡ map row_unplaced rows → map row_unplaced (map (base_row place) (cons_option (call_as j k o) cs)) ≡ map row_unplaced (cons_option (row_as j k o) rows)
rows_as place j k None cs rows e = e
rows_as place j k (Some a) cs rows e =
    elim (cases_Bool (waits j k || runs j k)) [
      | inl c ↦ rw c (ap (λ rs. row_unplaced (base_row place (call_of j k a)) ∷ rs) e)
      | inr c ↦ rw c e
    ]

rows_stand : (place : ℕ) (j : History) (ks : List ℕ) → map row_unplaced (map (base_row place) (filter_map (call_in j) ks)) ≡ map row_unplaced (filter_map (row_in j) ks)
rows_stand place j [] = refl
rows_stand place j (k ∷ ks) = rows_as place j k (asked j k) (filter_map (call_in j) ks) (filter_map (row_in j) ks) (rows_stand place j ks)

conns_stand : (place : ℕ) (j : History) (ns : List ℕ) → map conn_unplaced (map (base_conn place) ns) ≡ map conn_unplaced (map (open_conn j) ns)
conns_stand place j [] = refl
conns_stand place j (n ∷ ns) = ap (λ os. record { conn = n; place = 0 } ∷ os) (conns_stand place j ns)

pub stands : (j : History) → list_any is_shut j.past ≡ false → Stands (base_of j) j
stands j u =
    let made : List Row → List OpenConn → Bool → Tables =
    λ r c b. record { home = j.home; items = due_items j; rows = r; conns = c; joins = join_count j; accepts = accept_count j; opens = opened j; shut = b } in
    ap (λ r. made r (map conn_unplaced (map (base_conn (size j)) (reverse (conns j)))) false) (rows_stand (size j) j (reverse (accepted j))) ∙ (ap (λ c. made (map row_unplaced (rows_of j)) c false) (conns_stand (size j) j (reverse (conns j))) ∙ ap (made (map row_unplaced (rows_of j)) (map conn_unplaced (conns_of j))) (sym u))

-- WHAT THE OPEN CALLS ASKED

found_as : (j : History) (k : ℕ) (all cs : List BaseCall) (o p : Option Asked) (m : ℕ) → (m == k) ≡ true → AllStand all (cons_option (call_as j m o) cs) → o ≡ p → m ≡ k → (waits j k || runs j k) ≡ true → option_map (λ (c : BaseCall). c.asked) (find (is_call k) all) ≡ p ⊎ (p ≡ None)
found_as j k all cs None p m q s e f c = inr (sym e)
found_as j k all cs (Some a) p m q s e f c =
    let active : (waits j m || runs j m) ≡ true = subst (λ n. (waits j n || runs j n) ≡ true) (sym f) c in
    let t = rw active at s in
    let here : find (is_call m) all ≡ Some (call_of j m a) = t.0.found in
    inl (subst (λ n. option_map (λ (c : BaseCall). c.asked) (find (is_call n) all) ≡ p) f (ap (option_map (λ (c : BaseCall). c.asked)) here ∙ e))

later_stand : (j : History) (m : ℕ) (all cs : List BaseCall) (o : Option Asked) → AllStand all (cons_option (call_as j m o) cs) → AllStand all cs
later_stand j m all cs None s = s
later_stand j m all cs (Some a) s =
    elim (cases_Bool (waits j m || runs j m)) [
      | inl c ↦ let t = rw c at s in t.1
      | inr c ↦ rw c at s
    ]

found_call : (j : History) (k : ℕ) (all : List BaseCall) (ks : List ℕ) → AllStand all (filter_map (call_in j) ks) → has k ks ≡ true → (waits j k || runs j k) ≡ true → is_some (asked j k) ≡ true → option_map (λ (c : BaseCall). c.asked) (find (is_call k) all) ≡ asked j k
found_call j k all [] s i c a = absurd (cc)
found_call j k all (m ∷ ks) s i c a =
    elim (eqb_tells m k) [
      | inl e ↦ elim (found_as j k all (filter_map (call_in j) ks) (asked j m) (asked j k) m e.0 s (ap (asked j) e.1) e.1 c) [
        | inl f ↦ f
        | inr f ↦ absurd (let g = rw f at a in cc)
      ]
      | inr e ↦ found_call j k all ks (later_stand j m all (filter_map (call_in j) ks) (asked j m) s) (rw e.0 at i) c a
    ]

active_some : (j : History) (k : ℕ) (o : Option Asked) → Legal j → asked j k ≡ o → (waits j k || runs j k) ≡ true → is_some o ≡ true
active_some j k None l e c =
    elim (or_cases (waits j k) (runs j k) c) [
      | inl w ↦ absurd (let f = rw e at w in cc)
      | inr r ↦ runs_asked j k None l e r
    ]
active_some j k (Some a) l e c = refl

active_listed : (j : History) (k : ℕ) (o : Option Asked) → asked j k ≡ o → is_some o ≡ true → has k (reverse (accepted j)) ≡ true
active_listed j k None e i = absurd (cc)
active_listed j k (Some a) e i = list_any-reverse (is_number k) (accepted j) ∙ asked_listed j k a e

asked_stands : (j : History) (k : ℕ) → Legal j → IsSoundBase j.home (base_of j) → (waits j k || runs j k) ≡ true → asked_before (base_of j) k ≡ asked j k
asked_stands j k l s c =
    let some = active_some j k (asked j k) l refl c in
    found_call j k (open_calls j) (reverse (accepted j)) (all_stand (open_calls j) s.calls_rise) (active_listed j k (asked j k) refl some) c some

-- an entry that doesn't accept a call leaves no call open that was not
abbrev pub WasActive : History → Entry → ℕ → Type 0
WasActive j e k = (waits (with_entry j e) k || runs (with_entry j e) k) ≡ true → (waits j k || runs j k) ≡ true

was_take : (j : History) (m k : ℕ) (cookies : List (Option ℕ)) → waits j m ≡ true → WasActive j (Take m cookies) k
was_take j m k cookies w c =
    elim (eqb_tells m k) [
      | inl e ↦ let x = subst (λ n. waits j n ≡ true) e.1 w in rw x refl
      | inr e ↦ rw e.0 at c
    ]

kept_bools : (s h d x r : Bool) → ((s && h && not (x || d)) || r) ≡ true → ((s && h && not d) || r) ≡ true
kept_bools true true true true r c = c
kept_bools true true true false r c = c
kept_bools true true false true r c = refl
kept_bools true true false false r c = refl
kept_bools true false d x r c = c
kept_bools false h d x r c = c

was_deny : (j : History) (m slot k : ℕ) → WasActive j (Deny m slot) k
was_deny j m slot k c = grind (arith, common_steps)

was_cancel : (j : History) (m k : ℕ) → WasActive j (Cancel m) k
was_cancel j m k c = grind (arith, common_steps)

was_orphan : (j : History) (m k : ℕ) → WasActive j (Orphan m) k
was_orphan j m k c = grind (arith, common_steps)

was_end : (j : History) (m k : ℕ) (results : List Outcome) (said : Said) → WasActive j (End m results said) k
was_end j m k results said c = ended (asked j k) refl c
  where
    ended : (o : Option Asked) → asked j k ≡ o → (waits (with_entry j (End m results said)) k || runs (with_entry j (End m results said)) k) ≡ true → (waits j k || runs j k) ≡ true
    ended None e d = grind (arith, common_steps)
    ended (Some a) e d = grind (arith, common_steps)

was_leave : (j : History) (c k : ℕ) → WasActive j (Leave c) k
was_leave j c k d = left (asked j k) refl d
  where
    left : (o : Option Asked) → asked j k ≡ o → (waits (with_entry j (Leave c)) k || runs (with_entry j (Leave c)) k) ≡ true → (waits j k || runs j k) ≡ true
    left None e d = grind (arith, common_steps)
    left (Some a) e d = grind (arith, common_steps)

was_join : (j : History) (c k : ℕ) → WasActive j (Join c) k
was_join j c k d = joined (asked j k) refl d
  where
    joined : (o : Option Asked) → asked j k ≡ o → (waits (with_entry j (Join c)) k || runs (with_entry j (Join c)) k) ≡ true → (waits j k || runs j k) ≡ true
    joined None e d = grind (arith, common_steps)
    joined (Some a) e d = grind (arith, common_steps)

was_shut : (j : History) (items : List DueItem) (k : ℕ) → WasActive j (Shut items) k
was_shut j items k d = shut (asked j k) refl d
  where
    shut : (o : Option Asked) → asked j k ≡ o → (waits (with_entry j (Shut items)) k || runs (with_entry j (Shut items)) k) ≡ true → (waits j k || runs j k) ≡ true
    shut None e d = grind (arith, common_steps)
    shut (Some a) e d = grind (arith, common_steps)

waits_older : (j : History) (m k : ℕ) (a : Asked) (o : Option Asked) → (m == k) ≡ false → asked j k ≡ o → waits (with_entry j (Accept m a)) k ≡ waits j k
waits_older j m k a None n e = let f : asked (with_entry j (Accept m a)) k ≡ None = rw n e in rw (f, e) refl
waits_older j m k a (Some b) n e = let f : asked (with_entry j (Accept m a)) k ≡ Some b = rw n e in rw (f, e) refl

was_accept : (j : History) (m k : ℕ) (a : Asked) → (m == k) ≡ false → WasActive j (Accept m a) k
was_accept j m k a n d = subst (λ b. (b || runs j k) ≡ true) (waits_older j m k a (asked j k) n refl) d

-- what an open call asked is the same after the base and after the journal
pub asked_newer : (j : History) (newer : List Entry) (k : ℕ) → IsSoundBase j.home (base_of j) → Legal (with_entries j newer) → (waits (with_entries j newer) k || runs (with_entries j newer) k) ≡ true → asked (since j.home (base_of j) newer) k ≡ asked (with_entries j newer) k
asked_newer j [] k s l c = asked_stands j k l s c
asked_newer j (Accept m a ∷ newer) k s l c =
    elim (eqb_tells m k) [
      | inl e ↦ rw e.0 refl
      | inr e ↦ rw e.0 (asked_newer j newer k s l.1 (was_accept (with_entries j newer) m k a e.0 c))
    ]
asked_newer j (Take m cookies ∷ newer) k s l c = asked_newer j newer k s l.1 (was_take (with_entries j newer) m k cookies l.0.fits.0 c)
asked_newer j (Deny m slot ∷ newer) k s l c = asked_newer j newer k s l.1 (was_deny (with_entries j newer) m slot k c)
asked_newer j (Cancel m ∷ newer) k s l c = asked_newer j newer k s l.1 (was_cancel (with_entries j newer) m k c)
asked_newer j (Orphan m ∷ newer) k s l c = asked_newer j newer k s l.1 (was_orphan (with_entries j newer) m k c)
asked_newer j (End m results said ∷ newer) k s l c = asked_newer j newer k s l.1 (was_end (with_entries j newer) m k results said c)
asked_newer j (Leave d ∷ newer) k s l c = asked_newer j newer k s l.1 (was_leave (with_entries j newer) d k c)
asked_newer j (Join d ∷ newer) k s l c = asked_newer j newer k s l.1 (was_join (with_entries j newer) d k c)
asked_newer j (Shut items ∷ newer) k s l c = asked_newer j newer k s l.1 (was_shut (with_entries j newer) items k c)

-- THE OPEN CALLS, BY THEIR ROWS

abbrev pub asked_row : History → Row → Option BaseCall
asked_row j r = option_map (call_with r) (asked j r.call)

by_rows_as : (j h : History) (k : ℕ) (o : Option Asked) (cs : List BaseCall) (rows : List Row) → ((waits j k || runs j k) ≡ true → asked h k ≡ o) → asked j k ≡ o → filter_map (asked_row h) rows ≡ cs → filter_map (asked_row h) (cons_option (row_as j k o) rows) ≡ cons_option (call_as j k o) cs
by_rows_as j h k None cs rows f e q = q
by_rows_as j h k (Some a) cs rows f e q =
    elim (cases_Bool (waits j k || runs j k)) [
      | inl c ↦ let g = f c in rw c (rw (g, q) refl)
      | inr c ↦ rw c q
    ]

by_rows : (j h : History) (ks : List ℕ) → ((k : ℕ) → (waits j k || runs j k) ≡ true → asked h k ≡ asked j k) → filter_map (asked_row h) (filter_map (row_in j) ks) ≡ filter_map (call_in j) ks
by_rows j h [] f = refl
by_rows j h (k ∷ ks) f = by_rows_as j h k (asked j k) (filter_map (call_in j) ks) (filter_map (row_in j) ks) (f k) refl (by_rows j h ks f)

unplaced_cons : (r : Row) (o : Option Asked) (xs ys : List BaseCall) → xs ≡ ys → cons_option (option_map (call_with (row_unplaced r)) o) xs ≡ cons_option (option_map (call_with r) o) ys
unplaced_cons r None xs ys e = e
unplaced_cons r (Some a) xs ys e = ap (λ cs. call_with r a ∷ cs) e

unplaced_rows : (h : History) (rows : List Row) → filter_map (asked_row h) (map row_unplaced rows) ≡ filter_map (asked_row h) rows
unplaced_rows h [] = refl
unplaced_rows h (r ∷ rows) = unplaced_cons r (asked h r.call) (filter_map (asked_row h) (map row_unplaced rows)) (filter_map (asked_row h) rows) (unplaced_rows h rows)

-- journals whose tables are the same but for places, and whose open calls asked the same, have the same open calls
pub calls_alike : (new old : History) → unplaced (tables_of new) ≡ unplaced (tables_of old) → ((k : ℕ) → (waits old k || runs old k) ≡ true → asked new k ≡ asked old k) → open_calls new ≡ open_calls old
calls_alike new old q f =
    sym (by_rows new new (reverse (accepted new)) (λ k c. refl)) ∙ (sym (unplaced_rows new (rows_of new)) ∙ (ap (λ (t : Tables). filter_map (asked_row new) t.rows) q ∙ (unplaced_rows new (rows_of old) ∙ by_rows old new (reverse (accepted old)) f)))

numbers_of_conns : (j : History) (ns : List ℕ) → map (λ (o : OpenConn). o.conn) (map conn_unplaced (map (open_conn j) ns)) ≡ ns
numbers_of_conns j [] = refl
numbers_of_conns j (n ∷ ns) = ap (λ ms. n ∷ ms) (numbers_of_conns j ns)

pub conns_alike : (new old : History) → unplaced (tables_of new) ≡ unplaced (tables_of old) → reverse (conns new) ≡ reverse (conns old)
conns_alike new old q =
    sym (numbers_of_conns new (reverse (conns new))) ∙ (ap (λ (t : Tables). map (λ (o : OpenConn). o.conn) t.conns) q ∙ numbers_of_conns old (reverse (conns old)))

-- and give the same base
pub base_alike : (new old : History) → size new ≡ size old → unplaced (tables_of new) ≡ unplaced (tables_of old) → ((k : ℕ) → (waits old k || runs old k) ≡ true → asked new k ≡ asked old k) → base_of new ≡ base_of old
base_alike new old n q f =
    let made : ℕ → Tables → List ℕ → List BaseCall → Base =
    λ c t ns cs. record { count = c; joins = t.joins; accepts = t.accepts; opens = t.opens; conns = ns; calls = cs; handles = t.items } in
    ap (λ c. made c (unplaced (tables_of new)) (reverse (conns new)) (open_calls new)) n ∙ (ap (λ t. made (size old) t (reverse (conns new)) (open_calls new)) q ∙ (ap (λ ns. made (size old) (unplaced (tables_of old)) ns (open_calls new)) (conns_alike new old q) ∙ ap (made (size old) (unplaced (tables_of old)) (reverse (conns old))) (calls_alike new old q f)))
