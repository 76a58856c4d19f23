-- The floor of the tables is that of their journal.
use Rattle.std.proofs.Common.{◌≡◌, ◌≢◌, ℕ, ◌+◌, ◌≤◌, ◌<◌, suc, Bool, true, false, ◌&&◌, ◌||◌, not, ◌==◌, min, Option, Some, None, is_some, unwrap_or, List, [], ◌∷◌, ◌++◌, length, map, reverse, refl, sym, ◌∙◌, ap, subst, arith, inl, inr}
use Rattle.std.specs.List.{list_any, filter, find}
use Rattle.std.specs.Option.{option_map}
use Rattle.std.proofs.lemmas.Bool.{eq-eqb, eqb-true, cases_Bool}
use Rattle.std.proofs.lemmas.Bool.Decides.{eqb_tells}
use Rattle.std.proofs.lemmas.List.Folds.{list_any-append}
use Rattle.handle_model.specs.declared.entry.Home.{Home}
use Rattle.handle_model.specs.declared.entry.Asked.{Asked}
use Rattle.handle_model.specs.declared.entry.Entry.{Entry}
use Rattle.handle_model.specs.declared.entry.Entry.TheVariants.{Join, Accept, Take, Deny, Cancel, Orphan, End, Leave, Shut}
use Rattle.handle_model.specs.declared.base.BaseCall.{BaseCall}
use Rattle.handle_model.specs.declared.base.Base.{Base}
use Rattle.handle_model.specs.Bases.{is_number, is_call, has_conn, asked_before}
use Rattle.handle_model.specs.Folds.{begins, begins_before, places, floor}
use Rattle.handle_model.specs.History.{History, since, size}
use Rattle.handle_model.specs.Journal.{Legal, leaves, least, lesser, join_count, accept_count, has_joined, is_open, conns, asked, waits, runs}
use Rattle.handle_model.proofs.Tests.{and_left, and_right, or_right, or_cases}
use Rattle.handle_model.proofs.Held.{joined_within}
use Rattle.handle_model.proofs.Reversed.{list_any-reverse}
use Rattle.handle_model.proofs.Apart.{asked_within}
use Rattle.call_table.specs.declared.row.Row.{Row}
use Rattle.call_table.specs.Rows.{is_call as of_call, is_running, running_places}
use Rattle.call_table.specs.Shown.{place_since as call_since, place_of, row_as, row_in, rows_of}
use Rattle.call_table.proofs.Calls.{self, runs_asked}
use Rattle.call_table.proofs.Found.{passes, is_of, any_rows, least_same}
use Rattle.journal_tables.specs.declared.conns.OpenConn.{OpenConn}
use Rattle.journal_tables.specs.Shown.{place_since, open_conn, conns_of, tables_of}
use Rattle.journal_tables.specs.Floor.{open_places, lesser_of, floor_of}
use Rattle.journal_tables.proofs.Joined.{has, open_listed}

-- LEAST NUMBERS

lesser_twice : (x n : ℕ) (b : Option ℕ) → lesser x (lesser n b) ≡ lesser (min x n) b
lesser_twice x n None = refl
lesser_twice x n (Some m) = let same : min x (min n m) ≡ min (min x n) m = omega arith in ap (λ y. Some y) same

lesser_parts : (x : ℕ) (a b : Option ℕ) → lesser x (lesser_of a b) ≡ lesser_of (lesser x a) b
lesser_parts x None b = refl
lesser_parts x (Some n) b = lesser_twice x n b

least_append : (xs ys : List ℕ) → least (xs ++ ys) ≡ lesser_of (least xs) (least ys)
least_append [] ys = refl
least_append (x ∷ xs) ys = ap (lesser x) (least_append xs ys) ∙ lesser_parts x (least xs) (least ys)

both_true : (a b : Bool) → (a ≡ true → b ≡ true) → (b ≡ true → a ≡ true) → a ≡ b
both_true true b f g = sym (f refl)
both_true false false f g = refl
both_true false true f g = g refl

-- PLACES IN THE TABLES

placed : (j : History) (ns : List ℕ) (c : ℕ) → has c ns ≡ true → has (place_since j.base j.past c) (open_places (map (open_conn j) ns)) ≡ true
placed j [] c i = absurd (cc)
placed j (n ∷ ns) c i =
    elim (eqb_tells n c) [
      | inl e ↦ let q = eq-eqb (place_since j.base j.past n) (place_since j.base j.past c) (ap (place_since j.base j.past) e.1) in rw q refl
      | inr e ↦ or_right _ _ (placed j ns c (rw e.0 at i))
    ]

place_held : (j : History) (ns : List ℕ) (p : ℕ) → has p (open_places (map (open_conn j) ns)) ≡ true → (c : ℕ) × (has c ns ≡ true) × (place_since j.base j.past c ≡ p)
place_held j [] p i = absurd (cc)
place_held j (n ∷ ns) p i =
    elim (or_cases (place_since j.base j.past n == p) (has p (open_places (map (open_conn j) ns))) i) [
      | inl e ↦ let s = self n in (n, rw s refl, eqb-true (place_since j.base j.past n) p e)
      | inr r ↦ let w = place_held j ns p r in (w.0, or_right (n == w.0) (has w.0 ns) w.1, w.2)
    ]

-- a running call whose Accept stands there
abbrev runs_from : ℕ → Row → Bool
runs_from p r = r.runs && (r.place == p)

from_rows : (p : ℕ) (rows : List Row) → has p (running_places rows) ≡ list_any (runs_from p) rows
from_rows p [] = refl
from_rows p (r ∷ rows) =
    let more = from_rows p rows in elim (cases_Bool r.runs) [ inl t ↦ rw (t, more) refl | inr t ↦ rw (t, more) refl ]

of_any : (k : ℕ) (p : Row → Bool) (rows : List Row) → list_any (is_of k p) rows ≡ true → list_any p rows ≡ true
of_any k p [] h = absurd (cc)
of_any k p (r ∷ rows) h =
    elim (or_cases (is_of k p r) (list_any (is_of k p) rows) h) [
      | inl e ↦ let t = and_right (of_call k r) (p r) e in rw t refl
      | inr m ↦ or_right (p r) (list_any p rows) (of_any k p rows m)
    ]

any_of : (p : Row → Bool) (rows : List Row) → list_any p rows ≡ true → (k : ℕ) × (list_any (is_of k p) rows ≡ true)
any_of p [] h = absurd (cc)
any_of p (r ∷ rows) h =
    elim (or_cases (p r) (list_any p rows) h) [
      | inl e ↦ (r.call, let s = self r.call in rw (s, e) refl)
      | inr m ↦ let w = any_of p rows m in (w.0, or_right (is_of w.0 p r) (list_any (is_of w.0 p) rows) w.1)
    ]

running_as : (j : History) (k p : ℕ) (o : Option Asked) → Legal j → asked j k ≡ o → runs j k ≡ true → place_of j k ≡ p → passes (runs_from p) (row_as j k o) ≡ true
running_as j k p None l e r q = absurd (let s = runs_asked j k None l e r in cc)
running_as j k p (Some a) l e r q =
    let active : (waits j k || runs j k) ≡ true = or_right (waits j k) (runs j k) r in
    let at = eq-eqb (place_of j k) p q in rw active (rw (r, at) refl)

running_from : (j : History) (k p : ℕ) (o : Option Asked) → asked j k ≡ o → passes (runs_from p) (row_as j k o) ≡ true → (runs j k ≡ true) × (place_of j k ≡ p)
running_from j k p None e h = absurd (cc)
running_from j k p (Some a) e h =
    elim (cases_Bool (waits j k || runs j k)) [
      | inl c ↦
          let t : (runs j k && (place_of j k == p)) ≡ true = (rw c at h) in
          (and_left (runs j k) (place_of j k == p) t, eqb-true (place_of j k) p (and_right (runs j k) (place_of j k == p) t))
      | inr c ↦ absurd (let f = rw c at h in cc)
    ]

-- all of them
abbrev all_places : History → List ℕ
all_places j = open_places (conns_of j) ++ running_places (rows_of j)

listed : (j : History) (c : ℕ) → has c (reverse (conns j)) ≡ is_open j c
listed j c = list_any-reverse (is_number c) (conns j) ∙ open_listed j c

or_first : (a b : Bool) → a ≡ true → (a || b) ≡ true
or_first true b h = refl
or_first false b h = absurd (cc)

conn_among : (j : History) (c p : ℕ) → is_open j c ≡ true → place_since j.base j.past c ≡ p → has p (all_places j) ≡ true
conn_among j c p o q =
    list_any-append (is_number p) (open_places (conns_of j)) (running_places (rows_of j)) ∙ or_first (has p (open_places (conns_of j))) (has p (running_places (rows_of j))) (subst (λ n. has n (open_places (conns_of j)) ≡ true) q (placed j (reverse (conns j)) c (listed j c ∙ o)))

call_among : (j : History) (k p : ℕ) → Legal j → runs j k ≡ true → place_of j k ≡ p → has p (all_places j) ≡ true
call_among j k p l r q =
    list_any-append (is_number p) (open_places (conns_of j)) (running_places (rows_of j)) ∙ or_right (has p (open_places (conns_of j))) (has p (running_places (rows_of j))) (from_rows p (rows_of j) ∙ of_any k (runs_from p) (rows_of j) (any_rows j k (runs_from p) ∙ running_as j k p (asked j k) l refl r q))

-- AND IN THE JOURNAL

more : (j : History) (e : Entry) (past : List Entry) (p : ℕ) → has p (places j past) ≡ true → has p (places j (e ∷ past)) ≡ true
more j e past p h = elim (cases_Bool (begins j e)) [ inl b ↦ rw b (or_right (j.base.count + length past == p) (has p (places j past)) h) | inr b ↦ rw b h ]

passing : (q : ℕ → Bool) (ns : List ℕ) (c : ℕ) → has c ns ≡ true → q c ≡ true → list_any q ns ≡ true
passing q [] c i t = absurd (cc)
passing q (n ∷ ns) c i t =
    elim (eqb_tells n c) [
      | inl e ↦ let u : q n ≡ true = ap q e.1 ∙ t in rw u refl
      | inr e ↦ or_right (q n) (list_any q ns) (passing q ns c (rw e.0 at i) t)
    ]

conn_placed : (j : History) (past : List Entry) (c : ℕ) → is_open j c ≡ true → has_joined (since j.home j.base past) c ≡ true → has (place_since j.base past c) (places j past) ≡ true
conn_placed j [] c o h =
    let b : begins_before j ≡ true = or_first _ _ (passing (is_open j) j.base.conns c h o) in
    let s = self j.base.count in rw (b, s) refl
conn_placed j (Join d ∷ past) c o h =
    elim (eqb_tells d c) [
      | inl e ↦
          let b : is_open j d ≡ true = ap (is_open j) e.1 ∙ o in
          let s = self (j.base.count + length past) in rw (e.0, b, s) refl
      | inr e ↦ rw e.0 (more j (Join d) past (place_since j.base past c) (conn_placed j past c o (rw e.0 at h)))
    ]
conn_placed j (e ∷ past) c o h = more j e past (place_since j.base past c) (conn_placed j past c o h)

found_passing : (q : ℕ → Bool) (cs : List BaseCall) (k : ℕ) → is_some (option_map (λ (c : BaseCall). c.asked) (find (is_call k) cs)) ≡ true → q k ≡ true → list_any (λ (c : BaseCall). q c.call) cs ≡ true
found_passing q [] k i t = absurd (cc)
found_passing q (c ∷ cs) k i t =
    elim (eqb_tells c.call k) [
      | inl e ↦ let u : q c.call ≡ true = ap q e.1 ∙ t in rw u refl
      | inr e ↦ or_right (q c.call) (list_any (λ (c : BaseCall). q c.call) cs) (found_passing q cs k (rw e.0 at i) t)
    ]

call_placed : (j : History) (past : List Entry) (k : ℕ) → runs j k ≡ true → is_some (asked (since j.home j.base past) k) ≡ true → has (call_since j.base past k) (places j past) ≡ true
call_placed j [] k r h =
    let b : begins_before j ≡ true = or_right _ _ (found_passing (runs j) j.base.calls k h r) in
    let s = self j.base.count in rw (b, s) refl
call_placed j (Accept m a ∷ past) k r h =
    elim (eqb_tells m k) [
      | inl e ↦
          let b : runs j m ≡ true = ap (runs j) e.1 ∙ r in
          let s = self (j.base.count + length past) in rw (e.0, b, s) refl
      | inr e ↦ rw e.0 (more j (Accept m a) past (call_since j.base past k) (call_placed j past k r (rw e.0 at h)))
    ]
call_placed j (e ∷ past) k r h = more j e past (call_since j.base past k) (call_placed j past k r h)

-- WHAT A PLACE IN THE JOURNAL BEGINS

some_conn : (q : ℕ → Bool) (ns : List ℕ) → list_any q ns ≡ true → (c : ℕ) × (q c ≡ true) × (has c ns ≡ true)
some_conn q [] h = absurd (cc)
some_conn q (n ∷ ns) h =
    elim (or_cases (q n) (list_any q ns) h) [
      | inl e ↦ (n, e, let s = self n in rw s refl)
      | inr m ↦ let w = some_conn q ns m in (w.0, w.1, or_right (n == w.0) (has w.0 ns) w.2)
    ]

some_call : (q : ℕ → Bool) (cs : List BaseCall) → list_any (λ (c : BaseCall). q c.call) cs ≡ true → (k : ℕ) × (q k ≡ true) × (is_some (option_map (λ (c : BaseCall). c.asked) (find (is_call k) cs)) ≡ true)
some_call q [] h = absurd (cc)
some_call q (c ∷ cs) h =
    elim (or_cases (q c.call) (list_any (λ (c : BaseCall). q c.call) cs) h) [
      | inl e ↦ (c.call, e, let s = self c.call in rw s refl)
      | inr m ↦
          let w = some_call q cs m in
          (w.0, w.1, elim (eqb_tells c.call w.0) [ inl f ↦ rw f.0 refl | inr f ↦ rw f.0 w.2 ])
    ]

asked_low : (j : History) (past : List Entry) (k : ℕ) (o : Option Asked) → Legal (since j.home j.base past) → asked (since j.home j.base past) k ≡ o → is_some o ≡ true → k ≤ accept_count (since j.home j.base past)
asked_low j past k None l e i = absurd (cc)
asked_low j past k (Some a) l e i = asked_within j.home j.base past k a l e

-- the places of what had joined and was accepted by then are those of the whole journal
abbrev pub ConnsAt : History → List Entry → Type 0
ConnsAt j past = (c : ℕ) → has_joined (since j.home j.base past) c ≡ true → place_since j.base j.past c ≡ place_since j.base past c

abbrev pub CallsAt : History → List Entry → Type 0
CallsAt j past = (k : ℕ) → is_some (asked (since j.home j.base past) k) ≡ true → place_of j k ≡ call_since j.base past k

before_join : (j : History) (past : List Entry) (d : ℕ) → Legal (since j.home j.base (Join d ∷ past)) → ConnsAt j (Join d ∷ past) → ConnsAt j past
before_join j past d l f c h =
    let low = joined_within j.home j.base past c l.1 h in
    let first = l.0.fits.0 in
    let other : (d == c) ≡ false = elim (eqb_tells d c) [ inl e ↦ let same = e.1 in absurd (omega (arith, low, first, same)) | inr e ↦ e.0 ] in
    f c (or_right (d == c) (has_joined (since j.home j.base past) c) h) ∙ rw other refl

before_accept : (j : History) (past : List Entry) (m : ℕ) (a : Asked) → Legal (since j.home j.base (Accept m a ∷ past)) → CallsAt j (Accept m a ∷ past) → CallsAt j past
before_accept j past m a l f k h =
    let low = asked_low j past k (asked (since j.home j.base past) k) l.1 refl h in
    let first = l.0.fits.0 in
    let other : (m == k) ≡ false = elim (eqb_tells m k) [ inl e ↦ let same = e.1 in absurd (omega (arith, low, first, same)) | inr e ↦ e.0 ] in
    f k (rw other h) ∙ rw other refl

begun : (j : History) (past : List Entry) (p : ℕ) → Legal j → Legal (since j.home j.base past) → ConnsAt j past → CallsAt j past → has p (places j past) ≡ true → has p (all_places j) ≡ true
begun j [] p w l f g h =
    elim (cases_Bool (begins_before j)) [
      | inl b ↦
          let t : (j.base.count == p || false) ≡ true = rw b at h in
          elim (or_cases (j.base.count == p) false t) [
            | inl e ↦
                let q = eqb-true j.base.count p e in
                elim (or_cases (list_any (is_open j) j.base.conns) (list_any (λ (c : BaseCall). runs j c.call) j.base.calls) b) [
                  | inl x ↦ let c = some_conn (is_open j) j.base.conns x in conn_among j c.0 p c.1 (f c.0 c.2 ∙ q)
                  | inr y ↦ let k = some_call (runs j) j.base.calls y in call_among j k.0 p w k.1 (g k.0 k.2 ∙ q)
                ]
            | inr n ↦ absurd (cc)
          ]
      | inr b ↦ absurd (let n = rw b at h in cc)
    ]
begun j (Join d ∷ past) p w l f g h =
    let rest : has p (places j past) ≡ true → has p (all_places j) ≡ true = begun j past p w l.1 (before_join j past d l f) g in
    elim (cases_Bool (is_open j d)) [
      | inl b ↦ elim (or_cases (j.base.count + length past == p) (has p (places j past)) (rw b at h)) [
        | inl e ↦
            let s = self d in
            let here : place_since j.base j.past d ≡ j.base.count + length past = f d (rw s refl) ∙ rw s refl in
            conn_among j d p b (here ∙ eqb-true (j.base.count + length past) p e)
        | inr m ↦ rest m
      ]
      | inr b ↦ rest (rw b at h)
    ]
begun j (Accept m a ∷ past) p w l f g h =
    let rest : has p (places j past) ≡ true → has p (all_places j) ≡ true = begun j past p w l.1 f (before_accept j past m a l g) in
    elim (cases_Bool (runs j m)) [
      | inl b ↦ elim (or_cases (j.base.count + length past == p) (has p (places j past)) (rw b at h)) [
        | inl e ↦
            let s = self m in
            let here : place_of j m ≡ j.base.count + length past = g m (rw s refl) ∙ rw s refl in
            call_among j m p w b (here ∙ eqb-true (j.base.count + length past) p e)
        | inr n ↦ rest n
      ]
      | inr b ↦ rest (rw b at h)
    ]
begun j (Take k cookies ∷ past) p w l f g h = begun j past p w l.1 f g h
begun j (Deny k slot ∷ past) p w l f g h = begun j past p w l.1 f g h
begun j (Cancel k ∷ past) p w l f g h = begun j past p w l.1 f g h
begun j (Orphan k ∷ past) p w l f g h = begun j past p w l.1 f g h
begun j (End k results said ∷ past) p w l f g h = begun j past p w l.1 f g h
begun j (Leave c ∷ past) p w l f g h = begun j past p w l.1 f g h
begun j (Shut items ∷ past) p w l f g h = begun j past p w l.1 f g h

-- THE FLOOR

held : (j : History) (p : ℕ) → Legal j → has p (all_places j) ≡ true → has p (places j j.past) ≡ true
held j p l h =
    elim (or_cases (has p (open_places (conns_of j))) (has p (running_places (rows_of j))) (sym (list_any-append (is_number p) (open_places (conns_of j)) (running_places (rows_of j))) ∙ h)) [
      | inl x ↦
          let c = place_held j (reverse (conns j)) p x in
          let o : is_open j c.0 ≡ true = sym (listed j c.0) ∙ c.1 in
          subst (λ n. has n (places j j.past) ≡ true) c.2 (conn_placed j j.past c.0 o (and_left (has_joined j c.0) (not (list_any (leaves c.0) j.past)) o))
      | inr y ↦
          let k = any_of (runs_from p) (rows_of j) (sym (from_rows p (rows_of j)) ∙ y) in
          let r = running_from j k.0 p (asked j k.0) refl (sym (any_rows j k.0 (runs_from p)) ∙ k.1) in
          subst (λ n. has n (places j j.past) ≡ true) r.1 (call_placed j j.past k.0 r.0 (runs_asked j k.0 (asked j k.0) l refl r.0))
    ]

same_places : (j : History) (p : ℕ) → Legal j → has p (all_places j) ≡ has p (places j j.past)
same_places j p l = both_true (has p (all_places j)) (has p (places j j.past)) (held j p l) (begun j j.past p l l (λ c h. refl) (λ k h. refl))

pub floor_shown : (j : History) → Legal j → unwrap_or (floor_of (tables_of j)) (size j) ≡ floor j
floor_shown j l =
    ap (λ o. unwrap_or o (size j)) (sym (least_append (open_places (conns_of j)) (running_places (rows_of j))) ∙ least_same (all_places j) (places j j.past) (λ p. same_places j p l))
