-- The open connections, as each entry comes.
use Rattle.std.proofs.Common.{◌≡◌, ◌≢◌, ℕ, ◌+◌, ◌≤◌, ◌<◌, suc, Bool, true, false, ◌&&◌, ◌||◌, not, ◌==◌, List, [], ◌∷◌, ◌++◌, length, map, reverse, refl, sym, ◌∙◌, ap, subst, arith, inl, inr}
use Rattle.std.specs.List.{list_any, filter}
use Rattle.std.proofs.lemmas.Grind.{common_steps}
use Rattle.std.proofs.lemmas.Bool.{eq-eqb, cases_Bool, false_from_ne_true}
use Rattle.std.proofs.lemmas.Bool.Decides.{eqb_tells}
use Rattle.std.proofs.lemmas.List.{map-append, reverse-reverse}
use Rattle.std.proofs.lemmas.List.Elements.{filter-append}
use Rattle.handle_model.specs.declared.entry.Home.{Home}
use Rattle.handle_model.specs.declared.entry.Entry.{Entry}
use Rattle.handle_model.specs.declared.entry.Entry.TheVariants.{Join, Leave}
use Rattle.handle_model.specs.declared.base.Base.{Base}
use Rattle.handle_model.specs.Bases.{is_number, has_conn}
use Rattle.handle_model.specs.Sound.{IsSoundBase}
use Rattle.handle_model.specs.History.{History, since, with_entry, size}
use Rattle.handle_model.specs.Journal.{Legal, leaves, join_count, joined, has_joined, is_open, conns, is_empty}
use Rattle.handle_model.proofs.Tests.{and_left, or_right}
use Rattle.handle_model.proofs.Held.{left_joined, joined_within}
use Rattle.handle_model.proofs.Reversed.{reverse-cons, list_any-reverse}
use Rattle.call_table.proofs.Calls.{Falls, rises_fall, falls_within, self, turned}
use Rattle.journal_tables.specs.declared.conns.OpenConn.{OpenConn}
use Rattle.journal_tables.specs.Conns.{is_conn, is_other, has_open, without}
use Rattle.journal_tables.specs.Shown.{open_conn, conns_of, base_conn}

-- LISTS OF NUMBERS

abbrev pub has : ℕ → List ℕ → Bool
has m ns = list_any (is_number m) ns

filter_same : (p q : ℕ → Bool) (ns : List ℕ) → ((m : ℕ) → has m ns ≡ true → p m ≡ q m) → filter p ns ≡ filter q ns
filter_same p q [] e = refl
filter_same p q (n ∷ ns) e =
    let s = self n in
    let here = e n (rw s refl) in
    let more = filter_same p q ns (λ m i. e m (or_right (n == m) (has m ns) i)) in
    elim (cases_Bool (q n)) [ inl t ↦ rw (here, t, more) refl | inr t ↦ rw (here, t, more) refl ]

filter_all : (p : ℕ → Bool) (ns : List ℕ) → ((m : ℕ) → has m ns ≡ true → p m ≡ true) → filter p ns ≡ ns
filter_all p [] e = refl
filter_all p (n ∷ ns) e =
    let s = self n in
    let here = e n (rw s refl) in
    let more = filter_all p ns (λ m i. e m (or_right (n == m) (has m ns) i)) in rw (here, more) refl

filter_both : (p q r : ℕ → Bool) (ns : List ℕ) → ((m : ℕ) → p m ≡ (q m && r m)) → filter p ns ≡ filter r (filter q ns)
filter_both p q r [] e = refl
filter_both p q r (n ∷ ns) e =
    let here = e n in
    let more = filter_both p q r ns e in
    elim (cases_Bool (q n)) [
      | inl t ↦ elim (cases_Bool (r n)) [ inl u ↦ rw (here, t, u, more) refl | inr u ↦ rw (here, t, u, more) refl ]
      | inr t ↦ rw (here, t, more) refl
    ]

pub filter_turned : (p : ℕ → Bool) (ns : List ℕ) → reverse (filter p ns) ≡ filter p (reverse ns)
filter_turned p [] = refl
filter_turned p (n ∷ ns) =
    let more = filter_turned p ns in
    let whole = ap (filter p) (reverse-cons n ns) ∙ filter-append p (reverse ns) (n ∷ []) in
    elim (cases_Bool (p n)) [
      | inl t ↦ rw t (reverse-cons n (filter p ns) ∙ (ap (λ xs. xs ++ n ∷ []) more ∙ sym (whole ∙ rw t refl)))
      | inr t ↦ rw t (more ∙ sym (whole ∙ rw t (append_none (filter p (reverse ns)))))
    ]
  where
    append_none : (xs : List ℕ) → xs ++ [] ≡ xs
    append_none [] = refl
    append_none (x ∷ xs) = ap (λ ys. x ∷ ys) (append_none xs)

has_filter : (p : ℕ → Bool) (m : ℕ) (ns : List ℕ) → has m (filter p ns) ≡ (has m ns && p m)
has_filter p m [] = refl
has_filter p m (n ∷ ns) =
    let more = has_filter p m ns in
    elim (eqb_tells n m) [
      | inl e ↦
          let same : p n ≡ p m = ap p e.1 in
          elim (cases_Bool (p m)) [
            | inl t ↦ let u : p n ≡ true = same ∙ t in rw (u, e.0, t) refl
            | inr t ↦ let u : p n ≡ false = same ∙ t in rw (u, e.0, t) (more ∙ rw t (and_off (has m ns)))
          ]
      | inr e ↦ elim (cases_Bool (p n)) [ inl t ↦ rw (t, e.0) more | inr t ↦ rw (t, e.0) more ]
    ]
  where
    and_off : (b : Bool) → (b && false) ≡ false
    and_off true = refl
    and_off false = refl

map_same : (f g : ℕ → OpenConn) (ns : List ℕ) → ((m : ℕ) → has m ns ≡ true → f m ≡ g m) → map f ns ≡ map g ns
map_same f g [] e = refl
map_same f g (n ∷ ns) e =
    let s = self n in
    let here = e n (rw s refl) in
    let more = map_same f g ns (λ m i. e m (or_right (n == m) (has m ns) i)) in rw (here, more) refl

-- JOINED CONNECTIONS

has_since : (home : Home) (base : Base) (past : List Entry) (c : ℕ) → has c (joined (since home base past)) ≡ has_joined (since home base past) c
has_since home base [] c = list_any-reverse (is_number c) base.conns
has_since home base (Join d ∷ past) c = ap (λ b. (d == c) || b) (has_since home base past c)
has_since home base (_ ∷ past) c = has_since home base past c

has_listed : (j : History) (c : ℕ) → has c (joined j) ≡ has_joined j c
has_listed j c = has_since j.home j.base j.past c

pub falls_since : (home : Home) (base : Base) (past : List Entry) → Legal (since home base past) → Falls (join_count (since home base past) + 1) 0 (joined (since home base past))
falls_since home base [] l = rises_fall base.joins base.conns l.conns_rise l.conns_within
falls_since home base (Join c ∷ past) l =
    let first = l.0.fits.0 in
    (omega (arith, first), subst (λ n. Falls n 0 (joined (since home base past))) (sym first) (falls_since home base past l.1))
falls_since home base (_ ∷ past) l = falls_since home base past l.1

joined_below : (j : History) (m : ℕ) → Legal j → has m (joined j) ≡ true → m < join_count j + 1
joined_below j m l i = falls_within (join_count j + 1) 0 (joined j) m (falls_since j.home j.base j.past l) i

twice : (a b : Bool) → (a && (a && b)) ≡ (a && b)
twice true b = refl
twice false b = refl

-- the open connections are those that joined and have not left
pub open_listed : (j : History) (c : ℕ) → has c (conns j) ≡ is_open j c
open_listed j c =
    has_filter (is_open j) c (joined j) ∙ (ap (λ b. b && is_open j c) (has_listed j c) ∙ twice (has_joined j c) (not (list_any (leaves c) j.past)))

any_conn : (j : History) (c : ℕ) (ns : List ℕ) → has_open (map (open_conn j) ns) c ≡ has c ns
any_conn j c [] = refl
any_conn j c (n ∷ ns) = ap (λ b. (n == c) || b) (any_conn j c ns)

pub open_shown : (j : History) (c : ℕ) → has_open (conns_of j) c ≡ is_open j c
open_shown j c = any_conn j c (reverse (conns j)) ∙ (list_any-reverse (is_number c) (conns j) ∙ open_listed j c)

-- HOW MANY

mapped_count : (j : History) (ns : List ℕ) → length (map (open_conn j) ns) ≡ length ns
mapped_count j [] = refl
mapped_count j (n ∷ ns) = ap (λ n. suc n) (mapped_count j ns)

turned_count : (ns : List ℕ) → length (reverse ns) ≡ length ns
turned_count ns = grind (arith, common_steps)

pub count_shown : (j : History) → length (conns_of j) ≡ length (conns j)
count_shown j = mapped_count j (reverse (conns j)) ∙ turned_count (conns j)

none_counted : (ns : List ℕ) → (length ns == 0) ≡ is_empty ns
none_counted [] = refl
none_counted (n ∷ ns) = elim (eqb_tells (length (n ∷ ns)) 0) [ inl e ↦ absurd (omega (arith, e.1)) | inr e ↦ e.0 ]

pub none_shown : (j : History) → (length (conns_of j) == 0) ≡ is_empty (conns j)
none_shown j = ap (λ n. n == 0) (count_shown j) ∙ none_counted (conns j)

-- A CONNECTION JOINS

new_open : (j : History) (c : ℕ) → Legal j → c ≡ join_count j + 1 → is_open (with_entry j (Join c)) c ≡ true
new_open j c l e =
    let s = self c in
    let stays : list_any (leaves c) j.past ≡ false =
    false_from_ne_true (list_any (leaves c) j.past) (λ t. let w = joined_within j.home j.base j.past c l (left_joined j.home j.base j.past c l t) in absurd (omega (arith, e, w))) in
    rw (s, stays) refl

older_open : (j : History) (c m : ℕ) → (c == m) ≡ false → is_open (with_entry j (Join c)) m ≡ is_open j m
older_open j c m d = rw d refl

apart_from : (j : History) (c m : ℕ) → Legal j → c ≡ join_count j + 1 → has m (joined j) ≡ true → (c == m) ≡ false
apart_from j c m l e i =
    let low = joined_below j m l i in
    elim (eqb_tells c m) [ inl f ↦ let same = f.1 in absurd (omega (arith, e, low, same)) | inr f ↦ f.0 ]

conns_join : (j : History) (c : ℕ) → Legal j → c ≡ join_count j + 1 → conns (with_entry j (Join c)) ≡ c ∷ conns j
conns_join j c l e =
    let new = new_open j c l e in
    rw new (ap (λ ns. c ∷ ns) (filter_same (is_open (with_entry j (Join c))) (is_open j) (joined j) (λ m i. older_open j c m (apart_from j c m l e i))))

open_joined : (j : History) (m : ℕ) → has m (reverse (conns j)) ≡ true → has m (joined j) ≡ true
open_joined j m i =
    let o : is_open j m ≡ true = sym (open_listed j m) ∙ (sym (list_any-reverse (is_number m) (conns j)) ∙ i) in
    has_listed j m ∙ and_left (has_joined j m) (not (list_any (leaves m) j.past)) o

older_conn : (j : History) (c m : ℕ) → (c == m) ≡ false → open_conn (with_entry j (Join c)) m ≡ open_conn j m
older_conn j c m d = rw d refl

newest_conn : (j : History) (c : ℕ) → open_conn (with_entry j (Join c)) c ≡ record { conn = c; place = size j }
newest_conn j c = let s = self c in rw s refl

pub join_conns : (j : History) (c : ℕ) → Legal j → c ≡ join_count j + 1 → conns_of (with_entry j (Join c)) ≡ conns_of j ++ record { conn = c; place = size j } ∷ []
join_conns j c l e =
    let h : History = with_entry j (Join c) in
    let olds = map_same (open_conn h) (open_conn j) (reverse (conns j)) (λ m i. older_conn j c m (apart_from j c m l e (open_joined j m i))) in
    ap (λ ns. map (open_conn h) (reverse ns)) (conns_join j c l e) ∙ (ap (map (open_conn h)) (reverse-cons c (conns j)) ∙ (map-append (open_conn h) (reverse (conns j)) (c ∷ []) ∙ (ap (λ xs. xs ++ open_conn h c ∷ []) olds ∙ ap (λ x. conns_of j ++ x ∷ []) (newest_conn j c))))

-- AND LEAVES

left_open : (j : History) (c m : ℕ) → is_open (with_entry j (Leave c)) m ≡ (is_open j m && not (m == c))
left_open j c m =
    elim (eqb_tells c m) [
      | inl e ↦ let q = eq-eqb m c (sym e.1) in rw (e.0, q) (bools (has_joined j m) (list_any (leaves m) j.past))
      | inr e ↦ let q = turned c m e.0 in rw (e.0, q) (ends (has_joined j m) (list_any (leaves m) j.past))
    ]
  where
    bools : (a b : Bool) → (a && false) ≡ ((a && not b) && false)
    bools true true = refl
    bools true false = refl
    bools false b = refl

    ends : (a b : Bool) → (a && not b) ≡ ((a && not b) && true)
    ends true true = refl
    ends true false = refl
    ends false b = refl

map_without : (j : History) (c : ℕ) (ns : List ℕ) → map (open_conn j) (filter (λ m. not (m == c)) ns) ≡ without c (map (open_conn j) ns)
map_without j c [] = refl
map_without j c (n ∷ ns) =
    let more = map_without j c ns in elim (cases_Bool (n == c)) [ inl t ↦ rw (t, more) refl | inr t ↦ rw (t, more) refl ]

pub leave_conns : (j : History) (c : ℕ) → conns_of (with_entry j (Leave c)) ≡ without c (conns_of j)
leave_conns j c =
    let q : ℕ → Bool = λ m. not (m == c) in
    ap (λ ns. map (open_conn j) (reverse ns)) (filter_both (is_open (with_entry j (Leave c))) (is_open j) q (joined j) (left_open j c)) ∙ (ap (map (open_conn j)) (filter_turned q (conns j)) ∙ map_without j c (reverse (conns j)))

-- A BASE

base_open : (home : Home) (base : Base) (m : ℕ) → has m (reverse base.conns) ≡ true → is_open (since home base []) m ≡ true
base_open home base m i = let h : has_conn base m ≡ true = sym (list_any-reverse (is_number m) base.conns) ∙ i in rw h refl

pub base_conns : (home : Home) (base : Base) → conns_of (since home base []) ≡ map (base_conn base.count) base.conns
base_conns home base =
    let j : History = since home base [] in
    ap (λ ns. map (open_conn j) (reverse ns)) (filter_all (is_open j) (reverse base.conns) (base_open home base)) ∙ ap (map (open_conn j)) (reverse-reverse base.conns)
