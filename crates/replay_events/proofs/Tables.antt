-- One connection of a program is put back among the others.
use Rattle.std.proofs.Common.{◌≡◌, ◌≢◌, ℕ, ◌+◌, ◌<◌, ◌≤◌, ◌==◌, nat_lt, Bool, true, false, not, if◌then◌else◌, Option, Some, None, List, [], ◌∷◌, ◌++◌, filter, refl, sym, ap, subst, ◌∙◌, inl, inr, arith}
use Rattle.std.specs.List.{find}
use Rattle.std.proofs.lemmas.Bool.{cases_order, cases_Bool}
use Rattle.std.proofs.lemmas.Bool.Decides.{nat_tests, eqb_tells}
use Rattle.replay_world.specs.Worlds.{Peer, is_named, put_peer}
use Rattle.replay_events.specs.declared.played.Played.{Played}
use Rattle.replay_events.specs.Showing.{Shows}
use Rattle.replay_events.specs.Tables.{has_name, has_other_name, has_less_name, has_more_name, placed, RiseFrom, EachShows, ShowAll, ShowOthers}
use Rattle.replay_events.proofs.PeerTables.{found_above, puts_back}

-- ---- by names

other_than : (a b : ℕ) → a ≢ b → (a == b) ≡ false
other_than a b d = elim (eqb_tells a b) [ inl e ↦ absurd (d e.1) | inr e ↦ e.0 ]

filter_within : (P Q : Played → Bool) (ts : List Played) → ((t : Played) → P t ≡ true → Q t ≡ true) → filter P (filter Q ts) ≡ filter P ts
filter_within P Q [] w = refl
filter_within P Q (t ∷ ts) w =
    let more = filter_within P Q ts w in
    elim (cases_Bool (Q t)) [
      | inl y ↦ elim (cases_Bool (P t)) [ inl a ↦ rw (y, a) (ap (λ (x : List Played). t ∷ x) more) | inr a ↦ rw (y, a) more ]
      | inr n ↦ elim (cases_Bool (P t)) [ inl a ↦ let b = w t a in absurd (cc (b, n)) | inr a ↦ rw (n, a) more ]
    ]

-- one that is found among those of other names
pub find_other : (d c : ℕ) (ts : List Played) → d ≢ c → find (has_name d) (filter (has_other_name c) ts) ≡ find (has_name d) ts
find_other d c [] n = refl
find_other d c (t ∷ ts) n =
    let more = find_other d c ts n in
    elim (eqb_tells t.name c) [
      | inl e ↦ let f : (t.name == d) ≡ false = other_than t.name d (λ g. n (sym g ∙ e.1)) in rw (e.0, f) more
      | inr e ↦ rw e.0 (ap (λ (o : Option Played). if (t.name == d) then Some t else o) more)
    ]

-- ---- one in its place

low_found : (d c : ℕ) (ts rest : List Played) → d < c → find (has_name d) rest ≡ None → find (has_name d) (filter (has_less_name c) ts ++ rest) ≡ find (has_name d) ts
low_found d c [] rest low none = none
low_found d c (t ∷ ts) rest low none =
    let more = low_found d c ts rest low none in
    elim (cases_Bool (nat_lt t.name c)) [
      | inl y ↦ rw y (ap (λ (o : Option Played). if (t.name == d) then Some t else o) more)
      | inr n ↦ let f : (t.name == d) ≡ false = grind (arith, nat_tests) in rw (n, f) more
    ]

skip_less : (d c : ℕ) (ts rest : List Played) → c ≤ d → find (has_name d) (filter (has_less_name c) ts ++ rest) ≡ find (has_name d) rest
skip_less d c [] rest low = refl
skip_less d c (t ∷ ts) rest low =
    let more = skip_less d c ts rest low in
    elim (cases_Bool (nat_lt t.name c)) [
      | inl y ↦ let f : (t.name == d) ≡ false = grind (arith, nat_tests) in rw (y, f) more
      | inr n ↦ rw n more
    ]

high_found : (d c : ℕ) (ts : List Played) → c < d → find (has_name d) (filter (has_more_name c) ts) ≡ find (has_name d) ts
high_found d c [] low = refl
high_found d c (t ∷ ts) low =
    let more = high_found d c ts low in
    elim (cases_Bool (nat_lt c t.name)) [
      | inl y ↦ rw y (ap (λ (o : Option Played). if (t.name == d) then Some t else o) more)
      | inr n ↦ let f : (t.name == d) ≡ false = grind (arith, nat_tests) in rw (n, f) more
    ]

none_more : (d c : ℕ) (ts : List Played) → d < c → find (has_name d) (filter (has_more_name c) ts) ≡ None
none_more d c [] low = refl
none_more d c (t ∷ ts) low =
    let more = none_more d c ts low in
    elim (cases_Bool (nat_lt c t.name)) [
      | inl y ↦ let f : (t.name == d) ≡ false = grind (arith, nat_tests) in rw (y, f) more
      | inr n ↦ rw n more
    ]

passes : (d : ℕ) (t : Played) (ts : List Played) → d ≢ t.name → find (has_name d) (t ∷ ts) ≡ find (has_name d) ts
passes d t ts n = rw (other_than t.name d (λ e. n (sym e))) refl

pub find_placed : (d : ℕ) (t : Played) (ts : List Played) → d ≢ t.name → find (has_name d) (placed t ts) ≡ find (has_name d) ts
find_placed d t ts n =
    let tail : find (has_name d) (t ∷ filter (has_more_name t.name) ts) ≡ find (has_name d) (filter (has_more_name t.name) ts) = passes d t (filter (has_more_name t.name) ts) n in
    elim (cases_order d t.name) [
      | inl same ↦ absurd (n same)
      | inr (inl less) ↦ low_found d t.name ts (t ∷ filter (has_more_name t.name) ts) less (tail ∙ none_more d t.name ts less)
      | inr (inr more) ↦ skip_less d t.name ts (t ∷ filter (has_more_name t.name) ts) (omega (arith, more)) ∙ tail ∙ high_found d t.name ts more
    ]

same_as : (c : ℕ) → (c == c) ≡ true
same_as c = elim (eqb_tells c c) [ inl e ↦ e.0 | inr e ↦ absurd (e.1 refl) ]

pub find_self : (t : Played) (ts : List Played) → find (has_name t.name) (placed t ts) ≡ Some t
find_self t ts =
    let here : find (has_name t.name) (t ∷ filter (has_more_name t.name) ts) ≡ Some t = rw (same_as t.name) refl in
    skip_less t.name t.name ts (t ∷ filter (has_more_name t.name) ts) (omega arith) ∙ here

-- the connection of a world that is there stays where it is
pub put_same : (low : ℕ) (ps : List Peer) (p : Peer) → RiseFrom low ps → find (is_named p.name) ps ≡ Some p → put_peer p ps ≡ ps
put_same low [] p rise e = absurd (cc (e))
put_same low (q ∷ ps) p rise e =
    elim (cases_order p.name q.name) [
      | inl same ↦
          let t : (p.name == q.name) ≡ true = grind (arith, nat_tests) in
          let u : (q.name == p.name) ≡ true = grind (arith, nat_tests) in
          let one : q ≡ p = cc (rw u at e) in
          rw t (ap (λ (z : Peer). z ∷ ps) (sym one))
      | inr (inl less) ↦
          let u : (q.name == p.name) ≡ false = grind (arith, nat_tests) in
          let low' = found_above (q.name + 1) p.name ps p rise.1 (rw u at e) in
          absurd (omega (arith, less, low'))
      | inr (inr more) ↦
          let t : (p.name == q.name) ≡ false = grind (arith, nat_tests) in
          let l : nat_lt p.name q.name ≡ false = grind (arith, nat_tests) in
          let u : (q.name == p.name) ≡ false = grind (arith, nat_tests) in
          rw (t, l) (ap (λ (z : List Peer). q ∷ z) (put_same (q.name + 1) ps p rise.1 (rw u at e)))
    ]

-- ---- the others, once one is in its place

none_less : (c low : ℕ) (ts : List Played) (ps : List Peer) → EachShows ts ps → RiseFrom low ps → c ≤ low → filter (has_less_name c) ts ≡ []
none_less c low [] ps each rise le = refl
none_less c low (t ∷ ts) [] each rise le = absurd each
none_less c low (t ∷ ts) (p ∷ ps) each rise le =
    let own = each.0.name in
    let first = rise.0 in
    let f : has_less_name c t ≡ false = grind (arith, nat_tests) in
    rw f (none_less c (p.name + 1) ts ps each.1 rise.1 (omega arith))

all_more : (c low : ℕ) (ts : List Played) (ps : List Peer) → EachShows ts ps → RiseFrom low ps → c < low → filter (has_more_name c) ts ≡ ts
all_more c low [] ps each rise lt = refl
all_more c low (t ∷ ts) [] each rise lt = absurd each
all_more c low (t ∷ ts) (p ∷ ps) each rise lt =
    let own = each.0.name in
    let first = rise.0 in
    let f : has_more_name c t ≡ true = grind (arith, nat_tests) in
    rw f (ap (λ (x : List Played). t ∷ x) (all_more c (p.name + 1) ts ps each.1 rise.1 (omega arith)))

others_at : (c low : ℕ) (s : Played) (ts : List Played) (ps : List Peer) → s.name ≡ c → EachShows ts ps → RiseFrom low ps
    → filter (has_other_name c) (filter (has_less_name c) ts ++ s ∷ filter (has_more_name c) ts) ≡ filter (has_other_name c) ts
others_at c low s [] ps name each rise = let f : has_other_name c s ≡ false = grind (arith, nat_tests) in rw f refl
others_at c low s (t ∷ ts) [] name each rise = absurd each
others_at c low s (t ∷ ts) (p ∷ ps) name each rise =
    let own = each.0.name in
    let out : has_other_name c s ≡ false = grind (arith, nat_tests) in
    elim (cases_order t.name c) [
      | inl same ↦
          let a : has_less_name c t ≡ false = grind (arith, nat_tests) in
          let b : has_more_name c t ≡ false = grind (arith, nat_tests) in
          let d : has_other_name c t ≡ false = grind (arith, nat_tests) in
          rw (a, b, d, none_less c (p.name + 1) ts ps each.1 rise.1 (omega arith), all_more c (p.name + 1) ts ps each.1 rise.1 (omega arith), out) refl
      | inr (inl less) ↦
          let a : has_less_name c t ≡ true = grind (arith, nat_tests) in
          let b : has_more_name c t ≡ false = grind (arith, nat_tests) in
          let d : has_other_name c t ≡ true = grind (arith, nat_tests) in
          rw (a, b, d) (ap (λ (x : List Played). t ∷ x) (others_at c (p.name + 1) s ts ps name each.1 rise.1))
      | inr (inr more) ↦
          let a : has_less_name c t ≡ false = grind (arith, nat_tests) in
          let b : has_more_name c t ≡ true = grind (arith, nat_tests) in
          let d : has_other_name c t ≡ true = grind (arith, nat_tests) in
          rw (a, b, none_less c (p.name + 1) ts ps each.1 rise.1 (omega arith), all_more c (p.name + 1) ts ps each.1 rise.1 (omega arith), out, d) refl
    ]

less_other : (c : ℕ) (t : Played) → has_less_name c t ≡ true → has_other_name c t ≡ true
less_other c t h = grind (arith, nat_tests)

more_other : (c : ℕ) (t : Played) → has_more_name c t ≡ true → has_other_name c t ≡ true
more_other c t h = grind (arith, nat_tests)

-- a connection goes on, and the others are those of the world in which it is put
pub others_stay : (c : ℕ) (s : Played) (p : Peer) (ts : List Played) (ps : List Peer) → p.name ≡ c → Shows s p → ShowOthers c ts ps → ShowOthers c ts (put_peer p ps)
others_stay c s p ts ps name shows o =
    let named : s.name ≡ c = shows.name ∙ name in
    let all : List Played = placed s ts in
    let low : filter (has_less_name c) ts ≡ filter (has_less_name c) o.all = ap (filter (has_less_name c)) o.others ∙ filter_within (has_less_name c) (has_other_name c) o.all (less_other c) in
    let high : filter (has_more_name c) ts ≡ filter (has_more_name c) o.all = ap (filter (has_more_name c)) o.others ∙ filter_within (has_more_name c) (has_other_name c) o.all (more_other c) in
    let is : all ≡ filter (has_less_name c) o.all ++ s ∷ filter (has_more_name c) o.all =
    ap (λ (n : ℕ). filter (has_less_name n) ts ++ s ∷ filter (has_more_name n) ts) named ∙ (λ i. low i ++ s ∷ high i) in
    record {
      all = all;
      show = puts_back s ts all refl ps p (subst (λ (n : ℕ). ShowOthers n ts ps) (sym name) o) shows;
      others = o.others ∙ sym (ap (filter (has_other_name c)) is ∙ others_at c 0 s o.all ps named o.show.each o.show.rise);
    }
