-- Connections by rising name, and those of a world.
use Rattle.std.proofs.Common.{◌≡◌, ℕ, ◌+◌, ◌<◌, ◌≤◌, ◌==◌, nat_lt, Bool, true, false, not, inl, inr, Option, Some, None, if◌then◌else◌, List, [], ◌∷◌, ◌++◌, filter, map, refl, sym, ap, subst, ◌∙◌, arith}
use Rattle.std.specs.Prelude.{⊤}
use Rattle.std.specs.List.{find, AllByRecursion}
use Rattle.std.proofs.lemmas.Bool.{cases_order, cases_Bool}
use Rattle.std.proofs.lemmas.Bool.Decides.{nat_tests}
use Rattle.replay_world.specs.Worlds.{Peer, is_named, put_peer}
use Rattle.replay_world.specs.Replays.{name_of}
use Rattle.replay_events.specs.declared.played.Played.{Played}
use Rattle.replay_events.specs.Showing.{Shows}
use Rattle.replay_events.specs.Tables.{name_in, has_name, has_other_name, has_less_name, has_more_name, placed, TakesOut, RiseFrom, EachShows, ShowAll, ShowOthers, Takes, Finds}

-- ---- what holds of each

module _ (P : Played → Type 0) where
  pub all_filter : (keep : Played → Bool) (ts : List Played) → AllByRecursion P ts → AllByRecursion P (filter keep ts)
  all_filter keep [] all = tt
  all_filter keep (t ∷ ts) all =
      elim (cases_Bool (keep t)) [
        | inl y ↦ rw y (all.0, all_filter keep ts all.1)
        | inr n ↦ rw n (all_filter keep ts all.1)
      ]

  all_both : (a b : List Played) → AllByRecursion P a → AllByRecursion P b → AllByRecursion P (a ++ b)
  all_both [] b h k = k
  all_both (t ∷ a) b h k = (h.0, all_both a b h.1 k)

  pub all_placed : (t : Played) (ts : List Played) → P t → AllByRecursion P ts → AllByRecursion P (placed t ts)
  all_placed t ts is all = all_both (filter (has_less_name t.name) ts) (t ∷ filter (has_more_name t.name) ts) (all_filter (has_less_name t.name) ts all) (is, all_filter (has_more_name t.name) ts all)

  pub all_found : (keep : Played → Bool) (ts : List Played) (t : Played) → find keep ts ≡ Some t → AllByRecursion P ts → P t
  all_found keep [] t e all = absurd (cc (e))
  all_found keep (x ∷ ts) t e all =
      elim (cases_Bool (keep x)) [
        | inl y ↦ let same : x ≡ t = cc (rw y at e) in subst P same all.0
        | inr n ↦ all_found keep ts t (rw n at e) all.1
      ]

-- ---- what is found

none_other : (c : ℕ) (ts : List Played) → find (has_name c) ts ≡ None → filter (has_other_name c) ts ≡ ts
none_other c [] none = refl
none_other c (t ∷ ts) none =
    elim (cases_Bool (t.name == c)) [
      | inl y ↦ absurd (cc (rw y at none))
      | inr n ↦ rw n (ap (λ (x : List Played). t ∷ x) (none_other c ts (rw n at none)))
    ]

abbrev Both : Option Played → Option Peer → Type 0
Both None None = ⊤
Both (Some t) (Some p) = Shows t p
Both _ _ = ⊥

both_if : (b : Bool) (t : Played) (p : Peer) (o : Option Played) (q : Option Peer) → Shows t p → Both o q → Both (if b then Some t else o) (if b then Some p else q)
both_if true t p o q s more = s
both_if false t p o q s more = more

both_found : (c : ℕ) (ts : List Played) (ps : List Peer) → EachShows ts ps → Both (find (has_name c) ts) (find (is_named c) ps)
both_found c [] [] each = tt
both_found c [] (p ∷ ps) each = absurd each
both_found c (t ∷ ts) [] each = absurd each
both_found c (t ∷ ts) (p ∷ ps) each =
    subst (λ (n : ℕ). Both (if n == c then Some t else find (has_name c) ts) (if p.name == c then Some p else find (is_named c) ps)) (sym each.0.name)
    (both_if (p.name == c) t p (find (has_name c) ts) (find (is_named c) ps) each.0 (both_found c ts ps each.1))

none_found : (c : ℕ) (ts : List Played) (ps : List Peer) → EachShows ts ps → find (is_named c) ps ≡ None → find (has_name c) ts ≡ None
none_found c ts ps each none = no_both (find (has_name c) ts) (subst (Both (find (has_name c) ts)) none (both_found c ts ps each))
  where
    no_both : (o : Option Played) → Both o None → o ≡ None
    no_both None both = refl
    no_both (Some t) both = absurd both

finds_by : (c : ℕ) (ps : List Peer) (o : Option Played) (q : Option Peer) → Both o q → find (is_named c) ps ≡ q → Finds c ps o
finds_by c ps None None both e = e
finds_by c ps None (Some p) both e = absurd both
finds_by c ps (Some t) None both e = absurd both
finds_by c ps (Some t) (Some p) both e = (p, e, both)

pub finds : (c : ℕ) (ts : List Played) (ps : List Peer) (o : Option Played) → o ≡ find (has_name c) ts → ShowAll ts ps → Finds c ps o
finds c ts ps o e show = finds_by c ps o (find (is_named c) ps) (subst (λ (x : Option Played). Both x (find (is_named c) ps)) (sym e) (both_found c ts ps show.each)) refl

pub taken_out : (c : ℕ) (old : List Played) (o : Option Played) (new : List Played) → o ≡ find (has_name c) old → new ≡ filter (has_other_name c) old → TakesOut c old o new
taken_out c old None new value is = (sym value, is ∙ none_other c old (sym value))
taken_out c old (Some t) new value is = (sym value, is)

pub takes : (c : ℕ) (old : List Played) (o : Option Played) (new : List Played) → TakesOut c old o new → (ps : List Peer) → ShowAll old ps → Takes c ps o new
takes c old None new out ps show = (finds c old ps None (sym out.0) show, subst (λ (x : List Played). ShowAll x ps) (sym out.1) show)
takes c old (Some t) new out ps show =
    let f = finds c old ps (Some t) (sym out.0) show in
    (f.0, f.1, f.2, record { all = old; show = show; others = out.1 })

-- ---- rising names

pub found_above : (low c : ℕ) (ps : List Peer) (p : Peer) → RiseFrom low ps → find (is_named c) ps ≡ Some p → low ≤ c
found_above low c [] p rise e = absurd (cc (e))
found_above low c (q ∷ ps) p rise e =
    elim (cases_order q.name c) [
      | inl same ↦ omega (arith, rise.0, same)
      | inr (inl less) ↦ omega (arith, rise.0, less)
      | inr (inr more) ↦ let t : (q.name == c) ≡ false = grind (arith, nat_tests) in absurd (omega (arith, more, found_above (q.name + 1) c ps p rise.1 (rw t at e)))
    ]

rise_put : (low : ℕ) (p : Peer) (ps : List Peer) → low ≤ p.name → RiseFrom low ps → RiseFrom low (put_peer p ps)
rise_put low p [] le rise = (omega (arith, le), tt)
rise_put low p (q ∷ ps) le rise =
    elim (cases_order p.name q.name) [
      | inl same ↦ let t : (p.name == q.name) ≡ true = grind (arith, nat_tests) in rw t (omega (arith, le), subst (λ (n : ℕ). RiseFrom (n + 1) ps) (sym same) rise.1)
      | inr (inl less) ↦
          let t : (p.name == q.name) ≡ false = grind (arith, nat_tests) in
          let u : nat_lt p.name q.name ≡ true = grind (arith, nat_tests) in
          rw (t, u) (omega (arith, le), (omega (arith, less), rise.1))
      | inr (inr more) ↦
          let t : (p.name == q.name) ≡ false = grind (arith, nat_tests) in
          let u : nat_lt p.name q.name ≡ false = grind (arith, nat_tests) in
          rw (t, u) (rise.0, rise_put (q.name + 1) p ps (omega (arith, more)) rise.1)
    ]

none_less : (c low : ℕ) (ts : List Played) (ps : List Peer) → EachShows ts ps → RiseFrom low ps → c ≤ low → filter (has_less_name c) ts ≡ []
none_less c low [] ps each rise le = refl
none_less c low (t ∷ ts) [] each rise le = absurd each
none_less c low (t ∷ ts) (p ∷ ps) each rise le =
    let own = each.0.name in
    let first = rise.0 in
    let f : has_less_name c t ≡ false = grind (arith, nat_tests) in
    rw f (none_less c (p.name + 1) ts ps each.1 rise.1 (omega arith))

all_more : (c low : ℕ) (ts : List Played) (ps : List Peer) → EachShows ts ps → RiseFrom low ps → c < low → filter (has_more_name c) ts ≡ ts
all_more c low [] ps each rise lt = refl
all_more c low (t ∷ ts) [] each rise lt = absurd each
all_more c low (t ∷ ts) (p ∷ ps) each rise lt =
    let own = each.0.name in
    let first = rise.0 in
    let f : has_more_name c t ≡ true = grind (arith, nat_tests) in
    rw f (ap (λ (x : List Played). t ∷ x) (all_more c (p.name + 1) ts ps each.1 rise.1 (omega arith)))

-- ---- a connection is put in its place

less_of_others : (c : ℕ) (ts : List Played) → filter (has_less_name c) (filter (has_other_name c) ts) ≡ filter (has_less_name c) ts
less_of_others c [] = refl
less_of_others c (t ∷ ts) =
    let more = less_of_others c ts in
    elim (cases_order t.name c) [
      | inl same ↦
          let a : has_other_name c t ≡ false = grind (arith, nat_tests) in
          let b : has_less_name c t ≡ false = grind (arith, nat_tests) in
          rw (a, b) more
      | inr (inl less) ↦
          let a : has_other_name c t ≡ true = grind (arith, nat_tests) in
          let b : has_less_name c t ≡ true = grind (arith, nat_tests) in
          rw (a, b) (ap (λ (x : List Played). t ∷ x) more)
      | inr (inr above) ↦
          let a : has_other_name c t ≡ true = grind (arith, nat_tests) in
          let b : has_less_name c t ≡ false = grind (arith, nat_tests) in
          rw (a, b) more
    ]

more_of_others : (c : ℕ) (ts : List Played) → filter (has_more_name c) (filter (has_other_name c) ts) ≡ filter (has_more_name c) ts
more_of_others c [] = refl
more_of_others c (t ∷ ts) =
    let more = more_of_others c ts in
    elim (cases_order t.name c) [
      | inl same ↦
          let a : has_other_name c t ≡ false = grind (arith, nat_tests) in
          let b : has_more_name c t ≡ false = grind (arith, nat_tests) in
          rw (a, b) more
      | inr (inl less) ↦
          let a : has_other_name c t ≡ true = grind (arith, nat_tests) in
          let b : has_more_name c t ≡ false = grind (arith, nat_tests) in
          rw (a, b) more
      | inr (inr above) ↦
          let a : has_other_name c t ≡ true = grind (arith, nat_tests) in
          let b : has_more_name c t ≡ true = grind (arith, nat_tests) in
          rw (a, b) (ap (λ (x : List Played). t ∷ x) more)
    ]

abbrev put_at : ℕ → Played → List Played → List Played
put_at c t ts = filter (has_less_name c) ts ++ t ∷ filter (has_more_name c) ts

each_put : (low : ℕ) (t : Played) (p : Peer) (ts : List Played) (ps : List Peer) → Shows t p → EachShows ts ps → RiseFrom low ps → EachShows (put_at p.name t ts) (put_peer p ps)
each_put low t p [] [] s each rise = (s, tt)
each_put low t p [] (q ∷ ps) s each rise = absurd each
each_put low t p (x ∷ ts) [] s each rise = absurd each
each_put low t p (x ∷ ts) (q ∷ ps) s each rise =
    let own = each.0.name in
    elim (cases_order p.name q.name) [
      | inl same ↦
          let e : (p.name == q.name) ≡ true = grind (arith, nat_tests) in
          let a : has_less_name p.name x ≡ false = grind (arith, nat_tests) in
          let b : has_more_name p.name x ≡ false = grind (arith, nat_tests) in
          rw (e, a, b, none_less p.name (q.name + 1) ts ps each.1 rise.1 (omega arith), all_more p.name (q.name + 1) ts ps each.1 rise.1 (omega arith)) (s, each.1)
      | inr (inl less) ↦
          let e : (p.name == q.name) ≡ false = grind (arith, nat_tests) in
          let l : nat_lt p.name q.name ≡ true = grind (arith, nat_tests) in
          let a : has_less_name p.name x ≡ false = grind (arith, nat_tests) in
          let b : has_more_name p.name x ≡ true = grind (arith, nat_tests) in
          rw (e, l, a, b, none_less p.name (q.name + 1) ts ps each.1 rise.1 (omega arith), all_more p.name (q.name + 1) ts ps each.1 rise.1 (omega arith)) (s, each)
      | inr (inr more) ↦
          let e : (p.name == q.name) ≡ false = grind (arith, nat_tests) in
          let l : nat_lt p.name q.name ≡ false = grind (arith, nat_tests) in
          let a : has_less_name p.name x ≡ true = grind (arith, nat_tests) in
          let b : has_more_name p.name x ≡ false = grind (arith, nat_tests) in
          rw (e, l, a, b) (each.0, each_put (q.name + 1) t p ts ps s each.1 rise.1)
    ]

pub puts_back : (t : Played) (old new : List Played) → new ≡ placed t old → (ps : List Peer) (p : Peer) → ShowOthers p.name old ps → Shows t p → ShowAll new (put_peer p ps)
puts_back t old new is ps p o s =
    let low : filter (has_less_name p.name) old ≡ filter (has_less_name p.name) o.all = ap (filter (has_less_name p.name)) o.others ∙ less_of_others p.name o.all in
    let high : filter (has_more_name p.name) old ≡ filter (has_more_name p.name) o.all = ap (filter (has_more_name p.name)) o.others ∙ more_of_others p.name o.all in
    let e : new ≡ put_at p.name t o.all = is ∙ ap (λ (n : ℕ). put_at n t old) s.name ∙ (λ i. low i ++ t ∷ high i) in
    record {
      each = subst (λ (x : List Played). EachShows x (put_peer p ps)) (sym e) (each_put 0 t p o.all ps s o.show.each o.show.rise);
      rise = rise_put 0 p ps (omega arith) o.show.rise;
    }

pub puts_fresh : (t : Played) (old new : List Played) → new ≡ placed t old → (ps : List Peer) (p : Peer) → ShowAll old ps → find (is_named p.name) ps ≡ None → Shows t p → ShowAll new (put_peer p ps)
puts_fresh t old new is ps p show none s =
    puts_back t old new is ps p (record { all = old; show = show; others = sym (none_other p.name old (none_found p.name old ps show.each none)) }) s

pub same_names : (ts : List Played) (ps : List Peer) → EachShows ts ps → map name_in ts ≡ map name_of ps
same_names [] [] each = refl
same_names [] (p ∷ ps) each = absurd each
same_names (t ∷ ts) [] each = absurd each
same_names (t ∷ ts) (p ∷ ps) each = λ i. each.0.name i ∷ same_names ts ps each.1 i
