-- Where the machine stops, and what that says of the grammar.
use Rattle.std.proofs.Common.{◌≡◌, ℕ, ◌<◌, Bool, true, false, eqb, ◌&&◌, List, [], ◌∷◌, ◌++◌, refl, ap, sym, subst, inl, inr, Option, None, Some, arith, append_assoc}
use Rattle.std.specs.Prelude.{◌⊎◌, Result, Ok, Err}
use Rattle.idl_tokens.specs.Ebnf.{Ebnf, Terminal, Matches}
use Rattle.idl_tokens.specs.Ebnf.Ebnf.{One, Seq, Alt, Opt, Many, Within}
use Rattle.idl_tokens.specs.Ebnf.Matches.{one, seq, left, none, stop, within}
use Rattle.idl_tokens.specs.Machine.{null, nulls, after, after_all, Stuck, there, ended, sized, go, Next}
use Rattle.idl_tokens.specs.Checks.{full, fulls}
use Rattle.idl_tokens.specs.Stacks.{MatchesAll, Good, Departs, Begins, CannotGoOn}
use Rattle.idl_tokens.specs.EbnfLaws.{Word, Sorted, Gone}
use Rattle.idl_tokens.proofs.Sound.{and_both, cond_is, joined_is, or_is, nulls_take, all_sound}
use Rattle.idl_tokens.proofs.Sets.{or_left}
use Rattle.std.proofs.lemmas.Bool.{eq-eqb}
use Rattle.std.proofs.Common.{nat_lt, ltb-true, ltb-false}
use Rattle.idl_tokens.proofs.Stacks.{all_good, all_begins}
use Rattle.idl_tokens.proofs.EbnfOnce.{all_nothing}

and_both_true : (a b : Bool) → a ≡ true → b ≡ true → (a && b) ≡ true
and_both_true true b p q = q
and_both_true false b p q = cc

module _ (body : ℕ → Ebnf) where
  module _ (words : (r : ℕ) → Word body (body r)) where
    word : (g : Ebnf) → full g ≡ true → Word body g
    word (One [] m) f = cc
    word (One (c ∷ cs) m) f = (record { class = c; size = 0 } ∷ [], λ rest. one (c ∷ cs) m (record { class = c; size = 0 }) rest (or_left (eqb c c) _ (eq-eqb c c refl)) (ltb-true 0 m f))
    word (Seq a b) f =
        let p = and_both (full a) (full b) f in
        let u = word a p.0 in
        let v = word b p.1 in
        (u.0 ++ v.0, λ rest. seq (subst (λ (x : List Terminal). Matches body a x (v.0 ++ rest)) (sym (append_assoc u.0 v.0 rest)) (u.1 (v.0 ++ rest))) (v.1 rest))
    word (Alt a b) f = let u = word a (and_both (full a) (full b) f).0 in (u.0, λ rest. left b (u.1 rest))
    word (Opt a) f = ([], λ rest. none a rest)
    word (Many a) f = ([], λ rest. stop a rest)
    word (Within o r c m) f =
        let u = words r in
        let shut : Terminal = record { class = c; size = 0 } in
        (record { class = o; size = 0 } ∷ (u.0 ++ shut ∷ []), λ rest. within o r c m (record { class = o; size = 0 }) refl (ltb-true 0 m f) (subst (λ (x : List Terminal). Matches body (body r) x (shut ∷ rest)) (sym (append_assoc u.0 (shut ∷ []) rest)) (u.1 (shut ∷ rest))) (one (c ∷ []) m shut rest (or_left (eqb c c) false (eq-eqb c c refl)) (ltb-true 0 m f)))

    words_all : (s : List Ebnf) → fulls s ≡ true → (w : List Terminal) × MatchesAll body s w []
    words_all [] f = ([], refl)
    words_all (g ∷ s) f =
        let p = and_both (full g) (fulls s) f in
        let u = word g p.0 in
        let v = words_all s p.1 in
        (u.0 ++ v.0, (v.0, u.1 v.0, v.1))

  fulls_join : (t s : List Ebnf) → fulls t ≡ true → fulls s ≡ true → fulls (t ++ s) ≡ true
  fulls_join [] s p q = q
  fulls_join (g ∷ t) s p q = let i = and_both (full g) (fulls t) p in and_both_true (full g) (fulls (t ++ s)) i.0 (fulls_join t s i.1 q)

  alone : (g : Ebnf) → full g ≡ true → fulls (g ∷ []) ≡ true
  alone g f = and_both_true (full g) true f refl

  module _ (whole : (r : ℕ) → full (body r) ≡ true) where
    after_full : (g : Ebnf) (k : ℕ) (t : Next) → full g ≡ true → after body g k ≡ Some t → fulls t.wanted ≡ true
    after_full (One cs m) k t f e = subst (λ (v : Next). fulls v.wanted ≡ true) (cond_is _ (record { limit = m; wanted = [] }) t e).1 refl
    after_full (Seq a b) k t f e =
        let p = and_both (full a) (full b) f in
        elim (joined_is (after body a k) (null a) (b ∷ []) (after body b k) t e) [
          | inl q ↦ subst (λ (v : Next). fulls v.wanted ≡ true) q.2 (fulls_join q.0.wanted (b ∷ []) (after_full a k q.0 p.0 q.1) (alone b p.1))
          | inr q ↦ after_full b k t p.1 q.2
        ]
    after_full (Alt a b) k t f e =
        let p = and_both (full a) (full b) f in
        elim (or_is (after body a k) (after body b k) t e) [
          | inl q ↦ after_full a k t p.0 q
          | inr q ↦ after_full b k t p.1 q.1
        ]
    after_full (Opt a) k t f e = after_full a k t f e
    after_full (Many a) k t f e =
        elim (joined_is (after body a k) false (Many a ∷ []) None t e) [
          | inl q ↦ subst (λ (v : Next). fulls v.wanted ≡ true) q.2 (fulls_join q.0.wanted (Many a ∷ []) (after_full a k q.0 f q.1) (alone (Many a) f))
          | inr q ↦ cc
        ]
    after_full (Within o r c m) k t f e =
        subst (λ (v : Next). fulls v.wanted ≡ true) (cond_is (eqb k o) (record { limit = m; wanted = body r ∷ One (c ∷ []) m ∷ [] }) t e).1 (and_both_true (full (body r)) (full (One (c ∷ []) m) && true) (whole r) (and_both_true (nat_lt 0 m) true f refl))

    all_full : (s : List Ebnf) (k : ℕ) (t : Next) → fulls s ≡ true → after_all body s k ≡ Some t → fulls t.wanted ≡ true
    all_full [] k t f e = cc
    all_full (g ∷ s) k t f e =
        let p = and_both (full g) (fulls s) f in
        elim (joined_is (after body g k) (null g) s (after_all body s k) t e) [
          | inl q ↦ subst (λ (v : Next). fulls v.wanted ≡ true) q.2 (fulls_join q.0.wanted s (after_full g k q.0 p.0 q.1) p.1)
          | inr q ↦ all_full s k t p.1 q.2
        ]

-- the limit of a first token's size is none that no size is below
has_limit : (body : ℕ → Ebnf) (g : Ebnf) (k : ℕ) (t : Next) → full g ≡ true → after body g k ≡ Some t → 0 < t.limit
has_limit body (One [] m) k t f e = cc
has_limit body (One (c ∷ cs) m) k t f e = subst (λ (v : Next). 0 < v.limit) (cond_is _ (record { limit = m; wanted = [] }) t e).1 (ltb-true 0 m f)
has_limit body (Seq a b) k t f e =
    let p = and_both (full a) (full b) f in
    elim (joined_is (after body a k) (null a) (b ∷ []) (after body b k) t e) [
      | inl q ↦ subst (λ (v : Next). 0 < v.limit) q.2 (has_limit body a k q.0 p.0 q.1)
      | inr q ↦ has_limit body b k t p.1 q.2
    ]
has_limit body (Alt a b) k t f e =
    let p = and_both (full a) (full b) f in
    elim (or_is (after body a k) (after body b k) t e) [
      | inl q ↦ has_limit body a k t p.0 q
      | inr q ↦ has_limit body b k t p.1 q.1
    ]
has_limit body (Opt a) k t f e = has_limit body a k t f e
has_limit body (Many a) k t f e =
    elim (joined_is (after body a k) false (Many a ∷ []) None t e) [
      | inl q ↦ subst (λ (v : Next). 0 < v.limit) q.2 (has_limit body a k q.0 f q.1)
      | inr q ↦ cc
    ]
has_limit body (Within o r c m) k t f e =
    subst (λ (v : Next). 0 < v.limit) (cond_is (eqb k o) (record { limit = m; wanted = body r ∷ One (c ∷ []) m ∷ [] }) t e).1 (ltb-true 0 m f)

ended_ok : (n : Bool) (ks rest : List Terminal) → ended n ks ≡ Ok rest → (n ≡ true) × (ks ≡ rest)
ended_ok true ks rest e = (refl, cc)
ended_ok false ks rest e = cc

ended_err : (n : Bool) (ks : List Terminal) (x : Stuck) → ended n ks ≡ Err x → (x ≡ record { odd = false; rest = ks })
ended_err true ks x e = cc
ended_err false ks x e = cc

ended_null : (n : Bool) (ks : List Terminal) (x : Stuck) → ended n ks ≡ Err x → n ≡ false
ended_null true ks x e = cc
ended_null false ks x e = refl

sized_ok : (b : Bool) (r : Result (List Terminal) Stuck) (ks rest : List Terminal) → sized b r ks ≡ Ok rest → (b ≡ true) × (r ≡ Ok rest)
sized_ok true r ks rest e = (refl, e)
sized_ok false r ks rest e = cc

sized_err : (b : Bool) (r : Result (List Terminal) Stuck) (ks : List Terminal) (x : Stuck) → sized b r ks ≡ Err x → ((b ≡ true) × (r ≡ Err x)) ⊎ ((b ≡ false) × (x ≡ record { odd = true; rest = ks }))
sized_err true r ks x e = inl (refl, e)
sized_err false r ks x e = inr (refl, cc)

module _ (body : ℕ → Ebnf) where
  abbrev At : List Ebnf → Terminal → List Terminal → Option Next → Result (List Terminal) Stuck
  At s k ks o = elim o as (λ _. Result (List Terminal) Stuck) [ Some t ↦ sized (nat_lt k.size t.limit) (go body t.wanted ks) (k ∷ ks) | None ↦ ended (nulls s) (k ∷ ks) ]

  stays : (s : List Ebnf) (ks rest : List Terminal) → nulls s ≡ true → ks ≡ rest → Gone body s ks rest
  stays s ks rest n e = record { front = []; cut = e; takes = λ tail. nulls_take body s n tail }

  sound_step : (s : List Ebnf) (k : Terminal) (ks rest : List Terminal) → ((t : List Ebnf) → go body t ks ≡ Ok rest → Gone body t ks rest) → (o : Option Next) → after_all body s k.class ≡ o → At s k ks o ≡ Ok rest → Gone body s (k ∷ ks) rest
  sound_step s k ks rest ih (Some t) i e =
      let p = sized_ok (nat_lt k.size t.limit) (go body t.wanted ks) (k ∷ ks) rest e in
      let d = ih t.wanted p.1 in
      record {
        front = k ∷ d.front;
        cut = ap (λ (v : List Terminal). k ∷ v) d.cut;
        takes = λ tail. all_sound body s k t (d.front ++ tail) tail i (ltb-true k.size t.limit p.0) (d.takes tail);
      }
  sound_step s k ks rest ih None i e = let p = ended_ok (nulls s) (k ∷ ks) rest e in stays s (k ∷ ks) rest p.0 p.1

  pub go_sound : (s : List Ebnf) (ks rest : List Terminal) → go body s ks ≡ Ok rest → Gone body s ks rest
  unfolding go
  go_sound s [] rest e = let p = ended_ok (nulls s) [] rest e in stays s [] rest p.0 p.1
  go_sound s (k ∷ ks) rest e = sound_step s k ks rest (λ t. go_sound t ks rest) (after_all body s k.class) refl e

  is_there : (o : Option Next) → there o ≡ true → (t : Next) × (o ≡ Some t)
  is_there (Some t) e = (t, refl)
  is_there None e = cc

  module _ (sorted : Sorted body) where
    one_on : (s : List Ebnf) (t : Next) (k : Terminal) (ts : List Terminal) → Good body s → after_all body s k.class ≡ Some t → Begins body s (k ∷ ts) → Begins body t.wanted ts × (k.size < t.limit)
    one_on s t k ts h e b =
        let p = all_begins body s k (ts ++ b.0) h b.1 in
        let same : p.0 ≡ t = cc in
        ((b.0, subst (λ (v : Next). MatchesAll body v.wanted (ts ++ b.0) []) same p.2), subst (λ (v : Next). k.size < v.limit) same p.3)

    one_back : (s : List Ebnf) (t : Next) (k : Terminal) (ts : List Terminal) → after_all body s k.class ≡ Some t → k.size < t.limit → Begins body t.wanted ts → Begins body s (k ∷ ts)
    one_back s t k ts e l b = (b.0, all_sound body s k t (ts ++ b.0) [] e l b.1)

    further : (s : List Ebnf) (t : Next) (k : Terminal) (front : List Terminal) (odd : Bool) (rest : List Terminal) → Good body s → after_all body s k.class ≡ Some t → k.size < t.limit → CannotGoOn body t.wanted front odd rest → CannotGoOn body s (k ∷ front) odd rest
    further s t k front odd [] h e l n =
        ((λ a. let p = all_begins body s k front h a in let same : p.0 ≡ t = cc in n.0 (subst (λ (v : Next). MatchesAll body v.wanted front []) same p.2)), n.1)
    further s t k front odd (j ∷ rest) h e l n =
        let none : Terminal = record { class = j.class; size = 0 } in
        ((λ b. n.0 (one_on s t k (front ++ j ∷ []) h e b).0), ((λ w. one_back s t k (front ++ none ∷ []) e l (n.1.0 w)), (λ b. n.1.1 (one_on s t k (front ++ none ∷ []) h e b).0)))

    some_limit : (s : List Ebnf) (k : ℕ) (t : Next) → fulls s ≡ true → after_all body s k ≡ Some t → 0 < t.limit
    some_limit [] k t f e = cc
    some_limit (g ∷ s) k t f e =
        let p = and_both (full g) (fulls s) f in
        elim (joined_is (after body g k) (null g) s (after_all body s k) t e) [
          | inl q ↦ subst (λ (v : Next). 0 < v.limit) q.2 (has_limit body g k q.0 p.0 q.1)
          | inr q ↦ some_limit s k t p.1 q.2
        ]

    here : (s : List Ebnf) (ks : List Terminal) (w : Bool) (x : Stuck) → fulls s ≡ true → CannotGoOn body s [] w ks → x ≡ record { odd = w; rest = ks } → Departs body s ks x.odd x.rest
    here s ks w x f n e = subst (λ (v : Stuck). Departs body s ks v.odd v.rest) (sym e) (record { front = []; cut = refl; begins = words_all body sorted.words s f; no_further = n })

    departs_step : (s : List Ebnf) (k : Terminal) (ks : List Terminal) (x : Stuck) → Good body s → fulls s ≡ true → ((t : List Ebnf) → Good body t → fulls t ≡ true → go body t ks ≡ Err x → Departs body t ks x.odd x.rest) → (o : Option Next) → after_all body s k.class ≡ o → At s k ks o ≡ Err x → Departs body s (k ∷ ks) x.odd x.rest
    departs_step s k ks x h f ih (Some t) i e =
        elim (sized_err (nat_lt k.size t.limit) (go body t.wanted ks) (k ∷ ks) x e) [
          | inl p ↦
              let l = ltb-true k.size t.limit p.0 in
              let d = ih t.wanted (all_good body sorted.rules s k.class t h i) (all_full body sorted.whole s k.class t f i) p.1 in
              record {
                front = k ∷ d.front;
                cut = ap (λ (v : List Terminal). k ∷ v) d.cut;
                begins = one_back s t k d.front i l d.begins;
                no_further = further s t k d.front x.odd x.rest h i l d.no_further;
              }
          | inr p ↦
              let none : Terminal = record { class = k.class; size = 0 } in
              let v = words_all body sorted.words t.wanted (all_full body sorted.whole s k.class t f i) in
              let would : Begins body s (none ∷ []) = (v.0, all_sound body s none t v.0 [] i (some_limit s k.class t f i) v.1) in
              let never : Begins body s (k ∷ []) → ⊥ = λ b. let q = one_on s t k [] h i b in absurd (omega (arith, ltb-false k.size t.limit p.0, q.1)) in
              here s (k ∷ ks) true x f (never, ((λ w. would), (λ b. refl))) p.1
        ]
    departs_step s k ks x h f ih None i e =
        let none : Terminal = record { class = k.class; size = 0 } in
        here s (k ∷ ks) false x f ((λ b. let q = all_begins body s k b.0 h b.1 in cc), ((λ w. cc), (λ b. let q = all_begins body s none b.0 h b.1 in cc))) (ended_err (nulls s) (k ∷ ks) x e)

    -- where it stops, the tokens depart
    pub go_departs : (s : List Ebnf) (ks : List Terminal) (x : Stuck) → Good body s → fulls s ≡ true → go body s ks ≡ Err x → Departs body s ks x.odd x.rest
    unfolding go
    go_departs s [] x h f e =
        here s [] false x f ((λ a. let p = all_nothing body s [] h a in let q = ended_null (nulls s) [] x e in cc), refl) (ended_err (nulls s) [] x e)
    go_departs s (k ∷ ks) x h f e = departs_step s k ks x h f (λ t. go_departs t ks x) (after_all body s k.class) refl e
