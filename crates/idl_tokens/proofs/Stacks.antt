-- Stacks of grammars that one token decides stay so.
use Rattle.std.proofs.Common.{◌≡◌, ℕ, ◌<◌, Bool, true, false, eqb, cond, ◌&&◌, not, List, [], ◌∷◌, ◌++◌, refl, ap, sym, ◌∙◌, subst, inl, inr, None, Some}
use Rattle.std.specs.Prelude.{◌⊎◌}
use Rattle.idl_tokens.specs.Ebnf.{Ebnf, Terminal, has}
use Rattle.idl_tokens.specs.Ebnf.Ebnf.{One, Seq, Alt, Opt, Many, Within}
use Rattle.idl_tokens.specs.Machine.{null, nulls, joined, onto, after, after_all, Next}
use Rattle.idl_tokens.specs.Checks.{first, carry, apart, decides, firsts, carries}
use Rattle.idl_tokens.specs.Stacks.{MatchesAll, Good, Apart}
use Rattle.idl_tokens.proofs.Sound.{and_both, cond_is, joined_is, or_is, matches_join}
use Rattle.idl_tokens.proofs.Joins.{nulls-append}
use Rattle.idl_tokens.proofs.Sets.{has_either, has_left, has_right, has_cond, has_given, are_apart}
use Rattle.idl_tokens.proofs.Complete.{begins, passed, after_first}

and_both_true : (a b : Bool) → a ≡ true → b ≡ true → (a && b) ≡ true
and_both_true true b p q = q
and_both_true false b p q = cc

firsts_join : (t s : List Ebnf) (c : ℕ) → has c (firsts (t ++ s)) ≡ true → (has c (firsts t) ≡ true) ⊎ ((nulls t ≡ true) × (has c (firsts s) ≡ true))
firsts_join [] s c h = inr (refl, h)
firsts_join (g ∷ t) s c h =
    elim (has_either c (first g) (cond (null g) (firsts (t ++ s)) []) h) [
      | inl i ↦ inl (has_left c (first g) (cond (null g) (firsts t) []) i)
      | inr i ↦ let p = has_cond c (null g) (firsts (t ++ s)) i in
          elim (firsts_join t s c p.1) [
            | inl j ↦ inl (has_right c (first g) (cond (null g) (firsts t) []) (has_given c (null g) (firsts t) p.0 j))
            | inr j ↦ inr (and_both_true (null g) (nulls t) p.0 j.0, j.1)
          ]
    ]

pub carries_join : (t s : List Ebnf) (c : ℕ) → has c (carries (t ++ s)) ≡ true → (has c (carries s) ≡ true) ⊎ ((nulls s ≡ true) × (has c (carries t) ≡ true))
carries_join [] s c h = inl h
carries_join (g ∷ t) s c h =
    elim (has_either c (carries (t ++ s)) (cond (nulls (t ++ s)) (carry g) []) h) [
      | inl i ↦ elim (carries_join t s c i) [
        | inl j ↦ inl j
        | inr j ↦ inr (j.0, has_left c (carries t) (cond (nulls t) (carry g) []) j.1)
      ]
      | inr i ↦ let p = has_cond c (nulls (t ++ s)) (carry g) i in
          let q = and_both (nulls t) (nulls s) (sym (nulls-append t s) ∙ p.0) in
          inr (q.1, has_right c (carries t) (cond (nulls t) (carry g) []) (has_given c (nulls t) (carry g) q.0 p.1))
    ]

one_left : (c : ℕ) (g : Ebnf) → has c (carries (g ∷ [])) ≡ true → has c (carry g) ≡ true
one_left c g h = h

one_first : (c : ℕ) (g : Ebnf) → has c (firsts (g ∷ [])) ≡ true → has c (first g) ≡ true
one_first c g h =
    elim (has_either c (first g) (cond (null g) [] []) h) [
      | inl i ↦ i
      | inr i ↦ let p = has_cond c (null g) [] i in cc
    ]

module _ (body : ℕ → Ebnf) where
  good_join : (t s : List Ebnf) → Good body t → Apart (carries t) (firsts s) → Good body s → Good body (t ++ s)
  good_join [] s h a k = k
  good_join (g ∷ t) s h a k =
      let here : Apart (carry g) (firsts (t ++ s)) = λ c x y. elim (firsts_join t s c y) [
        | inl i ↦ h.1 c x i
        | inr i ↦ a c (has_right c (carries t) (cond (nulls t) (carry g) []) (has_given c (nulls t) (carry g) i.0 x)) i.1
      ] in
      (h.0, here, good_join t s h.2 (λ c x y. a c (has_left c (carries t) (cond (nulls t) (carry g) []) x) y) k)

  module _ (rules : (r : ℕ) → decides body (body r) ≡ true) where
    pub after_good : (g : Ebnf) (k : ℕ) (t : Next) → decides body g ≡ true → after body g k ≡ Some t → Good body t.wanted × ((c : ℕ) → has c (carries t.wanted) ≡ true → has c (carry g) ≡ true)
    after_good (One cs m) k t d e =
        let p = cond_is (has k cs) (record { limit = m; wanted = [] }) t e in
        (subst (λ (v : Next). Good body v.wanted) p.1 tt, λ c h. let i = subst (λ (v : Next). has c (carries v.wanted) ≡ true) (sym p.1) h in cc)
    after_good (Seq a b) k t d e =
        let da = and_both (decides body a) (decides body b && apart (carry a) (first b)) d in
        let db = and_both (decides body b) (apart (carry a) (first b)) da.1 in
        elim (joined_is (after body a k) (null a) (b ∷ []) (after body b k) t e) [
          | inl p ↦
              let i = after_good a k p.0 da.0 p.1 in
              let whole = good_join p.0.wanted (b ∷ []) i.0 (λ c x y. are_apart (carry a) (first b) db.1 c (i.1 c x) (one_first c b y)) (db.0, (λ c x y. cc), tt) in (
                subst (λ (v : Next). Good body v.wanted) p.2 whole,
                λ c h. elim (carries_join p.0.wanted (b ∷ []) c (subst (λ (v : Next). has c (carries v.wanted) ≡ true) (sym p.2) h)) [
                  | inl j ↦ has_left c (carry b) (cond (null b) (carry a) []) (one_left c b j)
                  | inr j ↦ has_right c (carry b) (cond (null b) (carry a) []) (has_given c (null b) (carry a) (and_both (null b) true j.0).0 (i.1 c j.1))
                ],
              )
          | inr p ↦
              let i = after_good b k t db.0 p.2 in
              (i.0, λ c h. has_left c (carry b) (cond (null b) (carry a) []) (i.1 c h))
        ]
    after_good (Alt a b) k t d e =
        let da = and_both (decides body a) (decides body b && (apart (first a) (first b) && (not (null a) && not (null b)))) d in
        let db = and_both (decides body b) (apart (first a) (first b) && (not (null a) && not (null b))) da.1 in
        elim (or_is (after body a k) (after body b k) t e) [
          | inl p ↦ let i = after_good a k t da.0 p in (i.0, λ c h. has_left c (carry a) (carry b) (i.1 c h))
          | inr p ↦ let i = after_good b k t db.0 p.1 in (i.0, λ c h. has_right c (carry a) (carry b) (i.1 c h))
        ]
    after_good (Opt a) k t d e =
        let i = after_good a k t (and_both (decides body a) (not (null a)) d).0 e in
        (i.0, λ c h. has_left c (carry a) (first a) (i.1 c h))
    after_good (Many a) k t d e =
        let da = and_both (decides body a) (not (null a) && apart (carry a) (first a)) d in
        let dn = and_both (not (null a)) (apart (carry a) (first a)) da.1 in
        elim (joined_is (after body a k) false (Many a ∷ []) None t e) [
          | inl p ↦
              let i = after_good a k p.0 da.0 p.1 in
              let whole = good_join p.0.wanted (Many a ∷ []) i.0 (λ c x y. are_apart (carry a) (first a) dn.1 c (i.1 c x) (one_first c (Many a) y)) (d, (λ c x y. cc), tt) in (
                subst (λ (v : Next). Good body v.wanted) p.2 whole,
                λ c h. elim (carries_join p.0.wanted (Many a ∷ []) c (subst (λ (v : Next). has c (carries v.wanted) ≡ true) (sym p.2) h)) [
                  | inl j ↦ one_left c (Many a) j
                  | inr j ↦ has_left c (carry a) (first a) (i.1 c j.1)
                ],
              )
          | inr p ↦ cc
        ]
    after_good (Within o r c m) k t d e =
        let p = cond_is (eqb k o) (record { limit = m; wanted = body r ∷ One (c ∷ []) m ∷ [] }) t e in
        let whole : Good body (body r ∷ One (c ∷ []) m ∷ []) = (rules r, (λ x y z. are_apart (carry (body r)) (c ∷ []) d x y (one_first x (One (c ∷ []) m) z)), (refl, (λ x y z. cc), tt)) in
        (subst (λ (v : Next). Good body v.wanted) p.1 whole, λ x h. let i = subst (λ (v : Next). has x (carries v.wanted) ≡ true) (sym p.1) h in cc)

    pub all_good : (s : List Ebnf) (k : ℕ) (t : Next) → Good body s → after_all body s k ≡ Some t → Good body t.wanted
    all_good [] k t h e = cc
    all_good (g ∷ s) k t h e =
        elim (joined_is (after body g k) (null g) s (after_all body s k) t e) [
          | inl p ↦ let i = after_good g k p.0 h.0 p.1 in
              subst (λ (v : Next). Good body v.wanted) p.2 (good_join p.0.wanted s i.0 (λ c x y. h.1 c (i.1 c x) y) h.2)
          | inr p ↦ all_good s k t h.2 p.2
        ]

  pub all_first : (s : List Ebnf) (k : ℕ) (t : Next) → after_all body s k ≡ Some t → has k (firsts s) ≡ true
  all_first [] k t e = cc
  all_first (g ∷ s) k t e =
      elim (joined_is (after body g k) (null g) s (after_all body s k) t e) [
        | inl p ↦ has_left k (first g) (cond (null g) (firsts s) []) (after_first body g k p.0 p.1)
        | inr p ↦ has_right k (first g) (cond (null g) (firsts s) []) (has_given k (null g) (firsts s) p.1 (all_first s k t p.2))
      ]

  -- what takes a token and all behind it, the machine takes there
  pub all_begins : (s : List Ebnf) (k : Terminal) (ks : List Terminal) → Good body s → MatchesAll body s (k ∷ ks) [] → (t : Next) × (after_all body s k.class ≡ Some t) × MatchesAll body t.wanted ks [] × (k.size < t.limit)
  all_begins [] k ks h a = cc
  all_begins (g ∷ s) k ks h a =
      elim (begins body a.1 k ks refl h.0) [
        | inl p ↦
            let i = all_begins s k ks h.2 (subst (λ (v : List Terminal). MatchesAll body s v []) (sym p.1) a.2) in
            let no = passed body g k.class (firsts s) p.0 h.1 (all_first s k.class i.0 i.1) in
            let to : after_all body (g ∷ s) k.class ≡ Some i.0 = ap (λ o. joined o (null g) s (after_all body s k.class)) no ∙ (ap (λ n. joined None n s (after_all body s k.class)) p.0 ∙ i.1) in
            (i.0, to, i.2, i.3)
        | inr p ↦ (onto p.0 s, ap (λ o. joined o (null g) s (after_all body s k.class)) p.1, matches_join body p.0.wanted s ks a.0 [] p.2 a.2, p.3)
      ]
