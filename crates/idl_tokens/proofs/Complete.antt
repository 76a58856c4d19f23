-- What is taken the machine takes, where one token decides.
use Rattle.std.proofs.Common.{◌≡◌, ℕ, ◌<◌, Bool, true, false, eqb, cond, ◌&&◌, not, List, [], ◌∷◌, refl, ap, sym, ◌∙◌, subst, inl, inr, Option, None, Some}
use Rattle.std.specs.Prelude.{◌⊎◌}
use Rattle.std.proofs.lemmas.Bool.{eq-eqb}
use Rattle.idl_tokens.specs.Ebnf.{Ebnf, Terminal, has, Matches}
use Rattle.idl_tokens.specs.Ebnf.Ebnf.{One, Seq, Alt, Opt, Many, Within}
use Rattle.idl_tokens.specs.Ebnf.Matches.{one, seq, left, right, none, some, stop, more, within}
use Rattle.idl_tokens.specs.Machine.{null, joined, or_else, onto, after, Next}
use Rattle.idl_tokens.specs.Checks.{first, carry, apart, decides}
use Rattle.idl_tokens.specs.Stacks.{MatchesAll, Apart}
use Rattle.idl_tokens.proofs.Sound.{and_both, cond_is, joined_is, or_is, matches_join}
use Rattle.idl_tokens.proofs.Sets.{has_either, has_left, has_right, has_cond, has_given, are_apart, or_left}

not_false : (a : Bool) → not a ≡ true → a ≡ true → ⊥
not_false true e h = cc
not_false false e h = cc

and_both_true : (a b : Bool) → a ≡ true → b ≡ true → (a && b) ≡ true
and_both_true true b p q = q
and_both_true false b p q = cc

cond_true : (b : Bool) (s : Next) → b ≡ true → cond b (Some s) None ≡ Some s
cond_true true s e = refl
cond_true false s e = cc

-- what it may begin with may carry it on, where it may be left out
pub first_carries : (g : Ebnf) (c : ℕ) → null g ≡ true → has c (first g) ≡ true → has c (carry g) ≡ true
first_carries (One cs m) c n h = cc
first_carries (Seq a b) c n h =
    let p = and_both (null a) (null b) n in
    elim (has_either c (first a) (cond (null a) (first b) []) h) [
      | inl i ↦ has_right c (carry b) (cond (null b) (carry a) []) (has_given c (null b) (carry a) p.1 (first_carries a c p.0 i))
      | inr i ↦ has_left c (carry b) (cond (null b) (carry a) []) (first_carries b c p.1 (has_cond c (null a) (first b) i).1)
    ]
first_carries (Alt a b) c n h = cc
first_carries (Opt a) c n h = has_right c (carry a) (first a) h
first_carries (Many a) c n h = has_right c (carry a) (first a) h
first_carries (Within o r d m) c n h = cc

same_and : (o : Option Next) → (o ≡ None) ⊎ ((t : Next) × (o ≡ Some t))
same_and None = inl refl
same_and (Some t) = inr (t, refl)

module _ (body : ℕ → Ebnf) where
  pub after_first : (g : Ebnf) (k : ℕ) (t : Next) → after body g k ≡ Some t → has k (first g) ≡ true
  after_first (One cs m) k t e = (cond_is (has k cs) (record { limit = m; wanted = [] }) t e).0
  after_first (Seq a b) k t e =
      elim (joined_is (after body a k) (null a) (b ∷ []) (after body b k) t e) [
        | inl p ↦ has_left k (first a) (cond (null a) (first b) []) (after_first a k p.0 p.1)
        | inr p ↦ has_right k (first a) (cond (null a) (first b) []) (has_given k (null a) (first b) p.1 (after_first b k t p.2))
      ]
  after_first (Alt a b) k t e =
      elim (or_is (after body a k) (after body b k) t e) [
        | inl p ↦ has_left k (first a) (first b) (after_first a k t p)
        | inr p ↦ has_right k (first a) (first b) (after_first b k t p.1)
      ]
  after_first (Opt a) k t e = after_first a k t e
  after_first (Many a) k t e =
      elim (joined_is (after body a k) false (Many a ∷ []) None t e) [
        | inl p ↦ after_first a k p.0 p.1
        | inr p ↦ cc
      ]
  after_first (Within o r c m) k t e =
      let p = cond_is (eqb k o) (record { limit = m; wanted = body r ∷ One (c ∷ []) m ∷ [] }) t e in
      or_left (eqb k o) false p.0

  -- it begins with no token that may begin what follows
  pub passed : (a : Ebnf) (k : ℕ) (fs : List ℕ) → null a ≡ true → Apart (carry a) fs → has k fs ≡ true → after body a k ≡ None
  passed a k fs n ap' h =
      elim (same_and (after body a k)) [
        | inl e ↦ e
        | inr p ↦ absurd (ap' k (first_carries a k n (after_first a k p.0 p.1)) h)
      ]

  abbrev pub Begun : Ebnf → List Terminal → List Terminal → Terminal → List Terminal → Type 0
  Begun g ts rest k ks = ((null g ≡ true) × (ts ≡ rest)) ⊎ ((t : Next) × (after body g k.class ≡ Some t) × MatchesAll body t.wanted ks rest × (k.size < t.limit))

  pub begins : {g : Ebnf} {ts rest : List Terminal} → Matches body g ts rest → (k : Terminal) (ks : List Terminal) → ts ≡ k ∷ ks → decides body g ≡ true → Begun g ts rest k ks
  begins (one cs m j us e l) k ks eq d =
      let same : j ≡ k = cc in
      let h : has k.class cs ≡ true = subst (λ (v : Terminal). has v.class cs ≡ true) same e in
      let n : k.size < m = subst (λ (v : Terminal). v.size < m) same l in
      inr (record { limit = m; wanted = [] }, cond_true (has k.class cs) (record { limit = m; wanted = [] }) h, cc, n)
  begins (seq {a = a} {b = b} {ts = ts} {mid = mid} {rest = rest} p q) k ks eq d =
      let da = and_both (decides body a) (decides body b && apart (carry a) (first b)) d in
      let db = and_both (decides body b) (apart (carry a) (first b)) da.1 in
      elim (begins p k ks eq da.0) [
        | inl x ↦ elim (begins q k ks (sym x.1 ∙ eq) db.0) [
          | inl y ↦ inl (and_both_true (null a) (null b) x.0 y.0, x.1 ∙ y.1)
          | inr y ↦
              let no = passed a k.class (first b) x.0 (are_apart (carry a) (first b) db.1) (after_first b k.class y.0 y.1) in
              let to : after body (Seq a b) k.class ≡ Some y.0 = ap (λ o. joined o (null a) (b ∷ []) (after body b k.class)) no ∙ (ap (λ n. joined None n (b ∷ []) (after body b k.class)) x.0 ∙ y.1) in
              inr (y.0, to, y.2, y.3)
        ]
        | inr x ↦ inr (onto x.0 (b ∷ []), ap (λ o. joined o (null a) (b ∷ []) (after body b k.class)) x.1, matches_join body x.0.wanted (b ∷ []) ks mid rest x.2 (rest, q, refl), x.3)
      ]
  begins (left {a = a} b p) k ks eq d =
      let da = and_both (decides body a) (decides body b && (apart (first a) (first b) && (not (null a) && not (null b)))) d in
      let db = and_both (decides body b) (apart (first a) (first b) && (not (null a) && not (null b))) da.1 in
      let dn = and_both (apart (first a) (first b)) (not (null a) && not (null b)) db.1 in
      elim (begins p k ks eq da.0) [
        | inl x ↦ absurd (not_false (null a) (and_both (not (null a)) (not (null b)) dn.1).0 x.0)
        | inr x ↦ inr (x.0, ap (λ o. or_else o (after body b k.class)) x.1, x.2, x.3)
      ]
  begins (right a {b = b} p) k ks eq d =
      let da = and_both (decides body a) (decides body b && (apart (first a) (first b) && (not (null a) && not (null b)))) d in
      let db = and_both (decides body b) (apart (first a) (first b) && (not (null a) && not (null b))) da.1 in
      let dn = and_both (apart (first a) (first b)) (not (null a) && not (null b)) db.1 in
      elim (begins p k ks eq db.0) [
        | inl x ↦ absurd (not_false (null b) (and_both (not (null a)) (not (null b)) dn.1).1 x.0)
        | inr x ↦ elim (same_and (after body a k.class)) [
          | inl e ↦ inr (x.0, ap (λ o. or_else o (after body b k.class)) e ∙ x.1, x.2, x.3)
          | inr y ↦ absurd (are_apart (first a) (first b) dn.0 k.class (after_first a k.class y.0 y.1) (after_first b k.class x.0 x.1))
        ]
      ]
  begins (none a us) k ks eq d = inl (refl, refl)
  begins (some {a = a} p) k ks eq d =
      let da = and_both (decides body a) (not (null a)) d in
      elim (begins p k ks eq da.0) [
        | inl x ↦ absurd (not_false (null a) da.1 x.0)
        | inr x ↦ inr x
      ]
  begins (stop a us) k ks eq d = inl (refl, refl)
  begins (more {a = a} {ts = ts} {mid = mid} {rest = rest} p q) k ks eq d =
      let da = and_both (decides body a) (not (null a) && apart (carry a) (first a)) d in
      let dn = and_both (not (null a)) (apart (carry a) (first a)) da.1 in
      elim (begins p k ks eq da.0) [
        | inl x ↦ absurd (not_false (null a) dn.0 x.0)
        | inr x ↦ inr (onto x.0 (Many a ∷ []), ap (λ o. joined o false (Many a ∷ []) None) x.1, matches_join body x.0.wanted (Many a ∷ []) ks mid rest x.2 (rest, q, refl), x.3)
      ]
  begins (within o r c m j {ts = us} {mid = mid} {rest = rest} i l p q) k ks eq d =
      let same : j ≡ k = cc in
      let tail : us ≡ ks = cc in
      let next : Next = record { limit = m; wanted = body r ∷ One (c ∷ []) m ∷ [] } in
      let all : MatchesAll body (body r ∷ One (c ∷ []) m ∷ []) us rest = (mid, p, (rest, q, refl)) in
      let n : k.size < m = subst (λ (v : Terminal). v.size < m) same l in
      let h : k.class ≡ o = subst (λ (v : Terminal). v.class ≡ o) same i in
      inr (next, cond_true (eqb k.class o) next (eq-eqb k.class o h), subst (λ (v : List Terminal). MatchesAll body (body r ∷ One (c ∷ []) m ∷ []) v rest) tail all, n)
