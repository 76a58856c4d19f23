-- What the machine takes is taken.
use Rattle.std.proofs.Common.{◌≡◌, ℕ, ◌<◌, Bool, true, false, eqb, cond, ◌&&◌, List, [], ◌∷◌, ◌++◌, refl, sym, subst, inl, inr, Option, None, Some}
use Rattle.std.specs.Prelude.{◌⊎◌}
use Rattle.std.proofs.lemmas.Bool.{eqb-true}
use Rattle.idl_tokens.specs.Ebnf.{Ebnf, Terminal, has, Matches}
use Rattle.idl_tokens.specs.Ebnf.Ebnf.{One, Seq, Alt, Opt, Many, Within}
use Rattle.idl_tokens.specs.Ebnf.Matches.{one, seq, left, right, none, some, stop, more, within}
use Rattle.idl_tokens.specs.Machine.{null, nulls, joined, or_else, onto, after, after_all, Next}
use Rattle.idl_tokens.specs.Stacks.{MatchesAll}

pub and_both : (a b : Bool) → (a && b) ≡ true → (a ≡ true) × (b ≡ true)
and_both true b e = (refl, e)
and_both false b e = cc

pub cond_is : (b : Bool) (s t : Next) → cond b (Some s) None ≡ Some t → (b ≡ true) × (s ≡ t)
cond_is true s t e = (refl, cc)
cond_is false s t e = cc

pub joined_is : (o : Option Next) (n : Bool) (s : List Ebnf) (p : Option Next) (t : Next) → joined o n s p ≡ Some t → ((u : Next) × (o ≡ Some u) × (onto u s ≡ t)) ⊎ ((o ≡ None) × (n ≡ true) × (p ≡ Some t))
joined_is (Some u) n s p t e = inl (u, refl, cc)
joined_is None true s p t e = inr (refl, refl, e)
joined_is None false s p t e = cc

pub or_is : (o p : Option Next) (t : Next) → or_else o p ≡ Some t → (o ≡ Some t) ⊎ ((o ≡ None) × (p ≡ Some t))
or_is (Some u) p t e = inl e
or_is None p t e = inr (refl, e)

pub one_is : (body : ℕ → Ebnf) (cs : List ℕ) (m : ℕ) (ts rest : List Terminal) → Matches body (One cs m) ts rest → (k : Terminal) × (ts ≡ k ∷ rest) × (has k.class cs ≡ true) × (k.size < m)
one_is body cs m ts rest (one ds n k us e l) = (k, refl, e, l)

module _ (body : ℕ → Ebnf) where
  pub matches_join : (t s : List Ebnf) (ts mid rest : List Terminal) → MatchesAll body t ts mid → MatchesAll body s mid rest → MatchesAll body (t ++ s) ts rest
  matches_join [] s ts mid rest h k = subst (λ (x : List Terminal). MatchesAll body s x rest) (sym h) k
  matches_join (g ∷ t) s ts mid rest h k = (h.0, h.1, matches_join t s h.0 mid rest h.2 k)

  pub matches_cut : (t s : List Ebnf) (ts rest : List Terminal) → MatchesAll body (t ++ s) ts rest → (mid : List Terminal) × MatchesAll body t ts mid × MatchesAll body s mid rest
  matches_cut [] s ts rest h = (ts, refl, h)
  matches_cut (g ∷ t) s ts rest h = let p = matches_cut t s h.0 rest h.2 in (p.0, (h.0, h.1, p.1), p.2)

  pub null_matches : (g : Ebnf) → null g ≡ true → (ts : List Terminal) → Matches body g ts ts
  null_matches (One cs m) e ts = cc
  null_matches (Seq a b) e ts = let p = and_both (null a) (null b) e in seq (null_matches a p.0 ts) (null_matches b p.1 ts)
  null_matches (Alt a b) e ts = cc
  null_matches (Opt a) e ts = none a ts
  null_matches (Many a) e ts = stop a ts
  null_matches (Within o r c m) e ts = cc

  pub nulls_take : (s : List Ebnf) → nulls s ≡ true → (ts : List Terminal) → MatchesAll body s ts ts
  nulls_take [] e ts = refl
  nulls_take (g ∷ s) e ts = let p = and_both (null g) (nulls s) e in (ts, null_matches g p.0 ts, nulls_take s p.1 ts)

  pub after_sound : (g : Ebnf) (k : Terminal) (t : Next) (ks rest : List Terminal) → after body g k.class ≡ Some t → k.size < t.limit → MatchesAll body t.wanted ks rest → Matches body g (k ∷ ks) rest
  after_sound (One cs m) k t ks rest e l h =
      let p = cond_is (has k.class cs) (record { limit = m; wanted = [] }) t e in
      let q = subst (λ (v : Next). MatchesAll body v.wanted ks rest) (sym p.1) h in
      let n = subst (λ (v : Next). k.size < v.limit) (sym p.1) l in
      subst (λ (v : List Terminal). Matches body (One cs m) (k ∷ ks) v) q (one cs m k ks p.0 n)
  after_sound (Seq a b) k t ks rest e l h =
      elim (joined_is (after body a k.class) (null a) (b ∷ []) (after body b k.class) t e) [
        | inl p ↦ let q = matches_cut p.0.wanted (b ∷ []) ks rest (subst (λ (v : Next). MatchesAll body v.wanted ks rest) (sym p.2) h) in
            let n = subst (λ (v : Next). k.size < v.limit) (sym p.2) l in
            seq (after_sound a k p.0 ks q.0 p.1 n q.1) (subst (λ (v : List Terminal). Matches body b q.0 v) q.2.2 q.2.1)
        | inr p ↦ seq (null_matches a p.1 (k ∷ ks)) (after_sound b k t ks rest p.2 l h)
      ]
  after_sound (Alt a b) k t ks rest e l h =
      elim (or_is (after body a k.class) (after body b k.class) t e) [
        | inl p ↦ left b (after_sound a k t ks rest p l h)
        | inr p ↦ right a (after_sound b k t ks rest p.1 l h)
      ]
  after_sound (Opt a) k t ks rest e l h = some (after_sound a k t ks rest e l h)
  after_sound (Many a) k t ks rest e l h =
      elim (joined_is (after body a k.class) false (Many a ∷ []) None t e) [
        | inl p ↦ let q = matches_cut p.0.wanted (Many a ∷ []) ks rest (subst (λ (v : Next). MatchesAll body v.wanted ks rest) (sym p.2) h) in
            let n = subst (λ (v : Next). k.size < v.limit) (sym p.2) l in
            more (after_sound a k p.0 ks q.0 p.1 n q.1) (subst (λ (v : List Terminal). Matches body (Many a) q.0 v) q.2.2 q.2.1)
        | inr p ↦ cc
      ]
  after_sound (Within o r c m) k t ks rest e l h =
      let p = cond_is (eqb k.class o) (record { limit = m; wanted = body r ∷ One (c ∷ []) m ∷ [] }) t e in
      let q = subst (λ (v : Next). MatchesAll body v.wanted ks rest) (sym p.1) h in
      let n = subst (λ (v : Next). k.size < v.limit) (sym p.1) l in
      within o r c m k (eqb-true k.class o p.0) n q.1 (subst (λ (v : List Terminal). Matches body (One (c ∷ []) m) q.0 v) q.2.2 q.2.1)

  pub all_sound : (s : List Ebnf) (k : Terminal) (t : Next) (ks rest : List Terminal) → after_all body s k.class ≡ Some t → k.size < t.limit → MatchesAll body t.wanted ks rest → MatchesAll body s (k ∷ ks) rest
  all_sound [] k t ks rest e l h = cc
  all_sound (g ∷ s) k t ks rest e l h =
      elim (joined_is (after body g k.class) (null g) s (after_all body s k.class) t e) [
        | inl p ↦ let q = matches_cut p.0.wanted s ks rest (subst (λ (v : Next). MatchesAll body v.wanted ks rest) (sym p.2) h) in
            let n = subst (λ (v : Next). k.size < v.limit) (sym p.2) l in
            (q.0, after_sound g k p.0 ks q.0 p.1 n q.1, q.2)
        | inr p ↦ (k ∷ ks, null_matches g p.1 (k ∷ ks), all_sound s k t ks rest p.2 l h)
      ]
