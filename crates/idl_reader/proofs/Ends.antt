-- A class that a grammar lacks the machine never passes.
use Rattle.std.proofs.Common.{◌≡◌, ℕ, Bool, true, false, eqb, nat_lt, cond, ◌&&◌, ◌||◌, not, List, [], ◌∷◌, ◌++◌, refl, ap, ◌∙◌, subst, inl, inr, Option, None, Some}
use Rattle.std.specs.Prelude.{Result, Ok, Err}
use Rattle.idl_tokens.specs.Ebnf.{Ebnf, Terminal, has}
use Rattle.idl_tokens.specs.Ebnf.Ebnf.{One, Seq, Alt, Opt, Many, Within}
use Rattle.idl_tokens.specs.Machine.{null, nulls, joined, or_else, after, after_all, Next, Stuck, ended, sized, go}
use Rattle.idl_tokens.proofs.Sound.{and_both, cond_is, joined_is, or_is}
use Rattle.idl_tokens.specs.Terminals.{closing}

-- no token of the class is in it, but in its brackets
abbrev pub lacks : ℕ → Ebnf → Bool
lacks c (One cs m) = not (has c cs)
lacks c (Seq a b) = lacks c a && lacks c b
lacks c (Alt a b) = lacks c a && lacks c b
lacks c (Opt a) = lacks c a
lacks c (Many a) = lacks c a
lacks c (Within o r d m) = not (eqb c o) && not (eqb c d)

abbrev pub all_lack : ℕ → List Ebnf → Bool
all_lack c [] = true
all_lack c (g ∷ s) = lacks c g && all_lack c s

both : (a b : Bool) → a ≡ true → b ≡ true → (a && b) ≡ true
both true b p q = q
both false b p q = cc

not_false : (a : Bool) → not a ≡ true → a ≡ false
not_false true e = cc
not_false false e = refl

lack_join : (c : ℕ) (t s : List Ebnf) → all_lack c t ≡ true → all_lack c s ≡ true → all_lack c (t ++ s) ≡ true
lack_join c [] s p q = q
lack_join c (g ∷ t) s p q = let i = and_both (lacks c g) (all_lack c t) p in both (lacks c g) (all_lack c (t ++ s)) i.0 (lack_join c t s i.1 q)

one_lacks : (c : ℕ) (g : Ebnf) → lacks c g ≡ true → all_lack c (g ∷ []) ≡ true
one_lacks c g e = both (lacks c g) true e refl

cond_none : (b : Bool) (t : Next) → b ≡ false → cond b (Some t) None ≡ None
cond_none true t e = cc
cond_none false t e = refl

joined_none : (o : Option Next) (n : Bool) (s : List Ebnf) (p : Option Next) → o ≡ None → p ≡ None → joined o n s p ≡ None
joined_none (Some t) n s p e f = cc
joined_none None true s p e f = f
joined_none None false s p e f = refl

or_none : (o p : Option Next) → o ≡ None → p ≡ None → or_else o p ≡ None
or_none (Some t) p e f = cc
or_none None p e f = f

-- the last token is of the class
abbrev pub LastIs : ℕ → List Terminal → Type 0
LastIs c [] = ⊥
LastIs c (k ∷ []) = k.class ≡ c
LastIs c (k ∷ j ∷ ks) = LastIs c (j ∷ ks)

-- what the machine leaves, or where it stops
abbrev pub LeavesSome : Result (List Terminal) Stuck → Type 0
LeavesSome (Ok rest) = rest ≡ [] → ⊥
LeavesSome (Err x) = x.rest ≡ [] → ⊥

module _ (body : ℕ → Ebnf) where
  after_none : (c : ℕ) (g : Ebnf) → lacks c g ≡ true → after body g c ≡ None
  after_none c (One cs m) e = cond_none (has c cs) (record { limit = m; wanted = [] }) (not_false (has c cs) e)
  after_none c (Seq a b) e =
      let p = and_both (lacks c a) (lacks c b) e in
      joined_none (after body a c) (null a) (b ∷ []) (after body b c) (after_none c a p.0) (after_none c b p.1)
  after_none c (Alt a b) e =
      let p = and_both (lacks c a) (lacks c b) e in
      or_none (after body a c) (after body b c) (after_none c a p.0) (after_none c b p.1)
  after_none c (Opt a) e = after_none c a e
  after_none c (Many a) e = joined_none (after body a c) false (Many a ∷ []) None (after_none c a e) refl
  after_none c (Within o r d m) e = cond_none (eqb c o) (record { limit = m; wanted = body r ∷ One (d ∷ []) m ∷ [] }) (not_false (eqb c o) (and_both (not (eqb c o)) (not (eqb c d)) e).0)

  all_none : (c : ℕ) (s : List Ebnf) → all_lack c s ≡ true → after_all body s c ≡ None
  all_none c [] e = refl
  all_none c (g ∷ s) e =
      let p = and_both (lacks c g) (all_lack c s) e in
      joined_none (after body g c) (null g) s (after_all body s c) (after_none c g p.0) (all_none c s p.1)

  module _ (c : ℕ) (inside : (r : ℕ) → lacks c (body r) ≡ true) where
    after_lacks : (g : Ebnf) (k : ℕ) (t : Next) → lacks c g ≡ true → after body g k ≡ Some t → all_lack c t.wanted ≡ true
    after_lacks (One cs m) k t f e = subst (λ (v : Next). all_lack c v.wanted ≡ true) (cond_is (has k cs) (record { limit = m; wanted = [] }) t e).1 refl
    after_lacks (Seq a b) k t f e =
        let p = and_both (lacks c a) (lacks c b) f in
        elim (joined_is (after body a k) (null a) (b ∷ []) (after body b k) t e) [
          | inl q ↦ subst (λ (v : Next). all_lack c v.wanted ≡ true) q.2 (lack_join c q.0.wanted (b ∷ []) (after_lacks a k q.0 p.0 q.1) (one_lacks c b p.1))
          | inr q ↦ after_lacks b k t p.1 q.2
        ]
    after_lacks (Alt a b) k t f e =
        let p = and_both (lacks c a) (lacks c b) f in
        elim (or_is (after body a k) (after body b k) t e) [
          | inl q ↦ after_lacks a k t p.0 q
          | inr q ↦ after_lacks b k t p.1 q.1
        ]
    after_lacks (Opt a) k t f e = after_lacks a k t f e
    after_lacks (Many a) k t f e =
        elim (joined_is (after body a k) false (Many a ∷ []) None t e) [
          | inl q ↦ subst (λ (v : Next). all_lack c v.wanted ≡ true) q.2 (lack_join c q.0.wanted (Many a ∷ []) (after_lacks a k q.0 f q.1) (one_lacks c (Many a) f))
          | inr q ↦ cc
        ]
    after_lacks (Within o r d m) k t f e =
        let p = and_both (not (eqb c o)) (not (eqb c d)) f in
        let closing : lacks c (One (d ∷ []) m) ≡ true = ap not (or_false (eqb c d)) ∙ p.1 in
        subst (λ (v : Next). all_lack c v.wanted ≡ true) (cond_is (eqb k o) (record { limit = m; wanted = body r ∷ One (d ∷ []) m ∷ [] }) t e).1 (both (lacks c (body r)) (lacks c (One (d ∷ []) m) && true) (inside r) (one_lacks c (One (d ∷ []) m) closing))
      where
        or_false : (b : Bool) → (b || false) ≡ b
        or_false true = refl
        or_false false = refl

    all_lacks : (s : List Ebnf) (k : ℕ) (t : Next) → all_lack c s ≡ true → after_all body s k ≡ Some t → all_lack c t.wanted ≡ true
    all_lacks [] k t f e = cc
    all_lacks (g ∷ s) k t f e =
        let p = and_both (lacks c g) (all_lack c s) f in
        elim (joined_is (after body g k) (null g) s (after_all body s k) t e) [
          | inl q ↦ subst (λ (v : Next). all_lack c v.wanted ≡ true) q.2 (lack_join c q.0.wanted s (after_lacks g k q.0 p.0 q.1) p.1)
          | inr q ↦ all_lacks s k t p.1 q.2
        ]

    abbrev At : List Ebnf → Terminal → List Terminal → Option Next → Result (List Terminal) Stuck
    At s k ks o = elim o as (λ _. Result (List Terminal) Stuck) [ Some t ↦ sized (nat_lt k.size t.limit) (go body t.wanted ks) (k ∷ ks) | None ↦ ended (nulls s) (k ∷ ks) ]

    ended_leaves : (n : Bool) (k : Terminal) (ks : List Terminal) → LeavesSome (ended n (k ∷ ks))
    ended_leaves true k ks = λ e. cc
    ended_leaves false k ks = λ e. cc

    sized_leaves : (b : Bool) (r : Result (List Terminal) Stuck) (k : Terminal) (ks : List Terminal) → LeavesSome r → LeavesSome (sized b r (k ∷ ks))
    sized_leaves true r k ks h = h
    sized_leaves false r k ks h = λ e. cc

    on_leaves : (s : List Ebnf) (k j : Terminal) (ks : List Terminal) → ((t : List Ebnf) → all_lack c t ≡ true → LeavesSome (go body t (j ∷ ks))) → (o : Option Next) → after_all body s k.class ≡ o → all_lack c s ≡ true → LeavesSome (At s k (j ∷ ks) o)
    on_leaves s k j ks ih (Some t) i e = sized_leaves (nat_lt k.size t.limit) (go body t.wanted (j ∷ ks)) k (j ∷ ks) (ih t.wanted (all_lacks s k.class t e i))
    on_leaves s k j ks ih None i e = ended_leaves (nulls s) k (j ∷ ks)

    last_leaves : (s : List Ebnf) (k : Terminal) (o : Option Next) → after_all body s k.class ≡ o → o ≡ None → LeavesSome (At s k [] o)
    last_leaves s k (Some t) i e = cc
    last_leaves s k None i e = ended_leaves (nulls s) k []

    -- it never passes the class, so where that ends the tokens, some are left
    pub go_leaves : (s : List Ebnf) (ks : List Terminal) → all_lack c s ≡ true → LastIs c ks → LeavesSome (go body s ks)
    unfolding go
    go_leaves s [] e l = absurd l
    go_leaves s (k ∷ []) e l = last_leaves s k (after_all body s k.class) refl (ap (after_all body s) l ∙ all_none c s e)
    go_leaves s (k ∷ j ∷ ks) e l = on_leaves s k j ks (λ t f. go_leaves t (j ∷ ks) f l) (after_all body s k.class) refl e
