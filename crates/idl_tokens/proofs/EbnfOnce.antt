-- Where one token decides, what is taken is what the machine takes, and no other.
use Rattle.std.proofs.Common.{◌≡◌, ℕ, ◌<◌, Bool, true, false, cond, ◌&&◌, not, List, [], ◌∷◌, refl, ap, sym, ◌∙◌, subst, inl, inr, Option, None, Some, nat_lt}
use Rattle.std.specs.Prelude.{◌⊎◌, Result, Ok}
use Rattle.std.proofs.lemmas.Bool.{lt-ltb}
use Rattle.idl_tokens.specs.Ebnf.{Ebnf, Terminal, has, Matches}
use Rattle.idl_tokens.specs.Ebnf.Matches.{one, seq, left, right, none, some, stop, more, within}
use Rattle.idl_tokens.specs.Machine.{null, nulls, joined, onto, after, after_all, Next, Stuck, ended, sized, go}
use Rattle.idl_tokens.specs.Checks.{first, carry, apart, decides, firsts, carries}
use Rattle.idl_tokens.specs.Stacks.{MatchesAll, Good}
use Rattle.idl_tokens.specs.EbnfLaws.{EndsIn}
use Rattle.idl_tokens.proofs.Sound.{and_both, joined_is, matches_join}
use Rattle.idl_tokens.proofs.Sets.{has_either, has_left, has_right, has_cond, has_given}
use Rattle.idl_tokens.proofs.Complete.{begins, passed, first_carries}
use Rattle.idl_tokens.proofs.Stacks.{all_good, all_first, after_good, carries_join}

and_both_true : (a b : Bool) → a ≡ true → b ≡ true → (a && b) ≡ true
and_both_true true b p q = q
and_both_true false b p q = cc

not_both : (a : Bool) → not a ≡ true → a ≡ true → ⊥
not_both true e h = cc
not_both false e h = cc

all_carry : (s : List Ebnf) (c : ℕ) → nulls s ≡ true → has c (firsts s) ≡ true → has c (carries s) ≡ true
all_carry [] c n h = cc
all_carry (g ∷ s) c n h =
    let p = and_both (null g) (nulls s) n in
    elim (has_either c (first g) (cond (null g) (firsts s) []) h) [
      | inl i ↦ has_right c (carries s) (cond (nulls s) (carry g) []) (has_given c (nulls s) (carry g) p.1 (first_carries g c p.0 i))
      | inr i ↦ has_left c (carries s) (cond (nulls s) (carry g) []) (all_carry s c p.1 (has_cond c (null g) (firsts s) i).1)
    ]

module _ (body : ℕ → Ebnf) where
  nothing : {g : Ebnf} {ts rest : List Terminal} → Matches body g ts rest → ts ≡ [] → decides body g ≡ true → (null g ≡ true) × (rest ≡ [])
  nothing (one cs m j us e l) i d = cc
  nothing (seq {a = a} {b = b} p q) i d =
      let da = and_both (decides body a) (decides body b && apart (carry a) (first b)) d in
      let u = nothing p i da.0 in
      let v = nothing q u.1 (and_both (decides body b) (apart (carry a) (first b)) da.1).0 in
      (and_both_true (null a) (null b) u.0 v.0, v.1)
  nothing (left {a = a} b p) i d =
      let da = and_both (decides body a) (decides body b && (apart (first a) (first b) && (not (null a) && not (null b)))) d in
      let db = and_both (decides body b) (apart (first a) (first b) && (not (null a) && not (null b))) da.1 in
      let dn = and_both (apart (first a) (first b)) (not (null a) && not (null b)) db.1 in
      absurd (not_both (null a) (and_both (not (null a)) (not (null b)) dn.1).0 (nothing p i da.0).0)
  nothing (right a {b = b} p) i d =
      let da = and_both (decides body a) (decides body b && (apart (first a) (first b) && (not (null a) && not (null b)))) d in
      let db = and_both (decides body b) (apart (first a) (first b) && (not (null a) && not (null b))) da.1 in
      let dn = and_both (apart (first a) (first b)) (not (null a) && not (null b)) db.1 in
      absurd (not_both (null b) (and_both (not (null a)) (not (null b)) dn.1).1 (nothing p i db.0).0)
  nothing (none a us) i d = (refl, i)
  nothing (some {a = a} p) i d =
      let da = and_both (decides body a) (not (null a)) d in
      absurd (not_both (null a) da.1 (nothing p i da.0).0)
  nothing (stop a us) i d = (refl, i)
  nothing (more {a = a} p q) i d =
      let da = and_both (decides body a) (not (null a) && apart (carry a) (first a)) d in
      let dn = and_both (not (null a)) (apart (carry a) (first a)) da.1 in
      absurd (not_both (null a) dn.0 (nothing p i da.0).0)
  nothing (within o r c m j e l p q) i d = cc

  pub all_nothing : (s : List Ebnf) (rest : List Terminal) → Good body s → MatchesAll body s [] rest → (nulls s ≡ true) × (rest ≡ [])
  all_nothing [] rest h a = (refl, sym a)
  all_nothing (g ∷ s) rest h a =
      let u = nothing a.1 refl h.0 in
      let v = all_nothing s rest h.2 (subst (λ (x : List Terminal). MatchesAll body s x rest) u.1 a.2) in
      (and_both_true (null g) (nulls s) u.0 v.0, v.1)

  all_begun : (s : List Ebnf) (k : Terminal) (ks rest : List Terminal) → Good body s → MatchesAll body s (k ∷ ks) rest → ((nulls s ≡ true) × (k ∷ ks ≡ rest)) ⊎ ((t : Next) × (after_all body s k.class ≡ Some t) × MatchesAll body t.wanted ks rest × (k.size < t.limit))
  all_begun [] k ks rest h a = inl (refl, a)
  all_begun (g ∷ s) k ks rest h a =
      elim (begins body a.1 k ks refl h.0) [
        | inl p ↦ elim (all_begun s k ks rest h.2 (subst (λ (v : List Terminal). MatchesAll body s v rest) (sym p.1) a.2)) [
          | inl q ↦ inl (and_both_true (null g) (nulls s) p.0 q.0, q.1)
          | inr i ↦
              let no = passed body g k.class (firsts s) p.0 h.1 (all_first body s k.class i.0 i.1) in
              let to : after_all body (g ∷ s) k.class ≡ Some i.0 = ap (λ o. joined o (null g) s (after_all body s k.class)) no ∙ (ap (λ n. joined None n s (after_all body s k.class)) p.0 ∙ i.1) in
              inr (i.0, to, i.2, i.3)
        ]
        | inr p ↦ inr (onto p.0 s, ap (λ o. joined o (null g) s (after_all body s k.class)) p.1, matches_join body p.0.wanted s ks a.0 rest p.2 a.2, p.3)
      ]

  module _ (rules : (r : ℕ) → decides body (body r) ≡ true) where
    carries_on : (s : List Ebnf) (k : ℕ) (t : Next) (c : ℕ) → Good body s → after_all body s k ≡ Some t → has c (carries t.wanted) ≡ true → has c (carries s) ≡ true
    carries_on [] k t c h e i = cc
    carries_on (g ∷ s) k t c h e i =
        elim (joined_is (after body g k) (null g) s (after_all body s k) t e) [
          | inl p ↦
              let u = after_good body rules g k p.0 h.0 p.1 in
              elim (carries_join p.0.wanted s c (subst (λ (v : Next). has c (carries v.wanted) ≡ true) (sym p.2) i)) [
                | inl j ↦ has_left c (carries s) (cond (nulls s) (carry g) []) j
                | inr j ↦ has_right c (carries s) (cond (nulls s) (carry g) []) (has_given c (nulls s) (carry g) j.0 (u.1 c j.1))
              ]
          | inr p ↦ has_left c (carries s) (cond (nulls s) (carry g) []) (carries_on s k t c h.2 p.2 i)
        ]

    ends_on : (s : List Ebnf) (k : ℕ) (t : Next) (rest : List Terminal) → Good body s → after_all body s k ≡ Some t → EndsIn s rest → EndsIn t.wanted rest
    ends_on s k t [] h e n = tt
    ends_on s k t (j ∷ rest) h e n = λ i. n (carries_on s k t j.class h e i)

    abbrev At : List Ebnf → Terminal → List Terminal → Option Next → Result (List Terminal) Stuck
    At s k ks o = elim o as (λ _. Result (List Terminal) Stuck) [ Some t ↦ sized (nat_lt k.size t.limit) (go body t.wanted ks) (k ∷ ks) | None ↦ ended (nulls s) (k ∷ ks) ]

    over : (s : List Ebnf) (k : Terminal) (ks : List Terminal) (o : Option Next) → after_all body s k.class ≡ o → nulls s ≡ true → EndsIn s (k ∷ ks) → At s k ks o ≡ Ok (k ∷ ks)
    over s k ks (Some t) e n f = absurd (f (all_carry s k.class n (all_first body s k.class t e)))
    over s k ks None e n f = ap (λ b. ended b (k ∷ ks)) n

    -- what is taken, with nothing behind it that would carry it on, is what the machine goes along
    pub go_complete : (s : List Ebnf) (ts rest : List Terminal) → Good body s → MatchesAll body s ts rest → EndsIn s rest → go body s ts ≡ Ok rest
    unfolding go
    go_complete s [] rest h a f =
        let p = all_nothing s rest h a in
        ap (λ b. ended b []) p.0 ∙ ap (λ (x : List Terminal). Ok x) (sym p.1)
    go_complete s (k ∷ ks) rest h a f =
        elim (all_begun s k ks rest h a) [
          | inl p ↦ over s k ks (after_all body s k.class) refl p.0 (subst (EndsIn s) (sym p.1) f) ∙ ap (λ (x : List Terminal). Ok x) p.1
          | inr p ↦
              ap (At s k ks) p.1
              ∙ (ap (λ b. sized b (go body p.0.wanted ks) (k ∷ ks)) (lt-ltb k.size p.0.limit p.3)
              ∙ go_complete p.0.wanted ks rest (all_good body rules s k.class p.0 h p.1) p.2 (ends_on s k.class p.0 rest h p.1 f))
        ]

    -- so a front is taken in one way
    pub one_way : (s : List Ebnf) (ts r q : List Terminal) → Good body s → MatchesAll body s ts r → MatchesAll body s ts q → EndsIn s r → EndsIn s q → r ≡ q
    one_way s ts r q h a b f g = let e = go_complete s ts r h a f in let i = go_complete s ts q h b g in cc
