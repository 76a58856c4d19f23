-- A text departs from the grammar once.
use Rattle.std.proofs.Common.{◌≡◌, Bool, true, false, List, [], ◌∷◌, ◌++◌, refl, ap, sym, ◌∙◌, subst, inl, inr, append_assoc}
use Rattle.std.specs.Prelude.{◌⊎◌}
use Rattle.idl_tokens.specs.Ebnf.{Terminal, Matches}
use Rattle.idl_tokens.specs.declared.kinds.Token.{Token}
use Rattle.idl_tokens.specs.Terminals.{terminal, terminals}
use Rattle.idl_tree.specs.Grammar.{rule, file}
use Rattle.idl_tree.specs.Idl.{BeginsText, FirstDeparture, least}

-- what is before what begins a text begins one too
prefix_begins : (a b : List Terminal) → BeginsText (a ++ b) → BeginsText a
prefix_begins a b t = (b ++ t.0, subst (λ (x : List Terminal). Matches rule file x []) (append_assoc a b t.0) t.1)

terminals_append : (a b : List Token) → terminals (a ++ b) ≡ terminals a ++ terminals b
terminals_append [] b = refl
terminals_append (t ∷ a) b = ap (λ x. terminal t.kind ∷ x) (terminals_append a b)

-- of two ways to cut a list in front of a token, one is not behind the other, or they are the same
record Behind (a b : List Token) (s : Token) : Type 0 where
  more : List Token
  is : b ≡ a ++ s ∷ more

cuts : (a b : List Token) (s t : Token) (u v : List Token) → a ++ s ∷ u ≡ b ++ t ∷ v → ((a ≡ b) × (s ≡ t)) ⊎ (Behind a b s ⊎ Behind b a t)
cuts [] [] s t u v e = inl (refl, cc)
cuts [] (x ∷ b) s t u v e = let same : s ≡ x = cc in inr (inl (record { more = b; is = ap (λ y. y ∷ b) (sym same) }))
cuts (x ∷ a) [] s t u v e = let same : t ≡ x = cc in inr (inr (record { more = a; is = ap (λ y. y ∷ a) (sym same) }))
cuts (x ∷ a) (y ∷ b) s t u v e =
    let head : x ≡ y = cc in
    let tail : a ++ s ∷ u ≡ b ++ t ∷ v = cc in
    elim (cuts a b s t u v tail) [
      | inl p ↦ inl (ap (λ z. z ∷ a) head ∙ ap (λ z. y ∷ z) p.0, p.1)
      | inr q ↦ inr (elim q [
        | inl p ↦ inl (record { more = p.more; is = ap (λ z. y ∷ z) p.is ∙ ap (λ z. z ∷ (a ++ s ∷ p.more)) (sym head) })
        | inr p ↦ inr (record { more = p.more; is = ap (λ z. x ∷ z) p.is ∙ ap (λ z. z ∷ (b ++ t ∷ p.more)) head })
      ])
    ]

-- a departure is not behind another
never : (tokens : List Token) (s t : Token) (o p : Bool) (d : FirstDeparture tokens s o) (e : FirstDeparture tokens t p) → Behind d.before e.before s → ⊥
never tokens s t o p d e h =
    let all : terminals e.before ≡ (terminals d.before ++ terminal s.kind ∷ []) ++ terminals h.more = ap terminals h.is ∙ (terminals_append d.before (s ∷ h.more) ∙ sym (append_assoc (terminals d.before) (terminal s.kind ∷ []) (terminals h.more))) in
    d.no_further (prefix_begins (terminals d.before ++ terminal s.kind ∷ []) (terminals h.more) (subst (λ (x : List Terminal). BeginsText x) all e.begins))

true_same : (o p : Bool) → ((o ≡ true) → (p ≡ true)) → ((p ≡ true) → (o ≡ true)) → o ≡ p
true_same true p a b = sym (a refl)
true_same false true a b = b refl
true_same false false a b = refl

pub departs_once : (tokens : List Token) (s t : Token) (o p : Bool) → FirstDeparture tokens s o → FirstDeparture tokens t p → (s ≡ t) × (o ≡ p)
departs_once tokens s t o p d e =
    elim (cuts d.before e.before s t d.behind e.behind (sym d.cut ∙ e.cut)) [
      | inl q ↦
          let move : terminals d.before ++ least (terminal s.kind) ∷ [] ≡ terminals e.before ++ least (terminal t.kind) ∷ [] = ap (λ x. terminals x ++ least (terminal s.kind) ∷ []) q.0 ∙ ap (λ (x : Token). terminals e.before ++ least (terminal x.kind) ∷ []) q.1 in
          (q.1, true_same o p (λ h. e.smaller.1 (subst BeginsText move (d.smaller.0 h))) (λ h. d.smaller.1 (subst BeginsText (sym move) (e.smaller.0 h))))
      | inr q ↦ elim q [
        | inl h ↦ absurd (never tokens s t o p d e h)
        | inr h ↦ absurd (never tokens t s p o e d h)
      ]
    ]

pub no_departure : (tokens : List Token) (t : Token) (o : Bool) → Matches rule file (terminals tokens) [] → FirstDeparture tokens t o → ⊥
no_departure tokens t o h d =
    let all : terminals tokens ≡ (terminals d.before ++ terminal t.kind ∷ []) ++ terminals d.behind = ap terminals d.cut ∙ (terminals_append d.before (t ∷ d.behind) ∙ sym (append_assoc (terminals d.before) (terminal t.kind ∷ []) (terminals d.behind))) in
    d.no_further (terminals d.behind, subst (λ (x : List Terminal). Matches rule file x []) all h)
