-- Lists of classes as sets.
use Rattle.std.proofs.Common.{◌≡◌, ℕ, Bool, true, false, eqb, cond, ◌||◌, not, List, [], ◌∷◌, ◌++◌, refl, sym, ◌∙◌, subst, inl, inr}
use Rattle.std.specs.Prelude.{◌⊎◌}
use Rattle.std.proofs.lemmas.Bool.{eqb-true}
use Rattle.std.proofs.lemmas.List.Folds.{list_any-append}
use Rattle.idl_tokens.specs.Ebnf.{has}
use Rattle.idl_tokens.specs.Checks.{apart}
use Rattle.idl_tokens.specs.Stacks.{Apart}
use Rattle.idl_tokens.proofs.Sound.{and_both}

or_either : (a b : Bool) → (a || b) ≡ true → (a ≡ true) ⊎ (b ≡ true)
or_either true b e = inl refl
or_either false b e = inr e

pub has_either : (c : ℕ) (xs ys : List ℕ) → has c (xs ++ ys) ≡ true → (has c xs ≡ true) ⊎ (has c ys ≡ true)
has_either c xs ys e = or_either (has c xs) (has c ys) (sym (list_any-append (eqb c) xs ys) ∙ e)

pub or_left : (a b : Bool) → a ≡ true → (a || b) ≡ true
or_left true b e = refl
or_left false b e = cc

or_right : (a b : Bool) → b ≡ true → (a || b) ≡ true
or_right true b e = refl
or_right false b e = e

pub has_left : (c : ℕ) (xs ys : List ℕ) → has c xs ≡ true → has c (xs ++ ys) ≡ true
has_left c xs ys e = list_any-append (eqb c) xs ys ∙ or_left (has c xs) (has c ys) e

pub has_right : (c : ℕ) (xs ys : List ℕ) → has c ys ≡ true → has c (xs ++ ys) ≡ true
has_right c xs ys e = list_any-append (eqb c) xs ys ∙ or_right (has c xs) (has c ys) e

pub has_cond : (c : ℕ) (b : Bool) (xs : List ℕ) → has c (cond b xs []) ≡ true → (b ≡ true) × (has c xs ≡ true)
has_cond c true xs e = (refl, e)
has_cond c false xs e = cc

pub has_given : (c : ℕ) (b : Bool) (xs : List ℕ) → b ≡ true → has c xs ≡ true → has c (cond b xs []) ≡ true
has_given c true xs b e = e
has_given c false xs b e = cc

not_true : (a : Bool) → not a ≡ true → a ≡ true → ⊥
not_true true e h = cc
not_true false e h = cc

pub are_apart : (xs ys : List ℕ) → apart xs ys ≡ true → Apart xs ys
are_apart [] ys e c h k = cc
are_apart (x ∷ xs) ys e c h k =
    let p = and_both (not (has x ys)) (apart xs ys) e in
    elim (or_either (eqb c x) (has c xs) h) [
      | inl i ↦ not_true (has x ys) p.0 (subst (λ (v : ℕ). has v ys ≡ true) (eqb-true c x i) k)
      | inr i ↦ are_apart xs ys p.1 c i k
    ]
