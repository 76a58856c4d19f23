-- Readings, one after the other.
use Rattle.std.proofs.Common.{◌≡◌, ℕ, zero, suc, ◌<◌, Bool, true, false, List, [], ◌∷◌, ◌++◌, length, Result, Ok, Err, refl, ap, ◌∙◌, arith, inl, inr}
use Rattle.std.specs.Prelude.{if◌then◌else◌, ◌&&◌, ◌||◌, not}
use Rattle.std.proofs.lemmas.Bool.{eqb-true, and_parts, cases_lt}
use Rattle.value_text.specs.declared.departure.Departure.TheVariants.{Syntax, Kind}
use Rattle.value_text.specs.Bind.{◌>>=◌}
use Rattle.value_text.specs.Marks.{heads, behind, wrong, mark, marks, opened, closed}

pub bind_ok : {A B E : Type 0} (r : Result A E) (f : A → Result B E) (y : B) → (r >>= f) ≡ Ok y → (x : A) × (r ≡ Ok x) × (f x ≡ Ok y)
bind_ok (Ok x) f y e = (x, refl, e)
bind_ok (Err d) f y e = absurd cc

pub through : {A B E : Type 0} (r : Result A E) (f : A → Result B E) (x : A) → r ≡ Ok x → (r >>= f) ≡ f x
through r f x e = ap (λ s. s >>= f) e

pub guard_ok : {A E : Type 0} (b : Bool) (x y : A) (d : E) → (if b then Ok x else Err d) ≡ Ok y → (b ≡ true) × (x ≡ y)
guard_ok true x y d e = (refl, cc)
guard_ok false x y d e = absurd cc

pub unless_ok : {A E : Type 0} (b : Bool) (x y : A) (d : E) → (if b then Err d else Ok x) ≡ Ok y → (b ≡ false) × (x ≡ y)
unless_ok true x y d e = absurd cc
unless_ok false x y d e = (refl, cc)

-- the step that isn't refused
pub unless_go : {A E : Type 0} (b : Bool) (r : Result A E) (y : A) (d : E) → (if b then Err d else r) ≡ Ok y → (b ≡ false) × (r ≡ Ok y)
unless_go true r y d e = absurd cc
unless_go false r y d e = (refl, e)

pub when_go : {A E : Type 0} (b : Bool) (r : Result A E) (y : A) (d : E) → (if b then r else Err d) ≡ Ok y → (b ≡ true) × (r ≡ Ok y)
when_go true r y d e = (refl, e)
when_go false r y d e = absurd cc

pub if_true : {A : Type 0} (b : Bool) (x y : A) → b ≡ true → (if b then x else y) ≡ x
if_true true x y h = refl
if_true false x y h = absurd cc

pub if_false : {A : Type 0} (b : Bool) (x y : A) → b ≡ false → (if b then x else y) ≡ y
if_false true x y h = absurd cc
if_false false x y h = refl

-- ---- signs

pub heads_is : (c : ℕ) (t : List ℕ) → heads c t ≡ true → t ≡ c ∷ behind t
heads_is c [] h = absurd cc
heads_is c (d ∷ t) h = ap (λ (x : ℕ). x ∷ t) (eqb-true d c h)

pub mark_ok : (c : ℕ) (t u : List ℕ) → mark c t ≡ Ok u → t ≡ c ∷ u
mark_ok c t u e = let g = guard_ok (heads c t) (behind t) u (Syntax (length t)) e in heads_is c t g.0 ∙ ap (λ (x : List ℕ). c ∷ x) g.1

pub opened_ok : (c : ℕ) (t u : List ℕ) → opened c t ≡ Ok u → t ≡ c ∷ u
opened_ok c t u e = let g = guard_ok (heads c t) (behind t) u (wrong t) e in heads_is c t g.0 ∙ ap (λ (x : List ℕ). c ∷ x) g.1

pub closed_ok : (may : Bool) (t u : List ℕ) → closed may t ≡ Ok u → (may ≡ true) × (behind t ≡ u)
closed_ok may t u e = guard_ok may (behind t) u (Kind (length t)) e

same_ok : {A E : Type 0} (r : Result A E) (x y : A) → r ≡ Ok x → r ≡ Ok y → x ≡ y
same_ok r x y e f = cc

pub marks_ok : (w t u : List ℕ) → marks w t ≡ Ok u → t ≡ w ++ u
marks_ok [] t u e = same_ok (marks [] t) t u refl e
marks_ok (c ∷ w) t u e =
    let b = bind_ok (mark c t) (λ x. marks w x) u e in
    mark_ok c t b.0 b.1 ∙ ap (λ (x : List ℕ). c ∷ x) (marks_ok w b.0 u b.2)

-- ---- tests of all numbers below an end, which compute

abbrev pub passes : (ℕ → Bool) → ℕ → Bool
passes p zero = true
passes p (suc n) = p n && passes p n

pub passes-at : (p : ℕ → Bool) (n k : ℕ) → passes p n ≡ true → k < n → p k ≡ true
passes-at p zero k h lt = absurd (omega arith)
passes-at p (suc n) k h lt =
    let parts = and_parts (p n) (passes p n) h in
    elim (cases_lt k n) [
      | inl below ↦ passes-at p n k parts.1 below
      | inr top ↦ let e : k ≡ n = omega arith in rw e parts.0
    ]

pub implied : (a b : Bool) → a ≡ true → (not a || b) ≡ true → b ≡ true
implied true b e h = h
implied false b e h = cc
