-- Facts about histories, and about places in them.
use Rattle.std.specs.Prelude.{nat_le}
use Rattle.std.proofs.Common.{if◌then◌else◌, ◌≡◌, ◌≢◌, ℕ, zero, suc, ◌+◌, ◌<◌, ◌≤◌, ◌==◌, ◌⊎◌, Bool, true, false, List, [], ◌∷◌, ◌++◌, length, set, refl, sym, ap, ◌∙◌, subst, inl, inr, arith, append_assoc, length-append}
use Rattle.std.proofs.lemmas.List.{append-nil, take-append-le}
use Rattle.std.proofs.lemmas.Bool.Decides.{nat_tests}
use mathlib.Core.Option.{some, some-injective, some-ne-none}
use mathlib.Core.Logic.{dite}
use native.Mathlib.Decide.{ℕ_discrete}
use lib.ListN.{get_elem?}
use Rattle.turn_lock.specs.Histories.{times, total, once_below, places, StartsWith, longer, shorter, Tied}

pub times-append : (p : ℕ) (xs ys : List ℕ) → times p (xs ++ ys) ≡ times p xs + times p ys
times-append p [] ys = omega arith
times-append p (x ∷ xs) ys = omega (arith, times-append p xs ys)

pub times_either : (p : ℕ) (xs ys : List ℕ) → 0 < times p (xs ++ ys) → (0 < times p xs) ⊎ (0 < times p ys)
times_either p xs ys h = let both = times-append p xs ys in dite (ℕ_discrete (times p xs) 0) (λ none. inr (omega arith)) (λ some_there. inl (omega arith))

-- the places from n on are none below n
pub times-places-below : (p n k : ℕ) → p < n → times p (places n k) ≡ 0
times-places-below p n zero h = refl
times-places-below p n (suc k) h = let t = times-places-below p (suc n) k (omega arith) in grind (arith, nat_tests)

pub once_below-places : (p n k : ℕ) → once_below p n + times p (places n k) ≡ once_below p (n + k)
once_below-places p n zero = let same : n + 0 ≡ n = omega arith in omega (arith, ap (once_below p) same)
once_below-places p n (suc k) =
    let next = once_below-places p (suc n) k in
    let here : once_below p n + (if p == n then 1 else 0) ≡ once_below p (suc n) = grind (arith, nat_tests) in
    let same : suc n + k ≡ n + suc k = omega arith in omega (arith, ap (once_below p) same)

pub once_most : (p n : ℕ) → once_below p n ≤ 1
once_most p n = grind (arith, nat_tests)

from_none : (p n : ℕ) → once_below p n ≤ 0 → n ≤ p
from_none p n h = grind (arith, nat_tests)

pub from_one : (p n : ℕ) → 0 < once_below p n → p < n
from_one p n h = grind (arith, nat_tests)

-- a place that stands among those from n on
pub place_at : (p n k : ℕ) → 0 < times p (places n k) → (n ≤ p) × (p < n + k)
place_at p n k h = let all = once_below-places p n k in let most = once_most p (n + k) in (from_none p n (omega arith), from_one p (n + k) (omega arith))

-- each of the places from n on stands among them
pub at_place : (p n k : ℕ) → n ≤ p → p < n + k → 0 < times p (places n k)
at_place p n k a b = let all = once_below-places p n k in let before : once_below p n ≡ 0 = grind (arith, nat_tests) in let after : once_below p (n + k) ≡ 1 = grind (arith, nat_tests) in omega arith

module _ {A : Type 0} where
  -- the total after a change of one
  pub total_set : (f : A → ℕ) (xs : List A) (i : ℕ) (v w : A) → get_elem? xs i ≡ some v → total f (set xs i w) + f v ≡ total f xs + f w
  total_set f [] i v w e = absurd (some-ne-none v (sym e))
  total_set f (x ∷ xs) zero v w e = let same : f x ≡ f v = ap f (some-injective x v e) in omega arith
  total_set f (x ∷ xs) (suc i) v w e = let rest = total_set f xs i v w e in omega arith

  pub total_snoc : (f : A → ℕ) (xs : List A) (v : A) → total f (xs ++ v ∷ []) ≡ total f xs + f v
  total_snoc f [] v = omega arith
  total_snoc f (x ∷ xs) v = let rest = total_snoc f xs v in omega arith

  pub total_at : (f : A → ℕ) (xs : List A) (i : ℕ) (v : A) → get_elem? xs i ≡ some v → f v ≤ total f xs
  total_at f [] i v e = absurd (some-ne-none v (sym e))
  total_at f (x ∷ xs) zero v e = let same : f x ≡ f v = ap f (some-injective x v e) in omega arith
  total_at f (x ∷ xs) (suc i) v e = let rest = total_at f xs i v e in omega arith

  -- two of them
  pub total_two : (f : A → ℕ) (xs : List A) (i j : ℕ) (v w : A) → i ≢ j → get_elem? xs i ≡ some v → get_elem? xs j ≡ some w → f v + f w ≤ total f xs
  total_two f [] i j v w ne e d = absurd (some-ne-none v (sym e))
  total_two f (x ∷ xs) zero zero v w ne e d = absurd (ne refl)
  total_two f (x ∷ xs) zero (suc j) v w ne e d = let same : f x ≡ f v = ap f (some-injective x v e) in let rest = total_at f xs j w d in omega arith
  total_two f (x ∷ xs) (suc i) zero v w ne e d = let same : f x ≡ f w = ap f (some-injective x w d) in let rest = total_at f xs i v e in omega arith
  total_two f (x ∷ xs) (suc i) (suc j) v w ne e d = let rest = total_two f xs i j v w (λ h. ne (ap suc h)) e d in omega arith

module _ {E : Type 0} where
  pub starts_self : (history : List E) → StartsWith history history
  starts_self history = ([], sym (append-nil history))

  pub starts_length : (history front : List E) → StartsWith history front → length front ≤ length history
  starts_length history front s = omega (arith, length-append front s.0, ap length s.1)

  pub starts_append : (history front more : List E) → StartsWith history front → StartsWith (history ++ more) front
  starts_append history front more s = (s.0 ++ more, ap (λ l. l ++ more) s.1 ∙ append_assoc front s.0 more)

  pub starts_trans : (a b c : List E) → StartsWith a b → StartsWith b c → StartsWith a c
  starts_trans a b c s t = (t.0 ++ s.0, s.1 ∙ (ap (λ l. l ++ s.0) t.1 ∙ append_assoc c t.0 s.0))

  pub starts_both : (history xs ys : List E) → StartsWith history xs → StartsWith history ys → length xs ≤ length ys → StartsWith ys xs
  starts_both history [] ys s t le = (ys, refl)
  starts_both history (x ∷ xs) [] s t le = absurd (omega arith)
  starts_both history (x ∷ xs) (y ∷ ys) s t le =
      let e : x ∷ (xs ++ s.0) ≡ y ∷ (ys ++ t.0) = sym s.1 ∙ t.1 in
      let tails : xs ++ s.0 ≡ ys ++ t.0 = cc in
      let rest = starts_both (xs ++ s.0) xs ys (s.0, refl) (t.0, tails) (omega arith) in
      (rest.0, cc)

  longer_by : (b : Bool) (history xs ys : List E) → StartsWith history xs → StartsWith history ys → StartsWith history (if b then ys else xs)
  longer_by true history xs ys s t = t
  longer_by false history xs ys s t = s

  pub longer_starts : (history xs ys : List E) → StartsWith history xs → StartsWith history ys → StartsWith history (longer xs ys)
  longer_starts history xs ys s t = longer_by (nat_le (length xs) (length ys)) history xs ys s t

  shorter_by : (b : Bool) (history xs ys : List E) → StartsWith history xs → StartsWith history ys → StartsWith history (if b then xs else ys)
  shorter_by true history xs ys s t = s
  shorter_by false history xs ys s t = t

  pub shorter_starts : (history xs ys : List E) → StartsWith history xs → StartsWith history ys → StartsWith history (shorter xs ys)
  shorter_starts history xs ys s t = shorter_by (nat_le (length xs) (length ys)) history xs ys s t

  longest : (b : Bool) (xs ys : List E) → nat_le (length xs) (length ys) ≡ b → (length xs ≤ length (if b then ys else xs)) × (length ys ≤ length (if b then ys else xs))
  longest true xs ys is = (grind (arith, nat_tests), omega arith)
  longest false xs ys is = (omega arith, grind (arith, nat_tests))

  pub longer_length : (xs ys : List E) → (length xs ≤ length (longer xs ys)) × (length ys ≤ length (longer xs ys))
  longer_length xs ys = longest (nat_le (length xs) (length ys)) xs ys refl

  pub at_append : (xs ys : List E) (q : ℕ) → q < length xs → get_elem? (xs ++ ys) q ≡ get_elem? xs q
  at_append [] ys q h = absurd (omega arith)
  at_append (x ∷ xs) ys zero h = refl
  at_append (x ∷ xs) ys (suc q) h = at_append xs ys q (omega arith)

  pub at_within : (xs : List E) (q : ℕ) (e : E) → get_elem? xs q ≡ some e → q < length xs
  at_within [] q e h = absurd (some-ne-none e (sym h))
  at_within (x ∷ xs) zero e h = omega arith
  at_within (x ∷ xs) (suc q) e h = let r = at_within xs q e h in omega arith

  module _ (ties : List E → E → ℕ → Type 0) where
    -- what was tied in a longer history was tied before
    pub tied_before : (history more : List E) (q p : ℕ) → q < length history → Tied ties (history ++ more) q p → Tied ties history q p
    tied_before history more q p h t = (t.0, (t.1.0, sym (at_append history more q h) ∙ t.1.1, subst (λ l. ties l t.1.0 p) (take-append-le q history more (omega arith)) t.1.2))

    pub tied_after : (history more : List E) (q p : ℕ) → Tied ties history q p → Tied ties (history ++ more) q p
    tied_after history more q p t = let h = at_within history q t.1.0 t.1.1 in (t.0, (t.1.0, at_append history more q h ∙ t.1.1, subst (λ l. ties l t.1.0 p) (sym (take-append-le q history more (omega arith))) t.1.2))
