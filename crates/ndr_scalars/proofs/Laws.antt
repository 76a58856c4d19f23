-- What is read is what stands there.
use Rattle.std.proofs.Common.{◌≡◌, ℕ, ◌+◌, ◌≤◌, Bool, true, false, List, length, take, drop, Option, Some, None, refl, subst, sym, ◌∙◌, arith}
use Rattle.std.specs.Prelude.{nat_lt, if◌then◌else◌, Result, Ok, Err, MatchResult, IfOk, IsOkAnd}
use Rattle.std.proofs.lemmas.Bool.{ltb-false, le-ltb}
use Rattle.rpc_base.specs.declared.identifiers.Order.{Order}
use Rattle.ndr_scalars.specs.Scalars.{up, octets_of, number_in, number_at, Scalar}

unless : {A : Type 0} (b : Bool) (x y : A) → (if b then None else Some x) ≡ Some y → (b ≡ false) × (x ≡ y)
unless true x y e = absurd cc
unless false x y e = (refl, cc)

pub number_stands : (order : Order) (size : ℕ) (octets : List ℕ) (i : ℕ) (x : ℕ × ℕ) → number_at order size octets i ≡ Some x → Scalar order octets size x.0 i x.1
unfolding number_at
number_stands order size octets i x e =
    let g = unless (nat_lt (length octets) (up i (octets_of size) + octets_of size)) (number_in order size (take (octets_of size) (drop (up i (octets_of size)) octets)), up i (octets_of size) + octets_of size) x e in
    let long : up i (octets_of size) + octets_of size ≤ length octets = ltb-false _ _ g.0 in
    subst (λ (y : ℕ × ℕ). Scalar order octets size y.0 i y.1) g.1 (record { ends = refl; within = long; is = refl })

pub number_read : (order : Order) (size : ℕ) (octets : List ℕ) (n i j : ℕ) → Scalar order octets size n i j → number_at order size octets i ≡ Some (n, j)
unfolding number_at
number_read order size octets n i j s =
    let long : nat_lt (length octets) (up i (octets_of size) + octets_of size) ≡ false = le-ltb _ _ (omega (arith, s.ends, s.within)) in
    rw (long, ← s.is, ← s.ends) refl

no_some : {A : Type 0} (x : A) (o : Option A) → o ≡ None → o ≡ Some x → ⊥
no_some x None e f = absurd cc
no_some x (Some y) e f = absurd cc

module _ {E : Type 0} (order : Order) (size : ℕ) (octets : List ℕ) (i : ℕ) where
  pub found : (r : Result (ℕ × ℕ) E) → MatchResult r (λ x. number_at order size octets i ≡ Some x) (λ _. number_at order size octets i ≡ None) → IfOk r (λ x. Scalar order octets size x.0 i x.1)
  found (Ok x) e = number_stands order size octets i x e
  found (Err d) e = tt

  pub only : (r : Result (ℕ × ℕ) E) → MatchResult r (λ x. number_at order size octets i ≡ Some x) (λ _. number_at order size octets i ≡ None) → (n j : ℕ) → Scalar order octets size n i j → IsOkAnd r (λ x. x ≡ (n, j))
  only (Ok x) e n j s = let f : Some x ≡ Some (n, j) = sym e ∙ number_read order size octets n i j s in cc
  only (Err d) e n j s = no_some (n, j) (number_at order size octets i) e (number_read order size octets n i j s)
