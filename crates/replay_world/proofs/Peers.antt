-- Connections by their names.
use Rattle.std.proofs.Common.{◌≡◌, ◌≢◌, ℕ, ◌==◌, nat_lt, Bool, true, false, if◌then◌else◌, Option, Some, None, List, [], ◌∷◌, refl, sym, ap, ◌∙◌, inl, inr}
use Rattle.std.specs.List.{find}
use Rattle.std.proofs.lemmas.Bool.Decides.{eqb_tells}
use Rattle.replay_world.specs.Worlds.{Peer, is_named, put_peer}

same_name : (n : ℕ) → (n == n) ≡ true
same_name n = elim (eqb_tells n n) [ inl e ↦ e.0 | inr e ↦ absurd (e.1 refl) ]

other_name : (n m : ℕ) → n ≢ m → (n == m) ≡ false
other_name n m d = elim (eqb_tells n m) [ inl e ↦ absurd (d e.1) | inr e ↦ e.0 ]

same_of : (n m : ℕ) → (n == m) ≡ true → n ≡ m
same_of n m h = elim (eqb_tells n m) [ inl e ↦ e.1 | inr e ↦ let f = e.0 in absurd (cc) ]

-- the one that is found has the name
found_as : (c : ℕ) (q : Peer) (qs : List Peer) (p : Peer) (b : Bool) → (q.name == c) ≡ b → (find (is_named c) qs ≡ Some p → p.name ≡ c) → (if b then Some q else find (is_named c) qs) ≡ Some p → p.name ≡ c
found_as c q qs p true t more f = let one : q ≡ p = cc in ap (λ (z : Peer). z.name) (sym one) ∙ same_of q.name c t
found_as c q qs p false t more f = more f

pub found_name : (c : ℕ) (ps : List Peer) (p : Peer) → find (is_named c) ps ≡ Some p → p.name ≡ c
found_name c [] p f = absurd (cc)
found_name c (q ∷ qs) p f = found_as c q qs p (q.name == c) refl (found_name c qs p) f

-- the one that was put is found
put_first : (p : Peer) (qs : List Peer) → find (is_named p.name) (p ∷ qs) ≡ Some p
put_first p qs = rw (same_name p.name) refl

put_at : (p q : Peer) (qs : List Peer) (same less : Bool) → (p.name == q.name) ≡ same → find (is_named p.name) (put_peer p qs) ≡ Some p
    → find (is_named p.name) (if same then p ∷ qs else (if less then p ∷ q ∷ qs else q ∷ put_peer p qs)) ≡ Some p
put_at p q qs true less t more = put_first p qs
put_at p q qs false true t more = put_first p (q ∷ qs)
put_at p q qs false false t more =
    elim (eqb_tells q.name p.name) [
      | inl e ↦ let back : p.name ≡ q.name = sym e.1 in let on : (p.name == q.name) ≡ true = elim (eqb_tells p.name q.name) [ inl r ↦ r.0 | inr r ↦ absurd (r.1 back) ] in absurd (cc)
      | inr e ↦ rw e.0 more
    ]

pub put_found : (p : Peer) (ps : List Peer) → find (is_named p.name) (put_peer p ps) ≡ Some p
put_found p [] = put_first p []
put_found p (q ∷ qs) = put_at p q qs (p.name == q.name) (nat_lt p.name q.name) refl (put_found p qs)

-- and the others stay
skip : (c : ℕ) (p : Peer) (qs : List Peer) → p.name ≢ c → find (is_named c) (p ∷ qs) ≡ find (is_named c) qs
skip c p qs d = rw (other_name p.name c d) refl

after : (c : ℕ) (q : Peer) (xs ys : List Peer) → find (is_named c) xs ≡ find (is_named c) ys → find (is_named c) (q ∷ xs) ≡ find (is_named c) (q ∷ ys)
after c q xs ys e = ap (λ (o : Option Peer). if (q.name == c) then Some q else o) e

other_at : (c : ℕ) (p q : Peer) (qs : List Peer) (same less : Bool) → p.name ≢ c → (p.name == q.name) ≡ same → find (is_named c) (put_peer p qs) ≡ find (is_named c) qs
    → find (is_named c) (if same then p ∷ qs else (if less then p ∷ q ∷ qs else q ∷ put_peer p qs)) ≡ find (is_named c) (q ∷ qs)
other_at c p q qs true less d t more =
    let one : p.name ≡ q.name = same_of p.name q.name t in
    let e : q.name ≢ c = λ f. d (one ∙ f) in
    skip c p qs d ∙ sym (skip c q qs e)
other_at c p q qs false true d t more = skip c p (q ∷ qs) d
other_at c p q qs false false d t more = after c q (put_peer p qs) qs more

pub put_others : (c : ℕ) (p : Peer) (ps : List Peer) → p.name ≢ c → find (is_named c) (put_peer p ps) ≡ find (is_named c) ps
put_others c p [] d = skip c p [] d
put_others c p (q ∷ qs) d = other_at c p q qs (p.name == q.name) (nat_lt p.name q.name) d refl (put_others c p qs d)
