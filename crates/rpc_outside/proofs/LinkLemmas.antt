-- One call on a link after another.
use Rattle.std.proofs.Common.{◌≡◌, ℕ, zero, suc, ◌+◌, ◌≤◌, List, [], ◌∷◌, ◌++◌, Option, Some, None, length, take, drop, ◌-◌, length-drop, refl, sym, ap, ◌∙◌, subst, arith, append_assoc}
use Rattle.std.proofs.lemmas.List.{append-nil}
use Rattle.std.specs.Io.KnownBytes.{append_known}
use Rattle.rpc_outside.specs.Links.{Shown, Counts, Put}

known_twice : (k : Option (List ℕ)) (xs ys : List ℕ) → append_known (append_known k xs) ys ≡ append_known k (xs ++ ys)
known_twice None xs ys = refl
known_twice (Some zs) xs ys = ap Some (append_assoc zs xs ys)

known_none : (k : Option (List ℕ)) → k ≡ append_known k []
known_none None = refl
known_none (Some zs) = ap Some (sym (append-nil zs))

pub counts_then : (a b c : Shown) → Counts a b → Counts b c → Counts a c
counts_then a b c p q =
    let p1 = p.faults in let q1 = q.faults in let p2 = p.quiets in let q2 = q.quiets in let p3 = p.ends in let q3 = q.ends in
    record { faults = omega arith; quiets = omega arith; ends = omega arith }

take_nil : (m : ℕ) → take {A = ℕ} m [] ≡ []
take_nil zero = refl
take_nil (suc m) = refl

pub take_then : (n m : ℕ) (xs : List ℕ) → take n xs ++ take m (drop n xs) ≡ take (n + m) xs
take_then zero m xs = let e : m ≡ 0 + m = omega arith in ap (λ k. take k xs) e
take_then (suc n) m [] = let e : suc n + m ≡ suc (n + m) = omega arith in rw e (take_nil m)
take_then (suc n) m (x ∷ xs) = let e : suc n + m ≡ suc (n + m) = omega arith in rw e (ap (λ l. x ∷ l) (take_then n m xs))

pub put_then : (a b c : Shown) (xs ys : List ℕ) → Put a b xs → Put b c ys → Put a c (xs ++ ys)
put_then a b c xs ys p q = record {
  counts = counts_then a b c p.counts q.counts;
  taken = q.taken ∙ p.taken;
  left = q.left ∙ p.left;
  put = q.put ∙ (ap (λ k. append_known k ys) p.put ∙ known_twice a.put xs ys);
  put_at_end = q.put_at_end ∙ p.put_at_end;
  closed = q.closed ∙ p.closed;
}

put_more : (a b c : Shown) (n m : ℕ) (xs : List ℕ) → Put a b (take n xs) → Put b c (take m (drop n xs)) → Put a c (take (n + m) xs)
put_more a b c n m xs p q = subst (Put a c) (take_then n m xs) (put_then a b c (take n xs) (take m (drop n xs)) p q)

pub put_start : (a : Shown) (xs : List ℕ) → Put a a (take 0 xs)
put_start a xs = record {
  counts = record { faults = omega arith; quiets = omega arith; ends = omega arith };
  taken = refl;
  left = refl;
  put = known_none a.put;
  put_at_end = refl;
  closed = refl;
}

take_whole : (r : ℕ) (ys : List ℕ) → length ys ≤ r → take r ys ≡ ys
take_whole zero [] h = refl
take_whole (suc r) [] h = refl
take_whole zero (y ∷ ys) h = absurd (omega arith)
take_whole (suc r) (y ∷ ys) h = ap (λ l. y ∷ l) (take_whole r ys (omega arith))

-- a put of what is left of a piece
pub put_rest : (a b c : Shown) (n m : ℕ) (xs : List ℕ) → Put a b (take n xs) → Put b c (take m (take (length xs - n) (drop n xs))) → Put a c (take (n + m) xs)
put_rest a b c n m xs p q = put_more a b c n m xs p (subst (λ l. Put b c (take m l)) (take_whole (length xs - n) (drop n xs) (omega (arith, length-drop n xs))) q)
