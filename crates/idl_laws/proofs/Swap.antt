-- Rules that take the same may stand for one another.
use Rattle.std.proofs.Common.{ℕ, zero, suc, ◌≤◌, ◌<◌, List, length, arith}
use Rattle.idl_tokens.specs.Ebnf.{Ebnf, Terminal, Matches}
use Rattle.idl_tokens.specs.Ebnf.Matches.{one, seq, left, right, none, some, stop, more, within}

module _ (body : ℕ → Ebnf) where
  pub shorter : {g : Ebnf} {ts rest : List Terminal} → Matches body g ts rest → length rest ≤ length ts
  shorter (one cs m k ts e l) = omega arith
  shorter (seq p q) = let a = shorter p in let b = shorter q in omega arith
  shorter (left b p) = shorter p
  shorter (right a p) = shorter p
  shorter (none a ts) = omega arith
  shorter (some p) = shorter p
  shorter (stop a ts) = omega arith
  shorter (more p q) = let a = shorter p in let b = shorter q in omega arith
  shorter (within o r c m k i l p q) = let a = shorter p in let b = shorter q in omega arith

module _ (f g : ℕ → Ebnf) (to : (r : ℕ) (ts rest : List Terminal) → Matches f (f r) ts rest → Matches f (g r) ts rest) where
  abbrev Below : ℕ → Type 0
  Below n = (a : Ebnf) (ts rest : List Terminal) → length ts < n → Matches f a ts rest → Matches g a ts rest

  inside : (n : ℕ) → Below n → {a : Ebnf} {ts rest : List Terminal} → Matches f a ts rest → length ts ≤ n → Matches g a ts rest
  inside n ih (one cs m k ts e l) h = one cs m k ts e l
  inside n ih (seq p q) h = let a = shorter f p in seq (inside n ih p h) (inside n ih q (omega arith))
  inside n ih (left b p) h = left b (inside n ih p h)
  inside n ih (right a p) h = right a (inside n ih p h)
  inside n ih (none a ts) h = none a ts
  inside n ih (some p) h = some (inside n ih p h)
  inside n ih (stop a ts) h = stop a ts
  inside n ih (more p q) h = let a = shorter f p in more (inside n ih p h) (inside n ih q (omega arith))
  inside n ih (within o r c m k {ts = ts} {mid = mid} i l p q) h =
      let a = shorter f p in
      within o r c m k i l (ih (g r) ts mid (omega arith) (to r ts mid p)) (inside n ih q (omega arith))

  below : (n : ℕ) → Below n
  below zero a ts rest l p = absurd (omega arith)
  below (suc n) a ts rest l p = inside n (below n) p (omega arith)

  pub swapped : (a : Ebnf) (ts rest : List Terminal) → Matches f a ts rest → Matches g a ts rest
  swapped a ts rest p = inside (length ts) (below (length ts)) p (omega arith)
