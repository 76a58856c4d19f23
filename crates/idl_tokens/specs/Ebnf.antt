-- Grammars as values, and what they take. A token is seen as a terminal: a class, and a size that a grammar may bound.
use Rattle.std.specs.Prelude.{◌≡◌, ℕ, ◌<◌, Bool, true, eqb, List, [], ◌∷◌}
use Rattle.std.specs.List.{list_any}

pub record Terminal : Type 0 where
  pub class : ℕ
  pub size : ℕ

-- is the number in the list?
abbrev pub has : ℕ → List ℕ → Bool
has c cs = list_any (eqb c) cs

pub data Ebnf : Type 0 where
  One : List ℕ → ℕ → Ebnf  -- one token of these classes, of a size below the limit
  Seq : Ebnf → Ebnf → Ebnf  -- one after the other
  Alt : Ebnf → Ebnf → Ebnf  -- either
  Opt : Ebnf → Ebnf  -- at most once
  Many : Ebnf → Ebnf  -- any number of times
  Within : ℕ → ℕ → ℕ → ℕ → Ebnf  -- an opening token of a size below the limit, what a rule has, a closing token

-- From ts the grammar takes a front, and leaves rest. The rules' bodies are given.
pub data Matches (body : ℕ → Ebnf) : Ebnf → List Terminal → List Terminal → Type 0 where
  one : (cs : List ℕ) (m : ℕ) (k : Terminal) (ts : List Terminal) → has k.class cs ≡ true → k.size < m → Matches body (One cs m) (k ∷ ts) ts
  seq : {a b : Ebnf} {ts mid rest : List Terminal} → Matches body a ts mid → Matches body b mid rest → Matches body (Seq a b) ts rest
  left : {a : Ebnf} (b : Ebnf) {ts rest : List Terminal} → Matches body a ts rest → Matches body (Alt a b) ts rest
  right : (a : Ebnf) {b : Ebnf} {ts rest : List Terminal} → Matches body b ts rest → Matches body (Alt a b) ts rest
  none : (a : Ebnf) (ts : List Terminal) → Matches body (Opt a) ts ts
  some : {a : Ebnf} {ts rest : List Terminal} → Matches body a ts rest → Matches body (Opt a) ts rest
  stop : (a : Ebnf) (ts : List Terminal) → Matches body (Many a) ts ts
  more : {a : Ebnf} {ts mid rest : List Terminal} → Matches body a ts mid → Matches body (Many a) mid rest → Matches body (Many a) ts rest
  within : (o r c m : ℕ) (k : Terminal) {ts mid rest : List Terminal} → k.class ≡ o → k.size < m → Matches body (body r) ts mid → Matches body (One (c ∷ []) m) mid rest → Matches body (Within o r c m) (k ∷ ts) rest
