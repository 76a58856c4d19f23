-- What several grammars take, one after the other.
use Rattle.std.specs.Prelude.{◌≡◌, ℕ, Bool, true, false, List, [], ◌∷◌, ◌++◌, ◌↔◌}
use Rattle.idl_tokens.specs.Ebnf.{Ebnf, Terminal, has, Matches}
use Rattle.idl_tokens.specs.Checks.{decides, carry, firsts}

abbrev pub MatchesAll : (ℕ → Ebnf) → List Ebnf → List Terminal → List Terminal → Type 0
MatchesAll body [] ts rest = ts ≡ rest
MatchesAll body (g ∷ s) ts rest = (mid : List Terminal) × Matches body g ts mid × MatchesAll body s mid rest

-- no class is in both
abbrev pub Apart : List ℕ → List ℕ → Type 0
Apart xs ys = (c : ℕ) → has c xs ≡ true → has c ys ≡ true → ⊥

-- of a stack each part is decided by one token, and what may carry it on begins nothing that follows
abbrev pub Good : (ℕ → Ebnf) → List Ebnf → Type 0
Good body [] = Unit {0}
Good body (g ∷ s) = (decides body g ≡ true) × Apart (carry g) (firsts s) × Good body s

-- The tokens ts begin some tokens that s takes as a whole.
abbrev pub Begins : (ℕ → Ebnf) → List Ebnf → List Terminal → Type 0
Begins body s ts = (more : List Terminal) × MatchesAll body s (ts ++ more) []

-- Behind front, which begins something, the rest's first token doesn't go on; its size alone is at fault if one of its
-- class and no size would. Where nothing is left, something is missing.
abbrev pub CannotGoOn : (ℕ → Ebnf) → List Ebnf → List Terminal → Bool → List Terminal → Type 0
CannotGoOn body s front odd [] = (MatchesAll body s front [] → ⊥) × (odd ≡ false)
CannotGoOn body s front odd (k ∷ rest) = (Begins body s (front ++ k ∷ []) → ⊥) × ((odd ≡ true) ↔ Begins body s (front ++ record { class = k.class; size = 0 } ∷ []))

-- Where ts depart from what s takes: in front of rest.
pub record Departs (body : ℕ → Ebnf) (s : List Ebnf) (ts : List Terminal) (odd : Bool) (rest : List Terminal) : Type 0 where
  pub front : List Terminal
  pub cut : ts ≡ front ++ rest
  pub begins : Begins body s front
  pub no_further : CannotGoOn body s front odd rest
