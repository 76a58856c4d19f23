-- What holds between a grammar that one token decides and the machine.
use Rattle.std.specs.Prelude.{◌≡◌, ℕ, true, List, [], ◌∷◌, ◌++◌, Ok, Err}
use Rattle.idl_tokens.specs.Ebnf.{Ebnf, Terminal, Matches, has}
use Rattle.idl_tokens.specs.Machine.{Stuck, go}
use Rattle.idl_tokens.specs.Checks.{decides, full, fulls, carries}
use Rattle.idl_tokens.specs.Stacks.{MatchesAll, Good, Departs}

-- some tokens that a grammar takes, whatever follows
abbrev pub Word : (ℕ → Ebnf) → Ebnf → Type 0
Word body g = (w : List Terminal) × ((rest : List Terminal) → Matches body g (w ++ rest) rest)

-- What each kind of brackets has is decided by one token, names some token at each place, and has some word.
pub record Sorted (body : ℕ → Ebnf) : Type 0 where
  pub words : (r : ℕ) → Word body (body r)
  pub rules : (r : ℕ) → decides body (body r) ≡ true
  pub whole : (r : ℕ) → full (body r) ≡ true

-- a front of the tokens is taken, whatever follows it
pub record Gone (body : ℕ → Ebnf) (s : List Ebnf) (ks rest : List Terminal) : Type 0 where
  pub front : List Terminal
  pub cut : ks ≡ front ++ rest
  pub takes : (tail : List Terminal) → MatchesAll body s (front ++ tail) tail

-- the rest does not carry on what s takes
abbrev pub EndsIn : List Ebnf → List Terminal → Type 0
EndsIn s [] = Unit {0}
EndsIn s (k ∷ ks) = has k.class (carries s) ≡ true → ⊥

abbrev pub GoesAlongWhatMatches : Type 0
GoesAlongWhatMatches = (body : ℕ → Ebnf) (s : List Ebnf) (ks rest : List Terminal) → go body s ks ≡ Ok rest → Gone body s ks rest

abbrev pub MatchesWhatItGoesAlong : Type 0
MatchesWhatItGoesAlong = (body : ℕ → Ebnf) → Sorted body → (s : List Ebnf) (ks rest : List Terminal) → Good body s → MatchesAll body s ks rest → EndsIn s rest → go body s ks ≡ Ok rest

abbrev pub StopsAtDepartures : Type 0
StopsAtDepartures = (body : ℕ → Ebnf) → Sorted body → (s : List Ebnf) (ks : List Terminal) (x : Stuck) → Good body s → fulls s ≡ true → go body s ks ≡ Err x → Departs body s ks x.odd x.rest

abbrev pub MatchesInOneWay : Type 0
MatchesInOneWay = (body : ℕ → Ebnf) → Sorted body → (s : List Ebnf) (ks r q : List Terminal) → Good body s → MatchesAll body s ks r → MatchesAll body s ks q → EndsIn s r → EndsIn s q → r ≡ q
