-- The machine that goes along a grammar, a token at a time, by what is still wanted.
use Rattle.std.specs.Prelude.{ℕ, Bool, true, false, eqb, nat_lt, if◌then◌else◌, cond, ◌&&◌, List, [], ◌∷◌, ◌++◌, Option, None, Some, Result, Ok, Err}
use Rattle.idl_tokens.specs.Ebnf.{Ebnf, Terminal, has}
use Rattle.idl_tokens.specs.Ebnf.Ebnf.{One, Seq, Alt, Opt, Many, Within}

abbrev pub null : Ebnf → Bool
null (One cs m) = false
null (Seq a b) = null a && null b
null (Alt a b) = false
null (Opt a) = true
null (Many a) = true
null (Within o r c m) = false

-- the limit of the token's size, and what is wanted behind it
pub record Next : Type 0 where
  pub limit : ℕ
  pub wanted : List Ebnf

abbrev pub onto : Next → List Ebnf → Next
onto t s = record { limit = t.limit; wanted = t.wanted ++ s }

-- what is wanted then, and next; or past what may be left out, the other answer
abbrev pub joined : Option Next → Bool → List Ebnf → Option Next → Option Next
joined (Some t) n s o = Some (onto t s)
joined None true s o = o
joined None false s o = None

abbrev pub or_else : Option Next → Option Next → Option Next
or_else (Some t) o = Some t
or_else None o = o

-- What is wanted behind a first token of class k, if the grammar begins with one.
abbrev pub after : (ℕ → Ebnf) → Ebnf → ℕ → Option Next
after body (One cs m) k = cond (has k cs) (Some (record { limit = m; wanted = [] })) None
after body (Seq a b) k = joined (after body a k) (null a) (b ∷ []) (after body b k)
after body (Alt a b) k = or_else (after body a k) (after body b k)
after body (Opt a) k = after body a k
after body (Many a) k = joined (after body a k) false (Many a ∷ []) None
after body (Within o r c m) k = cond (eqb k o) (Some (record { limit = m; wanted = body r ∷ One (c ∷ []) m ∷ [] })) None

abbrev pub after_all : (ℕ → Ebnf) → List Ebnf → ℕ → Option Next
after_all body [] k = None
after_all body (g ∷ s) k = joined (after body g k) (null g) s (after_all body s k)

abbrev pub nulls : List Ebnf → Bool
nulls [] = true
nulls (g ∷ s) = null g && nulls s

-- where it stopped, and whether the token's size alone is at fault
pub record Stuck : Type 0 where
  pub odd : Bool
  pub rest : List Terminal

abbrev pub there : Option Next → Bool
there None = false
there (Some t) = true

abbrev pub ended : Bool → List Terminal → Result (List Terminal) Stuck
ended n ks = if n then Ok ks else Err (record { odd = false; rest = ks })

abbrev pub sized : Bool → Result (List Terminal) Stuck → List Terminal → Result (List Terminal) Stuck
sized b r ks = if b then r else Err (record { odd = true; rest = ks })

-- goes along what is wanted as far as the tokens do
unfoldable pub go : (ℕ → Ebnf) → List Ebnf → List Terminal → Result (List Terminal) Stuck
go body s [] = ended (nulls s) []
go body s (k ∷ ks) = elim (after_all body s k.class) [
  | Some t ↦ sized (nat_lt k.size t.limit) (go body t.wanted ks) (k ∷ ks)
  | None ↦ ended (nulls s) (k ∷ ks)
]

-- along one grammar
unfoldable pub parse : (ℕ → Ebnf) → Ebnf → List Terminal → Result (List Terminal) Stuck
parse body g ks = go body (g ∷ []) ks

-- the first answer, and from what it leaves the second
infixl 10 ◌>>=◌
abbrev pub ◌>>=◌ : Result (List Terminal) Stuck → (List Terminal → Result (List Terminal) Stuck) → Result (List Terminal) Stuck
(Ok ks) >>= f = f ks
(Err e) >>= f = Err e

-- the next token, if it is of these classes, and its size below the limit
abbrev pub token : List ℕ → ℕ → List Terminal → Result (List Terminal) Stuck
token cs m [] = Err (record { odd = false; rest = [] })
token cs m (k ∷ ks) = if has k.class cs then sized (nat_lt k.size m) (Ok ks) (k ∷ ks) else Err (record { odd = false; rest = k ∷ ks })

-- does it begin with the next token's class?
abbrev pub starts : (ℕ → Ebnf) → Ebnf → List Terminal → Bool
starts body g [] = false
starts body g (k ∷ ks) = there (after body g k.class)
