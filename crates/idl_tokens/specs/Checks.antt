-- The tests by which one token decides.
use Rattle.std.specs.Prelude.{ℕ, Bool, true, false, nat_lt, cond, not, ◌&&◌, List, [], ◌∷◌, ◌++◌}
use Rattle.std.specs.List.{list_all}
use Rattle.idl_tokens.specs.Ebnf.{Ebnf, Terminal, has}
use Rattle.idl_tokens.specs.Ebnf.Ebnf.{One, Seq, Alt, Opt, Many, Within}
use Rattle.idl_tokens.specs.Machine.{null, nulls}

-- the classes that it may begin with
abbrev pub first : Ebnf → List ℕ
first (One cs m) = cs
first (Seq a b) = first a ++ cond (null a) (first b) []
first (Alt a b) = first a ++ first b
first (Opt a) = first a
first (Many a) = first a
first (Within o r c m) = o ∷ []

-- the classes that may carry it on where it may end
abbrev pub carry : Ebnf → List ℕ
carry (One cs m) = []
carry (Seq a b) = carry b ++ cond (null b) (carry a) []
carry (Alt a b) = carry a ++ carry b
carry (Opt a) = carry a ++ first a
carry (Many a) = carry a ++ first a
carry (Within o r c m) = []

abbrev pub apart : List ℕ → List ℕ → Bool
apart xs ys = list_all (λ x. not (has x ys)) xs

-- One token decides, inside brackets too.
abbrev pub decides : (ℕ → Ebnf) → Ebnf → Bool
decides body (One cs m) = true
decides body (Seq a b) = decides body a && (decides body b && apart (carry a) (first b))
decides body (Alt a b) = decides body a && (decides body b && (apart (first a) (first b) && (not (null a) && not (null b))))
decides body (Opt a) = decides body a && not (null a)
decides body (Many a) = decides body a && (not (null a) && apart (carry a) (first a))
decides body (Within o r c m) = apart (carry (body r)) (c ∷ [])

-- each token that it names is some token
abbrev pub full : Ebnf → Bool
full (One [] m) = false
full (One (c ∷ cs) m) = nat_lt 0 m
full (Seq a b) = full a && full b
full (Alt a b) = full a && full b
full (Opt a) = full a
full (Many a) = full a
full (Within o r c m) = nat_lt 0 m

-- a stack's
abbrev pub firsts : List Ebnf → List ℕ
firsts [] = []
firsts (g ∷ s) = first g ++ cond (null g) (firsts s) []

abbrev pub carries : List Ebnf → List ℕ
carries [] = []
carries (g ∷ s) = carries s ++ cond (nulls s) (carry g) []

abbrev pub fulls : List Ebnf → Bool
fulls [] = true
fulls (g ∷ s) = full g && fulls s

-- is the next token of one of these classes?
abbrev pub heads : List ℕ → List Terminal → Bool
heads cs [] = false
heads cs (k ∷ ks) = has k.class cs
