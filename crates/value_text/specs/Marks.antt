-- The signs of value texts. A place is told by the octets that are left there.
use Rattle.std.specs.Prelude.{ℕ, Bool, false, ◌&&◌, ◌||◌, ◌==◌, nat_le, List, [], ◌∷◌, length, Result, Ok, Err, if◌then◌else◌}
use Rattle.value_text.specs.declared.departure.Departure.{Departure}
use Rattle.value_text.specs.declared.departure.Departure.TheVariants.{Syntax, Kind}
use Rattle.value_text.specs.Bind.{◌>>=◌}

abbrev pub is_digit : ℕ → Bool
is_digit c = nat_le 48 c && nat_le c 57

-- an octet that a value text begins with: - " t f n { [ ( & @ $ or a digit
abbrev pub begins : ℕ → Bool
begins c = is_digit c || (c == 45) || (c == 34) || (c == 116) || (c == 102) || (c == 110) || (c == 123) || (c == 91) || (c == 40) || (c == 38) || (c == 64) || (c == 36)

-- the first octet is that one
abbrev pub heads : ℕ → List ℕ → Bool
heads c [] = false
heads c (d ∷ t) = d == c

abbrev pub heads_digit : List ℕ → Bool
heads_digit [] = false
heads_digit (d ∷ t) = is_digit d

-- what stands behind the first octet
abbrev pub behind : List ℕ → List ℕ
behind [] = []
behind (d ∷ t) = t

-- no value of the shape goes on here; and perhaps no value text
abbrev pub wrong : List ℕ → Departure
wrong [] = Syntax 0
wrong (c ∷ t) = if begins c then Kind (length (c ∷ t)) else Syntax (length (c ∷ t))

-- no other octet may stand here
abbrev pub mark : ℕ → List ℕ → Result (List ℕ) Departure
mark c t = if heads c t then Ok (behind t) else Err (Syntax (length t))

abbrev pub marks : List ℕ → List ℕ → Result (List ℕ) Departure
marks [] t = Ok t
marks (c ∷ cs) t = mark c t >>= λ u. marks cs u

-- values of the shape begin with this octet
abbrev pub opened : ℕ → List ℕ → Result (List ℕ) Departure
opened c t = if heads c t then Ok (behind t) else Err (wrong t)

-- what stands behind a closing sign, where a value may end
abbrev pub closed : Bool → List ℕ → Result (List ℕ) Departure
closed may t = if may then Ok (behind t) else Err (Kind (length t))
