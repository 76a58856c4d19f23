-- Numbers in decimal, of any size.
use Rattle.std.specs.Prelude.{ℕ, ◌+◌, ◌*◌, ◌-◌, ◌^◌, ℤ, pos, neg_ℤ, Bool, true, false, not, ◌&&◌, ◌||◌, nat_lt, List, [], ◌∷◌, length, Option, Some, None, is_some, Result, Ok, Err, if◌then◌else◌}
use Rattle.ndr_value.specs.Fits.{fits_int}
use Rattle.value_text.specs.declared.departure.Departure.{Departure}
use Rattle.value_text.specs.declared.departure.Departure.TheVariants.{Syntax, Range}
use Rattle.value_text.specs.declared.numbers.Numeral.{Numeral}
use Rattle.value_text.specs.Bind.{◌>>=◌}
use Rattle.value_text.specs.Marks.{is_digit, heads, heads_digit, behind, wrong}

-- a number where it has 64 bits
abbrev pub small : ℕ → Option ℕ
small n = if nat_lt n (2 ^ 64) then Some n else None

-- the number with one digit more
abbrev pub with_digit : Option ℕ → ℕ → Option ℕ
with_digit None c = None
with_digit (Some n) c = small (n * 10 + (c - 48))

-- the number with the digits in front, and what stands behind them
abbrev pub digits_from : Option ℕ → List ℕ → Option ℕ × List ℕ
digits_from n [] = (n, [])
digits_from n (c ∷ t) = if is_digit c then digits_from (with_digit n c) t else (n, c ∷ t)

abbrev pub zero_at : List ℕ → Result (Option ℕ × List ℕ) Departure
zero_at t = if heads_digit t then Err (Syntax (length t)) else Ok (Some 0, t)

-- a number without a sign, and without leading zeros
abbrev pub natural_at : List ℕ → Result (Option ℕ × List ℕ) Departure
natural_at t = if heads 48 t then zero_at (behind t) else (if heads_digit t then Ok (digits_from (Some 0) t) else Err (Syntax (length t)))

abbrev pub numeral : Bool → Option ℕ → Numeral
numeral minus size = record { minus = minus; size = size }

-- what stands behind a minus
abbrev pub minus_at : List ℕ → Result (Numeral × List ℕ) Departure
minus_at t = if heads 48 t then Err (Syntax (length t)) else (natural_at t >>= λ x. Ok (numeral true x.0, x.1))

-- a number, where nothing else may stand
abbrev pub number_at : List ℕ → Result (Numeral × List ℕ) Departure
number_at t = if heads 45 t then minus_at (behind t) else (natural_at t >>= λ x. Ok (numeral false x.0, x.1))

-- a number, where other value texts could stand
abbrev pub numeral_at : List ℕ → Result (Numeral × List ℕ) Departure
numeral_at t = if heads 45 t || heads_digit t then number_at t else Err (wrong t)

abbrev pub size_of : Option ℕ → ℕ
size_of None = 0
size_of (Some n) = n

abbrev pub is_below : ℕ → Option ℕ → Bool
is_below limit None = false
is_below limit (Some n) = nat_lt n limit

-- an unsigned number below the limit, or out of range
abbrev pub unsigned_at : ℕ → List ℕ → Result (ℕ × List ℕ) Departure
unsigned_at limit t = numeral_at t >>= λ x. if not x.0.minus && is_below limit x.0.size then Ok (size_of x.0.size, x.1) else Err (Range (length t))

-- the number of an item or a slot, below the limit
abbrev pub index_at : ℕ → List ℕ → Result (ℕ × List ℕ) Departure
index_at limit t = natural_at t >>= λ x. if is_below limit x.0 then Ok (size_of x.0, x.1) else Err (Range (length t))

abbrev pub signed : Numeral → ℤ
signed n = if n.minus then neg_ℤ (pos (size_of n.size)) else pos (size_of n.size)

-- a signed number of so many octets
abbrev pub is_signed : ℕ → Numeral → Bool
is_signed size n = is_some n.size && fits_int size (signed n)

abbrev pub signed_at : ℕ → List ℕ → Result (ℤ × List ℕ) Departure
signed_at size t = numeral_at t >>= λ x. if is_signed size x.0 then Ok (signed x.0, x.1) else Err (Range (length t))
