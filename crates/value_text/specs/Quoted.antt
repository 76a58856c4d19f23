-- Texts in double quotes.
use Rattle.std.specs.Prelude.{ℕ, zero, suc, ◌+◌, ◌-◌, ◌*◌, Bool, false, not, ◌&&◌, ◌||◌, ◌==◌, nat_le, List, [], ◌∷◌, length, Option, Result, Ok, Err, if◌then◌else◌}
use Rattle.ndr_value.specs.Fits.{fits_text}
use Rattle.value_text.specs.declared.departure.Departure.{Departure}
use Rattle.value_text.specs.declared.departure.Departure.TheVariants.{Syntax, Kind, Range}
use Rattle.value_text.specs.Texts.{is_plain}
use Rattle.value_text.specs.Bind.{◌>>=◌}
use Rattle.value_text.specs.Marks.{heads, mark, opened, closed}

-- a small hexadecimal digit
abbrev pub is_hex_mark : ℕ → Bool
is_hex_mark c = nat_le 48 c && nat_le c 57 || nat_le 97 c && nat_le c 102

abbrev pub digit_of : ℕ → ℕ
digit_of c = if nat_le c 57 then c - 48 else c - 87

-- a first digit with which some octet stands by its number: all octets from 30 to 4f and from 60 to 6f stand as they are
abbrev pub is_high : ℕ → Bool
is_high h = is_hex_mark h && not ((h == 51) || (h == 52) || (h == 54))

-- a second digit with which the octet stands by its number
abbrev pub is_low : ℕ → ℕ → Bool
is_low h l = is_hex_mark l && not (is_plain (digit_of h * 16 + digit_of l))

abbrev pub low_at : ℕ → List ℕ → Result (ℕ × List ℕ) Departure
low_at h [] = Err (Syntax 0)
low_at h (l ∷ t) = if is_low h l then Ok (digit_of h * 16 + digit_of l, t) else Err (Syntax (length (l ∷ t)))

abbrev pub high_at : List ℕ → Result (ℕ × List ℕ) Departure
high_at [] = Err (Syntax 0)
high_at (h ∷ t) = if is_high h then low_at h t else Err (Syntax (length (h ∷ t)))

-- one octet of a text
abbrev pub char_at : List ℕ → Result (ℕ × List ℕ) Departure
char_at [] = Err (Syntax 0)
char_at (c ∷ t) = if is_plain c then Ok (c, t) else (if c == 92 then (mark 120 t >>= λ u. high_at u) else Err (Syntax (length (c ∷ t))))

-- an octet with which an octet of a text begins
abbrev pub begins_char : List ℕ → Bool
begins_char [] = false
begins_char (c ∷ t) = is_plain c || (c == 92)

-- an octet of a text, which isn't NUL
abbrev pub char_in_text_at : List ℕ → Result (ℕ × List ℕ) Departure
char_in_text_at t = char_at t >>= λ x. if x.0 == 0 then Err (Range (length t)) else Ok (x.0, x.1)

-- an octet of a text, where the text may go on
abbrev pub next_at : Bool → List ℕ → Result (ℕ × List ℕ) Departure
next_at may t = if begins_char t then (if may then char_in_text_at t else Err (Kind (length t))) else Err (Syntax (length t))

abbrev pub with_char : ℕ → Result (List ℕ × List ℕ) Departure → Result (List ℕ × List ℕ) Departure
with_char c row = row >>= λ z. Ok (c ∷ z.0, z.1)

-- the octets of a text behind m others, at most n
unfoldable pub chars_at : ℕ → Option ℕ → ℕ → List ℕ → Result (List ℕ × List ℕ) Departure
chars_at zero most m t = Err (Syntax (length t))
chars_at (suc n) most m t = if heads 34 t then (closed (fits_text most m) t >>= λ u. Ok ([], u))
    else (next_at (fits_text most (m + 1)) t >>= λ y. with_char y.0 (chars_at n most (m + 1) y.1))

-- a text in quotes
abbrev pub text_at : Option ℕ → List ℕ → Result (List ℕ × List ℕ) Departure
text_at most t = opened 34 t >>= λ u. chars_at (length u + 1) most 0 u
