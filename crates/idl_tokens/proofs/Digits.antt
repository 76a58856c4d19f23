-- Runs of digits.
use Rattle.std.proofs.Common.{◌≡◌, ℕ, zero, suc, ◌<◌, ◌≤◌, Bool, List, [], ◌∷◌, true, false, cond, refl, arith, nat_lt}
use Rattle.std.proofs.lemmas.Bool.Decides.{nat_tests}
use Rattle.std.proofs.lemmas.List.Sums.{take_while-cons}
use Rattle.std.specs.Char.{is_digit, digit_value}
use Rattle.std.specs.Str.{IsAscii, IsUtf8}
use Rattle.std.proofs.lemmas.Str.{IsUtf8-from_ascii}
use Rattle.std.specs.Str.Parse.{AllDigits}
use Rattle.idl_tokens.specs.Tokens.{front}

one_more : (radix c : ℕ) (cs : List ℕ) (b : Bool) → nat_lt (digit_value c) radix ≡ b → AllDigits radix cs → AllDigits radix (cond b (c ∷ cs) [])
one_more radix c cs true e h = (grind (arith, nat_tests), h)
one_more radix c cs false e h = tt

-- the digits of a front
pub AllDigits-front : (radix : ℕ) (text : List ℕ) → AllDigits radix (front (λ c. is_digit c radix) text)
AllDigits-front radix [] = tt
AllDigits-front radix (c ∷ cs) =
    rw take_while-cons (one_more radix c (front (λ d. is_digit d radix) cs) (nat_lt (digit_value c) radix) refl (AllDigits-front radix cs))

small_digit : (c radix : ℕ) → radix ≤ 36 → digit_value c < radix → c < 128
small_digit c radix h d = grind (arith, nat_tests)

-- digits are ASCII
IsAscii-digits : (radix : ℕ) (ds : List ℕ) → radix ≤ 36 → AllDigits radix ds → IsAscii ds
IsAscii-digits radix [] h d i = omega arith
IsAscii-digits radix (c ∷ cs) h d zero = small_digit c radix h d.0
IsAscii-digits radix (c ∷ cs) h d (suc i) = IsAscii-digits radix cs h d.1 i

pub IsUtf8-digits : (radix : ℕ) (ds : List ℕ) → radix ≤ 36 → AllDigits radix ds → IsUtf8 ds
IsUtf8-digits radix ds h d = IsUtf8-from_ascii ds (IsAscii-digits radix ds h d)
