-- Numbers in decimal have one text each, and begin as the reader wants them to.
use Rattle.std.proofs.Common.{◌≡◌, ◌≢◌, ℕ, zero, suc, ◌<◌, ◌≤◌, ◌^◌, length, ap, sym, ◌∙◌, subst, arith, get_or, Result, Ok, Err, Option, decimal, List, [], ◌∷◌}
use Rattle.std.specs.Result.{result_ok, OkIff}
use Rattle.base_words.specs.Reads.{Reads}
use Rattle.std.specs.Str.{IsUtf8}
use Rattle.std.specs.Str.Parse.{AllDigits, digits_value, ParsesUnsigned}
use Rattle.std.proofs.lemmas.Str.{IsUtf8-from_ascii}
use Rattle.std.proofs.lemmas.Str.Parse.{IsNumeralModel, numerals_by_value, tells_digits, parse_plain}
use Rattle.std.proofs.lemmas.Fmt.{IsAscii-decimal, parse-decimal, decimal_digit, first_decimal, decimal-digits_value, decimal_injective}

own : IsNumeralModel (AllDigits 10) (digits_value 10)
own = numerals_by_value (AllDigits 10) tells_digits

-- how a number in decimal begins: with no plus, and with a zero only where that is all
pub begins : (n : ℕ) (text : List ℕ) → n < 2 ^ 64 → decimal n ≡ text → (get_or text 0 0 ≢ 43) × (get_or text 0 0 ≡ 48 → length text ≡ 1)
begins zero text small e =
    let whole : text ≡ 48 ∷ [] = sym e ∙ decimal_digit 0 (omega arith) in
    let first : get_or text 0 0 ≡ 48 = ap (λ t. get_or t 0 0) whole in
    (λ plus. absurd (omega arith), λ z. ap length whole)
begins (suc n) text small e =
    let first : 48 < get_or text 0 0 = subst (λ t. 48 < get_or t 0 0) e (first_decimal (suc n) (omega arith) small) in
    (λ plus. omega arith, λ z. absurd (omega arith))

-- the text of a number is UTF-8
pub IsUtf8-decimal : (n : ℕ) (text : List ℕ) → n < 2 ^ 64 → decimal n ≡ text → IsUtf8 text
IsUtf8-decimal n text small e = subst (λ t. IsUtf8 t) e (IsUtf8-from_ascii _ (IsAscii-decimal n small))

-- and is parsed as it
pub parse-text : {E : Type 0} (n : ℕ) (text : List ℕ) (r : Result ℕ E) → n < 2 ^ 64 → decimal n ≡ text → ParsesUnsigned 64 10 text r → r ≡ Ok n
parse-text n text r small e h = parse-decimal 64 n text r small small (sym e) h

-- a text that begins so is parsed exactly where it is that of a number
reads : (E : Type 0) (text : List ℕ) (r : Result ℕ E) → ParsesUnsigned 64 10 text r → get_or text 0 0 ≢ 43 → (get_or text 0 0 ≡ 48 → length text ≡ 1) → Reads (λ n. n < 2 ^ 64) decimal text (result_ok r)
reads E text (Ok n) parses plus front =
    let known = parse_plain own {E = E} 64 text (Ok n) parses plus in
    let same = decimal-digits_value own text known.0.0 known.0.1 front known.0.2 in
    (omega (arith, known.1, known.0.2), ap decimal known.1 ∙ same)
reads E text (Err x) parses plus front = λ n small e. let read = parse-text n text (Err x) small e parses in cc

pub read_parsed : {E : Type 0} (text : List ℕ) (r : Result ℕ E) (o : Option ℕ) → ParsesUnsigned 64 10 text r → get_or text 0 0 ≢ 43 → (get_or text 0 0 ≡ 48 → length text ≡ 1) → o ≡ result_ok r → Reads (λ n. n < 2 ^ 64) decimal text o
read_parsed {E} text r o parses plus front e = rw e (reads E text r parses plus front)

narrow : {E : Type 0} (limit n : ℕ) (text : List ℕ) (r : Result ℕ E) → limit ≤ 2 ^ 64 → n < 2 ^ 64 → decimal n ≡ text → OkIff r (n < limit) n → Reads (λ m. m < limit) decimal text (result_ok r)
narrow limit n text (Ok m) low small e h = (omega (arith, h.0, h.1), ap decimal h.1 ∙ e)
narrow limit n text (Err x) low small e h = λ m fits f.
    let same = decimal_injective m n (omega arith) small (f ∙ sym e) in
    h (omega arith)

-- a number that was read, where a narrower type takes it
pub narrowed : {E : Type 0} (limit n : ℕ) (text : List ℕ) (r : Result ℕ E) (o : Option ℕ) → limit ≤ 2 ^ 64 → n < 2 ^ 64 → decimal n ≡ text → OkIff r (n < limit) n → o ≡ result_ok r → Reads (λ m. m < limit) decimal text o
narrowed limit n text r o low small e h f = rw f (narrow limit n text r low small e h)
