-- A number of 128 bits in hexadecimal is its upper half and then its lower half.
use Rattle.std.proofs.Common.{◌≡◌, ℕ, ◌+◌, ◌*◌, ◌/◌, ◌%◌, ◌<◌, ◌^◌, List, [], ◌∷◌, ◌++◌, length, take, drop, refl, ap, sym, ◌∙◌, ◌-◌, arith, length-append, length-drop}
use Rattle.std.proofs.lemmas.List.{take_at, drop_at, take_all, take-append-drop}
use Rattle.std.specs.Int.{byte_at, to_be_bytes, w64, w128}
use Rattle.hex.specs.Hex.{encode_lower, encode_with, lower_digits}
use Rattle.hex.proofs.HexLemmas.{length-encode_with}
use Rattle.base_words.specs.Words.{hex_u64, hex_u128}
use Rattle.base_words.proofs.Ink.{IsInk, ink_append, ink_hex_u64}
use Rattle.base_words.proofs.Numbers.{hex_u64_injective}

-- ---- octets

low_0 : (h l : ℕ) → byte_at 0 (h * 2 ^ 64 + l) ≡ byte_at 0 l
low_0 h l = omega arith

high_0 : (h l : ℕ) → l < 2 ^ 64 → byte_at 8 (h * 2 ^ 64 + l) ≡ byte_at 0 h
high_0 h l lt = omega arith

low_1 : (h l : ℕ) → byte_at 1 (h * 2 ^ 64 + l) ≡ byte_at 1 l
low_1 h l = omega arith

high_1 : (h l : ℕ) → l < 2 ^ 64 → byte_at 9 (h * 2 ^ 64 + l) ≡ byte_at 1 h
high_1 h l lt = omega arith

low_2 : (h l : ℕ) → byte_at 2 (h * 2 ^ 64 + l) ≡ byte_at 2 l
low_2 h l = omega arith

high_2 : (h l : ℕ) → l < 2 ^ 64 → byte_at 10 (h * 2 ^ 64 + l) ≡ byte_at 2 h
high_2 h l lt = omega arith

low_3 : (h l : ℕ) → byte_at 3 (h * 2 ^ 64 + l) ≡ byte_at 3 l
low_3 h l = omega arith

high_3 : (h l : ℕ) → l < 2 ^ 64 → byte_at 11 (h * 2 ^ 64 + l) ≡ byte_at 3 h
high_3 h l lt = omega arith

low_4 : (h l : ℕ) → byte_at 4 (h * 2 ^ 64 + l) ≡ byte_at 4 l
low_4 h l = omega arith

high_4 : (h l : ℕ) → l < 2 ^ 64 → byte_at 12 (h * 2 ^ 64 + l) ≡ byte_at 4 h
high_4 h l lt = omega arith

low_5 : (h l : ℕ) → byte_at 5 (h * 2 ^ 64 + l) ≡ byte_at 5 l
low_5 h l = omega arith

high_5 : (h l : ℕ) → l < 2 ^ 64 → byte_at 13 (h * 2 ^ 64 + l) ≡ byte_at 5 h
high_5 h l lt = omega arith

low_6 : (h l : ℕ) → byte_at 6 (h * 2 ^ 64 + l) ≡ byte_at 6 l
low_6 h l = omega arith

high_6 : (h l : ℕ) → l < 2 ^ 64 → byte_at 14 (h * 2 ^ 64 + l) ≡ byte_at 6 h
high_6 h l lt = omega arith

low_7 : (h l : ℕ) → byte_at 7 (h * 2 ^ 64 + l) ≡ byte_at 7 l
low_7 h l = omega arith

high_7 : (h l : ℕ) → l < 2 ^ 64 → byte_at 15 (h * 2 ^ 64 + l) ≡ byte_at 7 h
high_7 h l lt = omega arith

octets : (h l : ℕ) → l < 2 ^ 64 → to_be_bytes w128 (h * 2 ^ 64 + l) ≡ to_be_bytes w64 h ++ to_be_bytes w64 l
octets h l lt = λ i. high_7 h l lt i ∷ high_6 h l lt i ∷ high_5 h l lt i ∷ high_4 h l lt i ∷ high_3 h l lt i ∷ high_2 h l lt i ∷ high_1 h l lt i ∷ high_0 h l lt i ∷ low_7 h l i ∷ low_6 h l i ∷ low_5 h l i ∷ low_4 h l i ∷ low_3 h l i ∷ low_2 h l i ∷ low_1 h l i ∷ low_0 h l i ∷ []

encode-append : (a b : List ℕ) → encode_lower (a ++ b) ≡ encode_lower a ++ encode_lower b
unfolding encode_with
encode-append [] b = refl
encode-append (x ∷ a) b = let rest = encode-append a b in rw rest refl

-- ---- texts

pub hex_u128-halves : (h l : ℕ) → l < 2 ^ 64 → hex_u128 (h * 2 ^ 64 + l) ≡ hex_u64 h ++ hex_u64 l
unfolding hex_u64 hex_u128
hex_u128-halves h l lt = ap encode_lower (octets h l lt) ∙ encode-append (to_be_bytes w64 h) (to_be_bytes w64 l)

pub length-hex_u64 : (n : ℕ) → length (hex_u64 n) ≡ 16
unfolding hex_u64
length-hex_u64 n = length-encode_with lower_digits (to_be_bytes w64 n)

-- the halves of a number, with its text
pub record Halves (n : ℕ) (text : List ℕ) : Type 0 where
  pub long : length text ≡ 32
  pub high : hex_u64 (n / 2 ^ 64) ≡ take 16 text
  pub low : hex_u64 (n % 2 ^ 64) ≡ drop 16 text

pub halves : (n : ℕ) (text : List ℕ) → hex_u128 n ≡ text → Halves n text
halves n text e =
    let high = n / 2 ^ 64 in
    let low = n % 2 ^ 64 in
    let whole : high * 2 ^ 64 + low ≡ n = omega arith in
    let both : text ≡ hex_u64 high ++ hex_u64 low = sym e ∙ (ap hex_u128 (sym whole) ∙ hex_u128-halves high low (omega arith)) in
    record {
      long = ap length both ∙ (length-append (hex_u64 high) (hex_u64 low) ∙ omega (arith, length-hex_u64 high, length-hex_u64 low));
      high = sym (ap (take 16) both ∙ take_at (hex_u64 high) (hex_u64 low) 16 (length-hex_u64 high));
      low = sym (ap (drop 16) both ∙ drop_at (hex_u64 high) (hex_u64 low) 16 (length-hex_u64 high));
    }

pub hex_u128_injective : (x y : ℕ) → x < 2 ^ 128 → y < 2 ^ 128 → hex_u128 x ≡ hex_u128 y → x ≡ y
hex_u128_injective x y p q e =
    let a = halves x (hex_u128 y) e in
    let b = halves y (hex_u128 y) refl in
    let high = hex_u64_injective (x / 2 ^ 64) (y / 2 ^ 64) (omega arith) (omega arith) (a.high ∙ sym b.high) in
    let low = hex_u64_injective (x % 2 ^ 64) (y % 2 ^ 64) (omega arith) (omega arith) (a.low ∙ sym b.low) in
    omega arith

pub ink_hex_u128 : (n : ℕ) → IsInk (hex_u128 n)
ink_hex_u128 n =
    let high = n / 2 ^ 64 in
    let low = n % 2 ^ 64 in
    let whole : high * 2 ^ 64 + low ≡ n = omega arith in
    let both : hex_u128 n ≡ hex_u64 high ++ hex_u64 low = ap hex_u128 (sym whole) ∙ hex_u128-halves high low (omega arith) in
    rw both (ink_append (hex_u64 high) (hex_u64 low) (ink_hex_u64 high) (ink_hex_u64 low))

-- the reader's way: the text from its 17th digit on
pub rest_of : (text : List ℕ) → take (length text - 16) (drop 16 text) ≡ drop 16 text
rest_of text = take_all (length text - 16) (drop 16 text) (omega (arith, length-drop 16 text))

pub joined : (h l : ℕ) (text : List ℕ) → l < 2 ^ 64 → hex_u64 h ≡ take 16 text → hex_u64 l ≡ drop 16 text → hex_u128 (h * 2 ^ 64 + l) ≡ text
joined h l text small e f =
    hex_u128-halves h l small ∙ (ap (λ t. t ++ hex_u64 l) e ∙ (ap (λ t. take 16 text ++ t) f ∙ take-append-drop 16 text))
