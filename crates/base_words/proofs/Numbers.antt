-- Numbers in a fixed count of hexadecimal digits have one text each.
use Rattle.std.proofs.Common.{◌≡◌, ℕ, zero, suc, ◌<◌, ◌^◌, List, length, refl, ap, sym, ◌∙◌, arith}
use Rattle.std.specs.Int.{bytes_high_first, byte_at, from_be_bytes, to_be_bytes, w32, w64}
use Rattle.std.proofs.lemmas.Nat.{be_bytes_4, be_bytes_8, from_be_bytes-to_be_bytes_4, from_be_bytes-to_be_bytes_8}
use Rattle.hex.specs.Hex.{encode_lower, IsBytes}
use Rattle.base_words.specs.Words.{hex_u32, hex_u64}
use Rattle.base_words.proofs.Hexadecimal.{IsBytes-cons, hex_injective}

byte_at-lt : (k x : ℕ) → byte_at k x < 256
byte_at-lt zero x = omega arith
byte_at-lt (suc k) x = omega arith

pub IsBytes-high_first : (k x : ℕ) → IsBytes (bytes_high_first k x)
IsBytes-high_first zero x = λ i. omega arith
IsBytes-high_first (suc k) x = IsBytes-cons _ (bytes_high_first k x) (byte_at-lt k x) (IsBytes-high_first k x)

pub IsBytes-be_4 : (x : ℕ) → IsBytes (to_be_bytes w32 x)
IsBytes-be_4 x = IsBytes-high_first 4 x

pub IsBytes-be_8 : (x : ℕ) → IsBytes (to_be_bytes w64 x)
IsBytes-be_8 x = IsBytes-high_first 8 x

-- ---- 8 digits

pub hex_u32-of : (xs text : List ℕ) (n : ℕ) → IsBytes xs → length xs ≡ 4 → n ≡ from_be_bytes w32 xs → encode_lower xs ≡ text → hex_u32 n ≡ text
unfolding hex_u32
hex_u32-of xs text n bytes long e f = ap encode_lower (be_bytes_4 xs n long bytes e) ∙ f

pub octets_of_u32 : (text : List ℕ) (n : ℕ) → hex_u32 n ≡ text → (xs : List ℕ) × (IsBytes xs × (length xs ≡ 4)) × (encode_lower xs ≡ text)
unfolding hex_u32
octets_of_u32 text n e = (to_be_bytes w32 n, (IsBytes-be_4 n, refl), e)

pub hex_u32_injective : (x y : ℕ) → x < 2 ^ 32 → y < 2 ^ 32 → hex_u32 x ≡ hex_u32 y → x ≡ y
unfolding hex_u32
hex_u32_injective x y p q e =
    let octets = hex_injective _ _ (IsBytes-be_4 x) (IsBytes-be_4 y) e in
    sym (from_be_bytes-to_be_bytes_4 x p) ∙ (ap (from_be_bytes w32) octets ∙ from_be_bytes-to_be_bytes_4 y q)

-- ---- 16 digits

pub hex_u64-of : (xs text : List ℕ) (n : ℕ) → IsBytes xs → length xs ≡ 8 → n ≡ from_be_bytes w64 xs → encode_lower xs ≡ text → hex_u64 n ≡ text
unfolding hex_u64
hex_u64-of xs text n bytes long e f = ap encode_lower (be_bytes_8 xs n long bytes e) ∙ f

pub octets_of_u64 : (text : List ℕ) (n : ℕ) → hex_u64 n ≡ text → (xs : List ℕ) × (IsBytes xs × (length xs ≡ 8)) × (encode_lower xs ≡ text)
unfolding hex_u64
octets_of_u64 text n e = (to_be_bytes w64 n, (IsBytes-be_8 n, refl), e)

pub hex_u64_injective : (x y : ℕ) → x < 2 ^ 64 → y < 2 ^ 64 → hex_u64 x ≡ hex_u64 y → x ≡ y
unfolding hex_u64
hex_u64_injective x y p q e =
    let octets = hex_injective _ _ (IsBytes-be_8 x) (IsBytes-be_8 y) e in
    sym (from_be_bytes-to_be_bytes_8 x p) ∙ (ap (from_be_bytes w64) octets ∙ from_be_bytes-to_be_bytes_8 y q)
