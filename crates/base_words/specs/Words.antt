-- The texts of numbers and of octets.
use Rattle.std.specs.Prelude.{ℕ, Bool, List, [], ◌∷◌, ◌≤◌, ◌&&◌, ◌||◌, nat_le, codes}
use Rattle.std.specs.Int.{to_be_bytes, w32, w64, w128}
use Rattle.hex.specs.Hex.{encode_lower}

-- octets in hexadecimal, and `-` where there are none
unfoldable pub octets_text : List ℕ → List ℕ
octets_text [] = codes "-"
octets_text (b ∷ rest) = encode_lower (b ∷ rest)

-- a number in 8, 16 or 32 hexadecimal digits, most significant first
unfoldable pub hex_u32 : ℕ → List ℕ
hex_u32 n = encode_lower (to_be_bytes w32 n)

unfoldable pub hex_u64 : ℕ → List ℕ
hex_u64 n = encode_lower (to_be_bytes w64 n)

unfoldable pub hex_u128 : ℕ → List ℕ
hex_u128 n = encode_lower (to_be_bytes w128 n)

-- the number is one of those from the least to the most
abbrev pub IsBetween : ℕ → ℕ → ℕ → Type 0
IsBetween least most n = (least ≤ n) × (n ≤ most)

-- whether the octet is one of the digits that hexadecimal is written in
abbrev pub is_hex_mark : ℕ → Bool
is_hex_mark c = nat_le 48 c && nat_le c 57 || nat_le 97 c && nat_le c 102
