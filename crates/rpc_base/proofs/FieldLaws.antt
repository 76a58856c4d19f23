-- What octets say of the numbers and identifiers that they stand for, and back.
use Rattle.std.proofs.Common.{◌≡◌, ℕ, zero, suc, ◌+◌, ◌*◌, ◌/◌, ◌%◌, ◌^◌, ◌<◌, ◌≤◌, inl, inr, List, [], ◌∷◌, ◌++◌, length, take, drop, drop-drop, get_or, slice_index, refl, sym, ap, subst, ◌∙◌, arith}
use Rattle.std.specs.Int.{Width, w16, w32, w64, w128, byte_len, to_be_bytes, from_be_bytes}
use Rattle.std.proofs.lemmas.Nat.{div-mul-add, mod-mul-add, div-add-mod', be_bytes_2, be_bytes_4, be_bytes_8, le_bytes_2, le_bytes_4, le_bytes_8, from_be_bytes-to_be_bytes_2, from_be_bytes-to_be_bytes_4, from_be_bytes-to_be_bytes_8, from_le_bytes-to_le_bytes_2, from_le_bytes-to_le_bytes_4, from_le_bytes-to_le_bytes_8}
use Rattle.std.proofs.lemmas.List.{get_or-drop, get_or-take, get_or_past, length-append, length-take, length-drop, drop-take, take-take, take_at, drop_at, take-append-drop}
use Rattle.std.proofs.lemmas.Bool.{cases_lt}
use Rattle.uuid.specs.Parts.{swap_fields}
use Rattle.uuid.proofs.OrderLemmas.{from_be_bytes-to_be_bytes_16}
use Rattle.rpc_base.specs.declared.identifiers.Order.{Order}
use Rattle.rpc_base.specs.declared.identifiers.Order.TheVariants.{Big, Little}
use Rattle.rpc_base.specs.declared.identifiers.SyntaxId.{SyntaxId}
use Rattle.rpc_base.specs.declared.identifiers.WireHandle.{WireHandle}
use Rattle.std.specs.Prelude.{Result, OnOk}
use Rattle.rpc_base.specs.Fields.{IsOctets, FitsSyntax, FitsHandle, number_octets, number_of, u32_octets, uuid_octets, version_word, syntax_octets, syntax_of, handle_octets, wire_of}

pub IsOctets-drop : (n : ℕ) (octets : List ℕ) → IsOctets octets → IsOctets (drop n octets)
IsOctets-drop n octets h i = rw get_or-drop (h (n + i))

pub IsOctets-take : (n : ℕ) (octets : List ℕ) → IsOctets octets → IsOctets (take n octets)
IsOctets-take n octets h i =
    elim (cases_lt i n) [
      | inl lt ↦ rw (get_or-take n octets i 0 lt) (h i)
      | inr le ↦ rw (get_or_past (take n octets) i 0 (omega (arith, length-take n octets))) (omega arith)
    ]

pub IsOctets-cons : (x : ℕ) (octets : List ℕ) → x < 256 → IsOctets octets → IsOctets (x ∷ octets)
IsOctets-cons x octets lt fits zero = lt
IsOctets-cons x octets lt fits (suc i) = fits i

IsOctets-nil : IsOctets []
IsOctets-nil i = omega arith

-- a part of octets that lies within them
pub record IsPart (size : ℕ) (octets : List ℕ) : Type 0 where
  pub len : length octets ≡ size
  pub fits : IsOctets octets

pub part_at : (size at : ℕ) (xs : List ℕ) → at + size ≤ length xs → IsOctets xs → IsPart size (take size (drop at xs))
part_at size at xs le fits = record {
  len = omega (arith, length-take size (drop at xs), length-drop at xs);
  fits = IsOctets-take size (drop at xs) (IsOctets-drop at xs fits);
}

-- ---- numbers

-- A width's numbers below a limit and as many octets as it has stand for each other.
pub record IsWide (w : Width) (limit : ℕ) : Type 0 where
  pub len : (order : Order) (n : ℕ) → length (number_octets order w n) ≡ byte_len w
  pub back : (order : Order) (octets : List ℕ) → length octets ≡ byte_len w → IsOctets octets → number_octets order w (number_of order w octets) ≡ octets
  pub again : (order : Order) (n : ℕ) → n < limit → number_of order w (number_octets order w n) ≡ n
  pub below : (order : Order) (octets : List ℕ) → IsOctets octets → number_of order w octets < limit

-- the octets tell the number
pub number_told : (w : Width) (limit : ℕ) → IsWide w limit → (order : Order) (m n : ℕ) → m < limit → n < limit → number_octets order w m ≡ number_octets order w n → m ≡ n
number_told w limit wide order m n m' n' e = sym (wide.again order m m') ∙ ap (number_of order w) e ∙ wide.again order n n'

len16 : (order : Order) (n : ℕ) → length (number_octets order w16 n) ≡ 2
unfolding number_octets
len16 Big n = refl
len16 Little n = refl

back16 : (order : Order) (octets : List ℕ) → length octets ≡ 2 → IsOctets octets → number_octets order w16 (number_of order w16 octets) ≡ octets
unfolding number_octets number_of
back16 Big octets len fits = be_bytes_2 octets _ len fits refl
back16 Little octets len fits = le_bytes_2 octets _ len fits refl

again16 : (order : Order) (n : ℕ) → n < 2 ^ 16 → number_of order w16 (number_octets order w16 n) ≡ n
unfolding number_octets number_of
again16 Big n lt = from_be_bytes-to_be_bytes_2 n lt
again16 Little n lt = from_le_bytes-to_le_bytes_2 n lt

below16 : (order : Order) (octets : List ℕ) → IsOctets octets → number_of order w16 octets < 2 ^ 16
unfolding number_of
below16 Big octets fits = omega (arith, fits 0, fits 1)
below16 Little octets fits = omega (arith, fits 0, fits 1)

pub wide16 : IsWide w16 (2 ^ 16)
wide16 = record { len = len16; back = back16; again = again16; below = below16 }

len32 : (order : Order) (n : ℕ) → length (number_octets order w32 n) ≡ 4
unfolding number_octets
len32 Big n = refl
len32 Little n = refl

back32 : (order : Order) (octets : List ℕ) → length octets ≡ 4 → IsOctets octets → number_octets order w32 (number_of order w32 octets) ≡ octets
unfolding number_octets number_of
back32 Big octets len fits = be_bytes_4 octets _ len fits refl
back32 Little octets len fits = le_bytes_4 octets _ len fits refl

again32 : (order : Order) (n : ℕ) → n < 2 ^ 32 → number_of order w32 (number_octets order w32 n) ≡ n
unfolding number_octets number_of
again32 Big n lt = from_be_bytes-to_be_bytes_4 n lt
again32 Little n lt = from_le_bytes-to_le_bytes_4 n lt

below32 : (order : Order) (octets : List ℕ) → IsOctets octets → number_of order w32 octets < 2 ^ 32
unfolding number_of
below32 Big octets fits = omega (arith, fits 0, fits 1, fits 2, fits 3)
below32 Little octets fits = omega (arith, fits 0, fits 1, fits 2, fits 3)

pub wide32 : IsWide w32 (2 ^ 32)
wide32 = record { len = len32; back = back32; again = again32; below = below32 }

len64 : (order : Order) (n : ℕ) → length (number_octets order w64 n) ≡ 8
unfolding number_octets
len64 Big n = refl
len64 Little n = refl

back64 : (order : Order) (octets : List ℕ) → length octets ≡ 8 → IsOctets octets → number_octets order w64 (number_of order w64 octets) ≡ octets
unfolding number_octets number_of
back64 Big octets len fits = be_bytes_8 octets _ len fits refl
back64 Little octets len fits = le_bytes_8 octets _ len fits refl

again64 : (order : Order) (n : ℕ) → n < 2 ^ 64 → number_of order w64 (number_octets order w64 n) ≡ n
unfolding number_octets number_of
again64 Big n lt = from_be_bytes-to_be_bytes_8 n lt
again64 Little n lt = from_le_bytes-to_le_bytes_8 n lt

below64 : (order : Order) (octets : List ℕ) → IsOctets octets → number_of order w64 octets < 2 ^ 64
unfolding number_of
below64 Big octets fits = omega (arith, fits 0, fits 1, fits 2, fits 3, fits 4, fits 5, fits 6, fits 7)
below64 Little octets fits = omega (arith, fits 0, fits 1, fits 2, fits 3, fits 4, fits 5, fits 6, fits 7)

pub wide64 : IsWide w64 (2 ^ 64)
wide64 = record { len = len64; back = back64; again = again64; below = below64 }

-- ---- sixteen octets

-- the items from an index on
items_from : List ℕ → ℕ → ℕ → List ℕ
items_from xs i zero = []
items_from xs i (suc n) = get_or xs i 0 ∷ items_from xs (suc i) n

items_shift : (x : ℕ) (xs : List ℕ) (i n : ℕ) → items_from (x ∷ xs) (suc i) n ≡ items_from xs i n
unfolding items_from
items_shift x xs i zero = refl
items_shift x xs i (suc n) = ap (λ (ys : List ℕ). get_or xs i 0 ∷ ys) (items_shift x xs (suc i) n)

-- a list is its items
items_all : (xs : List ℕ) → items_from xs 0 (length xs) ≡ xs
unfolding items_from
items_all [] = refl
items_all (x ∷ xs) = ap (λ (ys : List ℕ). x ∷ ys) (items_shift x xs 0 (length xs) ∙ items_all xs)

items_16 : (xs : List ℕ) → length xs ≡ 16 → items_from xs 0 16 ≡ xs
items_16 xs len = rw (← len) (items_all xs)

-- each of the first three fields swapped twice stands as it was
pub swap_twice : (xs : List ℕ) → length xs ≡ 16 → swap_fields (swap_fields xs) ≡ xs
unfolding items_from
swap_twice xs len = let e : items_from xs 0 16 ≡ xs = items_16 xs len in e

digit : (low p x high n : ℕ) → low < p → x < 256 → n ≡ (high * 256 + x) * p + low → n / p % 256 ≡ x
digit low p x high n below small is = ap (λ m. m / p % 256) is ∙ ap (λ m. m % 256) (div-mul-add (high * 256 + x) p low below) ∙ mod-mul-add high 256 x small

digits_16 : (a b c d e f g h i j k l m o p q n : ℕ) → a < 256 → b < 256 → c < 256 → d < 256 → e < 256 → f < 256 → g < 256 → h < 256 → i < 256 → j < 256 → k < 256 → l < 256 → m < 256 → o < 256 → p < 256 → q < 256 → n ≡ a + b * 256 + c * 65536 + d * 16777216 + e * 4294967296 + f * 1099511627776 + g * 281474976710656 + h * 72057594037927936 + i * 18446744073709551616 + j * 4722366482869645213696 + k * 1208925819614629174706176 + l * 309485009821345068724781056 + m * 79228162514264337593543950336 + o * 20282409603651670423947251286016 + p * 5192296858534827628530496329220096 + q * 1329227995784915872903807060280344576
    → (n / 1329227995784915872903807060280344576 % 256) ∷ (n / 5192296858534827628530496329220096 % 256) ∷ (n / 20282409603651670423947251286016 % 256) ∷ (n / 79228162514264337593543950336 % 256) ∷ (n / 309485009821345068724781056 % 256) ∷ (n / 1208925819614629174706176 % 256) ∷ (n / 4722366482869645213696 % 256) ∷ (n / 18446744073709551616 % 256) ∷ (n / 72057594037927936 % 256) ∷ (n / 281474976710656 % 256) ∷ (n / 1099511627776 % 256) ∷ (n / 4294967296 % 256) ∷ (n / 16777216 % 256) ∷ (n / 65536 % 256) ∷ (n / 256 % 256) ∷ (n % 256) ∷ [] ≡ q ∷ p ∷ o ∷ m ∷ l ∷ k ∷ j ∷ i ∷ h ∷ g ∷ f ∷ e ∷ d ∷ c ∷ b ∷ a ∷ []
digits_16 a b c d e f g h i j k l m o p q n a' b' c' d' e' f' g' h' i' j' k' l' m' o' p' q' is =
    let split : n ≡ (b + c * 256 + d * 65536 + e * 16777216 + f * 4294967296 + g * 1099511627776 + h * 281474976710656 + i * 72057594037927936 + j * 18446744073709551616 + k * 4722366482869645213696 + l * 1208925819614629174706176 + m * 309485009821345068724781056 + o * 79228162514264337593543950336 + p * 20282409603651670423947251286016 + q * 5192296858534827628530496329220096) * 256 + a = omega arith in
    let at_a : n % 256 ≡ a = ap (λ m. m % 256) split ∙ mod-mul-add (b + c * 256 + d * 65536 + e * 16777216 + f * 4294967296 + g * 1099511627776 + h * 281474976710656 + i * 72057594037927936 + j * 18446744073709551616 + k * 4722366482869645213696 + l * 1208925819614629174706176 + m * 309485009821345068724781056 + o * 79228162514264337593543950336 + p * 20282409603651670423947251286016 + q * 5192296858534827628530496329220096) 256 a a' in
    let at_b = digit (a) 256 b (c + d * 256 + e * 65536 + f * 16777216 + g * 4294967296 + h * 1099511627776 + i * 281474976710656 + j * 72057594037927936 + k * 18446744073709551616 + l * 4722366482869645213696 + m * 1208925819614629174706176 + o * 309485009821345068724781056 + p * 79228162514264337593543950336 + q * 20282409603651670423947251286016) n (omega arith) b' (omega arith) in
    let at_c = digit (a + b * 256) 65536 c (d + e * 256 + f * 65536 + g * 16777216 + h * 4294967296 + i * 1099511627776 + j * 281474976710656 + k * 72057594037927936 + l * 18446744073709551616 + m * 4722366482869645213696 + o * 1208925819614629174706176 + p * 309485009821345068724781056 + q * 79228162514264337593543950336) n (omega arith) c' (omega arith) in
    let at_d = digit (a + b * 256 + c * 65536) 16777216 d (e + f * 256 + g * 65536 + h * 16777216 + i * 4294967296 + j * 1099511627776 + k * 281474976710656 + l * 72057594037927936 + m * 18446744073709551616 + o * 4722366482869645213696 + p * 1208925819614629174706176 + q * 309485009821345068724781056) n (omega arith) d' (omega arith) in
    let at_e = digit (a + b * 256 + c * 65536 + d * 16777216) 4294967296 e (f + g * 256 + h * 65536 + i * 16777216 + j * 4294967296 + k * 1099511627776 + l * 281474976710656 + m * 72057594037927936 + o * 18446744073709551616 + p * 4722366482869645213696 + q * 1208925819614629174706176) n (omega arith) e' (omega arith) in
    let at_f = digit (a + b * 256 + c * 65536 + d * 16777216 + e * 4294967296) 1099511627776 f (g + h * 256 + i * 65536 + j * 16777216 + k * 4294967296 + l * 1099511627776 + m * 281474976710656 + o * 72057594037927936 + p * 18446744073709551616 + q * 4722366482869645213696) n (omega arith) f' (omega arith) in
    let at_g = digit (a + b * 256 + c * 65536 + d * 16777216 + e * 4294967296 + f * 1099511627776) 281474976710656 g (h + i * 256 + j * 65536 + k * 16777216 + l * 4294967296 + m * 1099511627776 + o * 281474976710656 + p * 72057594037927936 + q * 18446744073709551616) n (omega arith) g' (omega arith) in
    let at_h = digit (a + b * 256 + c * 65536 + d * 16777216 + e * 4294967296 + f * 1099511627776 + g * 281474976710656) 72057594037927936 h (i + j * 256 + k * 65536 + l * 16777216 + m * 4294967296 + o * 1099511627776 + p * 281474976710656 + q * 72057594037927936) n (omega arith) h' (omega arith) in
    let at_i = digit (a + b * 256 + c * 65536 + d * 16777216 + e * 4294967296 + f * 1099511627776 + g * 281474976710656 + h * 72057594037927936) 18446744073709551616 i (j + k * 256 + l * 65536 + m * 16777216 + o * 4294967296 + p * 1099511627776 + q * 281474976710656) n (omega arith) i' (omega arith) in
    let at_j = digit (a + b * 256 + c * 65536 + d * 16777216 + e * 4294967296 + f * 1099511627776 + g * 281474976710656 + h * 72057594037927936 + i * 18446744073709551616) 4722366482869645213696 j (k + l * 256 + m * 65536 + o * 16777216 + p * 4294967296 + q * 1099511627776) n (omega arith) j' (omega arith) in
    let at_k = digit (a + b * 256 + c * 65536 + d * 16777216 + e * 4294967296 + f * 1099511627776 + g * 281474976710656 + h * 72057594037927936 + i * 18446744073709551616 + j * 4722366482869645213696) 1208925819614629174706176 k (l + m * 256 + o * 65536 + p * 16777216 + q * 4294967296) n (omega arith) k' (omega arith) in
    let at_l = digit (a + b * 256 + c * 65536 + d * 16777216 + e * 4294967296 + f * 1099511627776 + g * 281474976710656 + h * 72057594037927936 + i * 18446744073709551616 + j * 4722366482869645213696 + k * 1208925819614629174706176) 309485009821345068724781056 l (m + o * 256 + p * 65536 + q * 16777216) n (omega arith) l' (omega arith) in
    let at_m = digit (a + b * 256 + c * 65536 + d * 16777216 + e * 4294967296 + f * 1099511627776 + g * 281474976710656 + h * 72057594037927936 + i * 18446744073709551616 + j * 4722366482869645213696 + k * 1208925819614629174706176 + l * 309485009821345068724781056) 79228162514264337593543950336 m (o + p * 256 + q * 65536) n (omega arith) m' (omega arith) in
    let at_o = digit (a + b * 256 + c * 65536 + d * 16777216 + e * 4294967296 + f * 1099511627776 + g * 281474976710656 + h * 72057594037927936 + i * 18446744073709551616 + j * 4722366482869645213696 + k * 1208925819614629174706176 + l * 309485009821345068724781056 + m * 79228162514264337593543950336) 20282409603651670423947251286016 o (p + q * 256) n (omega arith) o' (omega arith) in
    let at_p = digit (a + b * 256 + c * 65536 + d * 16777216 + e * 4294967296 + f * 1099511627776 + g * 281474976710656 + h * 72057594037927936 + i * 18446744073709551616 + j * 4722366482869645213696 + k * 1208925819614629174706176 + l * 309485009821345068724781056 + m * 79228162514264337593543950336 + o * 20282409603651670423947251286016) 5192296858534827628530496329220096 p (q) n (omega arith) p' (omega arith) in
    let at_q = digit (a + b * 256 + c * 65536 + d * 16777216 + e * 4294967296 + f * 1099511627776 + g * 281474976710656 + h * 72057594037927936 + i * 18446744073709551616 + j * 4722366482869645213696 + k * 1208925819614629174706176 + l * 309485009821345068724781056 + m * 79228162514264337593543950336 + o * 20282409603651670423947251286016 + p * 5192296858534827628530496329220096) 1329227995784915872903807060280344576 q (0) n (omega arith) q' (omega arith) in
    λ t. at_q t ∷ at_p t ∷ at_o t ∷ at_m t ∷ at_l t ∷ at_k t ∷ at_j t ∷ at_i t ∷ at_h t ∷ at_g t ∷ at_f t ∷ at_e t ∷ at_d t ∷ at_c t ∷ at_b t ∷ at_a t ∷ []

-- a number of 16 octets, the highest first, has them again
pub be_bytes_16 : (octets : List ℕ) → length octets ≡ 16 → IsOctets octets → to_be_bytes w128 (from_be_bytes w128 octets) ≡ octets
unfolding items_from
be_bytes_16 octets len fits =
    let e : items_from octets 0 16 ≡ octets = items_16 octets len in
    digits_16 _ _ _ _ _ _ _ _ _ _ _ _ _ _ _ _ (from_be_bytes w128 octets) (fits 15) (fits 14) (fits 13) (fits 12) (fits 11) (fits 10) (fits 9) (fits 8) (fits 7) (fits 6) (fits 5) (fits 4) (fits 3) (fits 2) (fits 1) (fits 0) (omega arith) ∙ e

-- ---- UUIDs, syntaxes and handles

pub length-uuid_octets : (order : Order) (id : List ℕ) → length id ≡ 16 → length (uuid_octets order id) ≡ 16
unfolding uuid_octets
length-uuid_octets Big id len = len
length-uuid_octets Little id len = refl

-- a UUID's octets, read in the same order, are the UUID
pub uuid_octets_twice : (order : Order) (id : List ℕ) → length id ≡ 16 → uuid_octets order (uuid_octets order id) ≡ id
unfolding uuid_octets
uuid_octets_twice Big id len = refl
uuid_octets_twice Little id len = swap_twice id len

pub IsOctets-uuid_octets : (order : Order) (id : List ℕ) → IsOctets id → IsOctets (uuid_octets order id)
unfolding uuid_octets
IsOctets-uuid_octets Big id fits = fits
IsOctets-uuid_octets Little id fits =
    let swapped = swap_fields id in
    IsOctets-cons (slice_index id 3) (drop 1 swapped) (fits 3) (IsOctets-cons (slice_index id 2) (drop 2 swapped) (fits 2) (IsOctets-cons (slice_index id 1) (drop 3 swapped) (fits 1) (IsOctets-cons (slice_index id 0) (drop 4 swapped) (fits 0) (IsOctets-cons (slice_index id 5) (drop 5 swapped) (fits 5) (IsOctets-cons (slice_index id 4) (drop 6 swapped) (fits 4) (IsOctets-cons (slice_index id 7) (drop 7 swapped) (fits 7) (IsOctets-cons (slice_index id 6) (drop 8 swapped) (fits 6) (IsOctets-cons (slice_index id 8) (drop 9 swapped) (fits 8) (IsOctets-cons (slice_index id 9) (drop 10 swapped) (fits 9) (IsOctets-cons (slice_index id 10) (drop 11 swapped) (fits 10) (IsOctets-cons (slice_index id 11) (drop 12 swapped) (fits 11) (IsOctets-cons (slice_index id 12) (drop 13 swapped) (fits 12) (IsOctets-cons (slice_index id 13) (drop 14 swapped) (fits 13) (IsOctets-cons (slice_index id 14) (drop 15 swapped) (fits 14) (IsOctets-cons (slice_index id 15) (drop 16 swapped) (fits 15) (IsOctets-nil))))))))))))))))

uuid_number_back : (order : Order) (octets : List ℕ) → length octets ≡ 16 → IsOctets octets → uuid_octets order (to_be_bytes w128 (from_be_bytes w128 (uuid_octets order octets))) ≡ octets
uuid_number_back order octets len fits =
    let id = uuid_octets order octets in
    ap (uuid_octets order) (be_bytes_16 id (length-uuid_octets order octets len) (IsOctets-uuid_octets order octets fits)) ∙ uuid_octets_twice order octets len

-- what a little-endian read has read
pub uuid_read : (order : Order) (id octets part : List ℕ) → order ≡ Little → id ≡ swap_fields octets → octets ≡ part → length part ≡ 16 → uuid_octets order id ≡ part
unfolding uuid_octets
uuid_read order id octets part little id_is octets_is len =
    ap (λ o. uuid_octets o id) little ∙ ap swap_fields (id_is ∙ ap swap_fields octets_is) ∙ swap_twice part len

-- ---- syntaxes

pub length-syntax_octets : (order : Order) (syntax : SyntaxId) → FitsSyntax syntax → length (syntax_octets order syntax) ≡ 20
unfolding syntax_octets
length-syntax_octets order syntax fits =
    omega (arith, length-append (uuid_octets order syntax.id) (number_octets order w32 (version_word syntax)), length-uuid_octets order syntax.id fits.id, wide32.len order (version_word syntax))

-- twenty octets are those of the syntax in them
pub syntax_back : (order : Order) (octets : List ℕ) → length octets ≡ 20 → IsOctets octets → syntax_octets order (syntax_of order octets) ≡ octets
unfolding syntax_octets syntax_of
syntax_back order octets len fits =
    let n = number_of order w32 (drop 16 octets) in
    let id : uuid_octets order (uuid_octets order (take 16 octets)) ≡ take 16 octets = uuid_octets_twice order (take 16 octets) (omega (arith, length-take 16 octets)) in
    let word : number_octets order w32 (n / 65536 * 65536 + n % 65536) ≡ drop 16 octets =
    ap (number_octets order w32) (div-add-mod' n 65536) ∙ wide32.back order (drop 16 octets) (omega (arith, length-drop 16 octets)) (IsOctets-drop 16 octets fits) in
    (λ i. id i ++ word i) ∙ take-append-drop 16 octets

-- the syntax in a syntax's octets is that syntax
pub syntax_again : (order : Order) (syntax : SyntaxId) → FitsSyntax syntax → syntax_of order (syntax_octets order syntax) ≡ syntax
unfolding syntax_octets syntax_of
syntax_again order syntax fits =
    let a = uuid_octets order syntax.id in
    let b = number_octets order w32 (version_word syntax) in
    let len : length a ≡ 16 = length-uuid_octets order syntax.id fits.id in
    let id : uuid_octets order (take 16 (a ++ b)) ≡ syntax.id = ap (uuid_octets order) (take_at a b 16 len) ∙ uuid_octets_twice order syntax.id fits.id in
    let below : syntax.minor * 65536 + syntax.major < 4294967296 = omega (arith, fits.major, fits.minor) in
    let word : number_of order w32 (drop 16 (a ++ b)) ≡ version_word syntax = ap (number_of order w32) (drop_at a b 16 len) ∙ wide32.again order (version_word syntax) below in
    let major : number_of order w32 (drop 16 (a ++ b)) % 65536 ≡ syntax.major = ap (λ n. n % 65536) word ∙ mod-mul-add syntax.minor 65536 syntax.major fits.major in
    let minor : number_of order w32 (drop 16 (a ++ b)) / 65536 ≡ syntax.minor = ap (λ n. n / 65536) word ∙ div-mul-add syntax.minor 65536 syntax.major fits.major in
    λ i. record { id = id i; major = major i; minor = minor i }

-- the octets tell the syntax
pub syntax_told : (order : Order) (s t : SyntaxId) → FitsSyntax s → FitsSyntax t → syntax_octets order s ≡ syntax_octets order t → s ≡ t
syntax_told order s t s' t' e = sym (syntax_again order s s') ∙ ap (syntax_of order) e ∙ syntax_again order t t'

-- what a call reads from an index on
pub syntax_at : (order : Order) (xs : List ℕ) (at word : ℕ) (id : List ℕ) → word ≡ number_of order w32 (take 4 (drop (at + 16) xs)) → id ≡ uuid_octets order (take 16 (drop at xs))
    → record { id = id; major = word % 65536; minor = word / 65536 } ≡ syntax_of order (take 20 (drop at xs))
unfolding syntax_of
syntax_at order xs at word id word_is id_is =
    let twenty = take 20 (drop at xs) in
    let a : take 16 twenty ≡ take 16 (drop at xs) = take-take 16 20 (drop at xs) (omega arith) in
    let b : drop 16 twenty ≡ take 4 (drop (at + 16) xs) = drop-take 16 4 (drop at xs) ∙ ap (take 4) (drop-drop 16 at xs) in
    let p : word ≡ number_of order w32 (drop 16 twenty) = word_is ∙ ap (number_of order w32) (sym b) in
    let q : id ≡ uuid_octets order (take 16 twenty) = id_is ∙ ap (uuid_octets order) (sym a) in
    λ i. record { id = q i; major = p i % 65536; minor = p i / 65536 }

-- ---- handles

pub length-handle_octets : (order : Order) (handle : WireHandle) → length (handle_octets order handle) ≡ 20
unfolding handle_octets
length-handle_octets order handle =
    let id = to_be_bytes w128 handle.id in
    let a : length (number_octets order w32 handle.attributes) ≡ 4 = wide32.len order handle.attributes in
    let b : length (uuid_octets order id) ≡ 16 = length-uuid_octets order id refl in
    length-append (number_octets order w32 handle.attributes) (uuid_octets order id) ∙ (λ i. a i + b i)

-- twenty octets are those of the handle in them
pub handle_back : (order : Order) (octets : List ℕ) → length octets ≡ 20 → IsOctets octets → handle_octets order (wire_of order octets) ≡ octets
unfolding handle_octets wire_of
handle_back order octets len fits =
    let attributes : number_octets order w32 (number_of order w32 (take 4 octets)) ≡ take 4 octets =
    wide32.back order (take 4 octets) (omega (arith, length-take 4 octets)) (IsOctets-take 4 octets fits) in
    let id : uuid_octets order (to_be_bytes w128 (from_be_bytes w128 (uuid_octets order (drop 4 octets)))) ≡ drop 4 octets =
    uuid_number_back order (drop 4 octets) (omega (arith, length-drop 4 octets)) (IsOctets-drop 4 octets fits) in
    (λ i. attributes i ++ id i) ∙ take-append-drop 4 octets

-- the handle in a handle's octets is that handle
pub handle_again : (order : Order) (handle : WireHandle) → FitsHandle handle → wire_of order (handle_octets order handle) ≡ handle
unfolding handle_octets wire_of
handle_again order handle fits =
    let a = number_octets order w32 handle.attributes in
    let b = uuid_octets order (to_be_bytes w128 handle.id) in
    let len : length a ≡ 4 = wide32.len order handle.attributes in
    let attributes : number_of order w32 (take 4 (a ++ b)) ≡ handle.attributes = ap (number_of order w32) (take_at a b 4 len) ∙ wide32.again order handle.attributes fits.attributes in
    let id : from_be_bytes w128 (uuid_octets order (drop 4 (a ++ b))) ≡ handle.id =
    ap (λ (x : List ℕ). from_be_bytes w128 (uuid_octets order x)) (drop_at a b 4 len) ∙ ap (from_be_bytes w128) (uuid_octets_twice order (to_be_bytes w128 handle.id) refl) ∙ from_be_bytes-to_be_bytes_16 handle.id fits.id in
    λ i. record { attributes = attributes i; id = id i }

-- the octets tell the handle
pub handle_told : (order : Order) (g h : WireHandle) → FitsHandle g → FitsHandle h → handle_octets order g ≡ handle_octets order h → g ≡ h
handle_told order g h g' h' e = sym (handle_again order g g') ∙ ap (wire_of order) e ∙ handle_again order h h'

-- what a call reads from an index on
pub handle_at : (order : Order) (xs : List ℕ) (at attributes number : ℕ) (id : List ℕ) → attributes ≡ number_of order w32 (take 4 (drop at xs)) → id ≡ uuid_octets order (take 16 (drop (at + 4) xs))
    → number ≡ from_be_bytes w128 id → record { attributes = attributes; id = number } ≡ wire_of order (take 20 (drop at xs))
unfolding wire_of
handle_at order xs at attributes number id attributes_is id_is number_is =
    let twenty = take 20 (drop at xs) in
    let a : take 4 twenty ≡ take 4 (drop at xs) = take-take 4 20 (drop at xs) (omega arith) in
    let b : drop 4 twenty ≡ take 16 (drop (at + 4) xs) = drop-take 4 16 (drop at xs) ∙ ap (take 16) (drop-drop 4 at xs) in
    let p : attributes ≡ number_of order w32 (take 4 twenty) = attributes_is ∙ ap (number_of order w32) (sym a) in
    let q : number ≡ from_be_bytes w128 (uuid_octets order (drop 4 twenty)) = number_is ∙ ap (from_be_bytes w128) (id_is ∙ ap (uuid_octets order) (sym b)) in
    λ i. record { attributes = p i; id = q i }

-- what a call that puts both parts has put
pub handle_put : {T E : Type 0} (result : Result T E) (new old a b id : List ℕ) (order : Order) (handle : WireHandle) → OnOk result (new ≡ old ++ (a ++ b)) → a ≡ u32_octets order handle.attributes
    → b ≡ uuid_octets order id → id ≡ to_be_bytes w128 handle.id → OnOk result (new ≡ old ++ handle_octets order handle)
unfolding handle_octets
handle_put result new old a b id order handle put a_is b_is id_is =
    let q : b ≡ uuid_octets order (to_be_bytes w128 handle.id) = b_is ∙ ap (uuid_octets order) id_is in
    let e : a ++ b ≡ handle_octets order handle = λ i. a_is i ++ q i in
    subst (λ (t : List ℕ). OnOk result (new ≡ old ++ t)) e put
