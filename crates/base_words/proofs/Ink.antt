-- The octets of words: no word has a space, a line feed or another octet up to the space.
use Rattle.std.proofs.Common.{◌≡◌, ◌≢◌, ℕ, ◌+◌, ◌%◌, ◌<◌, ◌≤◌, ◌^◌, true, List, [], ◌∷◌, ◌++◌, refl, sym, arith, All, codes, decimal}
use Rattle.std.specs.Prelude.{nat_le}
use Rattle.std.specs.List.{list_all, join_with_byte, AllByRecursion}
use Rattle.std.specs.Int.{to_be_bytes, w32, w64}
use Rattle.std.proofs.lemmas.Bool.{and_parts}
use Rattle.std.proofs.lemmas.Bool.Decides.{nat_tests}
use Rattle.std.proofs.lemmas.List.Elements.{All-cons, All-nil, All-append}
use Rattle.std.proofs.lemmas.Fmt.{decimal_by_steps}
use Rattle.hex.specs.Hex.{encode_lower, IsBytes}
use Rattle.base_words.specs.Reads.{HasNo}
use Rattle.base_words.specs.Words.{octets_text, hex_u32, hex_u64, is_hex_mark}
use Rattle.base_words.proofs.Hexadecimal.{marks-encode}
use Rattle.base_words.proofs.Numbers.{IsBytes-be_4, IsBytes-be_8}

-- each octet is above the space
abbrev pub IsInk : List ℕ → Type 0
IsInk w = All (λ b. 33 ≤ b) w

pub HasNo-ink : (c : ℕ) (w : List ℕ) → c < 33 → IsInk w → HasNo c w
HasNo-ink c w low h = λ k d lt. let ink = h k d lt in omega arith

pub ink_append : (a b : List ℕ) → IsInk a → IsInk b → IsInk (a ++ b)
ink_append a b h k = All-append (λ b. 33 ≤ b) a b h k

-- ---- literals: `ink_name (codes "boot") refl`

pub ink_name : (w : List ℕ) → list_all (nat_le 33) w ≡ true → IsInk w
ink_name [] h = All-nil (λ b. 33 ≤ b)
ink_name (b ∷ w) h =
    let parts = and_parts (nat_le 33 b) (list_all (nat_le 33) w) h in
    All-cons (λ b. 33 ≤ b) b w (let first = parts.0 in grind (arith, nat_tests)) (ink_name w parts.1)

-- ---- numbers

ink_digit : (d : ℕ) → IsInk ((48 + d) ∷ [])
ink_digit d = All-cons (λ b. 33 ≤ b) (48 + d) [] (omega arith) (All-nil (λ b. 33 ≤ b))

pub ink_decimal : (n : ℕ) → n < 2 ^ 64 → IsInk (decimal n)
ink_decimal n h = decimal_by_steps (λ n ds. IsInk ds) (λ m lt. ink_digit m) (λ m ds le ink. All-append (λ b. 33 ≤ b) ds _ ink (ink_digit (m % 10))) n h

-- ---- hexadecimal

mark_ink : (c : ℕ) → is_hex_mark c ≡ true → 33 ≤ c
mark_ink c h = grind (arith, nat_tests)

ink_marks : (w : List ℕ) → list_all is_hex_mark w ≡ true → IsInk w
ink_marks [] h = All-nil (λ b. 33 ≤ b)
ink_marks (b ∷ w) h =
    let parts = and_parts (is_hex_mark b) (list_all is_hex_mark w) h in
    All-cons (λ b. 33 ≤ b) b w (mark_ink b parts.0) (ink_marks w parts.1)

pub ink_hex : (xs : List ℕ) → IsBytes xs → IsInk (encode_lower xs)
ink_hex xs bytes = ink_marks (encode_lower xs) (marks-encode xs bytes)

pub ink_octets : (xs : List ℕ) → IsBytes xs → IsInk (octets_text xs)
unfolding octets_text
ink_octets [] bytes = ink_name (codes "-") refl
ink_octets (b ∷ rest) bytes = ink_hex (b ∷ rest) bytes

pub ink_hex_u32 : (n : ℕ) → IsInk (hex_u32 n)
unfolding hex_u32
ink_hex_u32 n = ink_hex (to_be_bytes w32 n) (IsBytes-be_4 n)

pub ink_hex_u64 : (n : ℕ) → IsInk (hex_u64 n)
unfolding hex_u64
ink_hex_u64 n = ink_hex (to_be_bytes w64 n) (IsBytes-be_8 n)

-- ---- words in a row

pub HasNo-join : (c : ℕ) (ws : List (List ℕ)) → c < 33 → c ≢ 32 → AllByRecursion IsInk ws → HasNo c (join_with_byte 32 ws)
HasNo-join c [] low ne h = All-nil (λ b. b ≢ c)
HasNo-join c (w ∷ []) low ne h = HasNo-ink c w low h.0
HasNo-join c (w ∷ v ∷ vs) low ne h =
    All-append (λ b. b ≢ c) w _ (HasNo-ink c w low h.0) (All-cons (λ b. b ≢ c) 32 _ (λ e. ne (sym e)) (HasNo-join c (v ∷ vs) low ne h.1))
