-- Octets in hexadecimal have one text each, of small digits alone.
use Rattle.std.proofs.Common.{◌≡◌, ℕ, zero, suc, ◌+◌, ◌*◌, ◌-◌, ◌/◌, ◌%◌, ◌<◌, ◌==◌, Bool, true, false, List, [], ◌∷◌, length, refl, ap, sym, ◌∙◌, arith, inl, inr, get_or, Result, Ok, Err, Option}
use Rattle.std.specs.Prelude.{nat_le, ◌&&◌, ◌||◌, not, cond}
use Rattle.std.specs.List.{list_all}
use Rattle.std.specs.Result.{result_ok}
use Rattle.std.proofs.lemmas.Bool.{and_parts, cases_lt, eqb-true}
use Rattle.std.proofs.lemmas.Bool.Decides.{nat_tests}
use Rattle.hex.specs.Hex.{decode_of, decode_sized, encode_lower, encode_with, lower_digits, IsBytes}
use Rattle.hex.proofs.HexLemmas.{decode_of-encode_lower, decode_of-ok, decode_sized-twice, decode_sized-ok, decode_sized-encode_lower}
use Rattle.hex.specs.declared.error.FromHexError.{FromHexError}
use Rattle.base_words.specs.Reads.{Reads}
use Rattle.base_words.specs.Words.{is_hex_mark}

-- ---- tests of all numbers below an end, which compute

abbrev passes : (ℕ → Bool) → ℕ → Bool
passes p zero = true
passes p (suc n) = p n && passes p n

passes-at : (p : ℕ → Bool) (n k : ℕ) → passes p n ≡ true → k < n → p k ≡ true
passes-at p zero k h lt = absurd (omega arith)
passes-at p (suc n) k h lt =
    let parts = and_parts (p n) (passes p n) h in
    elim (cases_lt k n) [
      | inl below ↦ passes-at p n k parts.1 below
      | inr top ↦ let e : k ≡ n = omega arith in rw e parts.0
    ]

-- ---- digits

abbrev worth : ℕ → ℕ
worth c = cond (nat_le c 57) (c - 48) (c - 87)

abbrev mark_is_digit : ℕ → Bool
mark_is_digit c = not (is_hex_mark c) || (nat_le (worth c) 15 && (get_or lower_digits (worth c) 0 == c))

abbrev digit_is_mark : ℕ → Bool
digit_is_mark d = is_hex_mark (get_or lower_digits d 0)

mark_small : (c : ℕ) → is_hex_mark c ≡ true → c < 103
mark_small c h = grind (arith, nat_tests)

implied : (a b : Bool) → a ≡ true → (not a || b) ≡ true → b ≡ true
implied true b e h = h
implied false b e h = cc

digit_of_mark : (c : ℕ) → is_hex_mark c ≡ true → (worth c < 16) × (get_or lower_digits (worth c) 0 ≡ c)
digit_of_mark c h =
    let both = implied (is_hex_mark c) _ h (passes-at mark_is_digit 103 c refl (mark_small c h)) in
    let parts = and_parts (nat_le (worth c) 15) (get_or lower_digits (worth c) 0 == c) both in
    let small = parts.0 in
    (grind (arith, nat_tests), eqb-true (get_or lower_digits (worth c) 0) c parts.1)

mark_of_digit : (d : ℕ) → d < 16 → is_hex_mark (get_or lower_digits d 0) ≡ true
mark_of_digit d lt = passes-at digit_is_mark 16 d refl lt

-- ---- texts

all_two : (p : ℕ → Bool) (a b : ℕ) (rest : List ℕ) → p a ≡ true → p b ≡ true → list_all p rest ≡ true → list_all p (a ∷ b ∷ rest) ≡ true
all_two p a b rest e f h = rw (e, f) h

-- octets are written in small digits
pub marks-encode : (xs : List ℕ) → IsBytes xs → list_all is_hex_mark (encode_lower xs) ≡ true
unfolding encode_with
marks-encode [] h = refl
marks-encode (b ∷ rest) h =
    let fits : b < 256 = h 0 in
    all_two is_hex_mark (get_or lower_digits (b / 16) 0) (get_or lower_digits (b % 16) 0) (encode_lower rest) (mark_of_digit (b / 16) (omega arith)) (mark_of_digit (b % 16) (omega arith)) (marks-encode rest (λ k. h (suc k)))

pub IsBytes-cons : (b : ℕ) (rest : List ℕ) → b < 256 → IsBytes rest → IsBytes (b ∷ rest)
IsBytes-cons b rest h hs zero = h
IsBytes-cons b rest h hs (suc i) = hs i

-- an even number of small digits is the text of some octets
written : (text : List ℕ) → length text % 2 ≡ 0 → list_all is_hex_mark text ≡ true → (xs : List ℕ) × IsBytes xs × (encode_lower xs ≡ text)
unfolding encode_with
written [] even h = ([], λ i. omega arith, refl)
written (a ∷ []) even h = absurd (omega arith)
written (a ∷ b ∷ rest) even h =
    let first = and_parts (is_hex_mark a) (is_hex_mark b && list_all is_hex_mark rest) h in
    let second = and_parts (is_hex_mark b) (list_all is_hex_mark rest) first.1 in
    let high = digit_of_mark a first.0 in
    let low = digit_of_mark b second.0 in
    let more = written rest (omega arith) second.1 in
    let octet = worth a * 16 + worth b in
    let up : octet / 16 ≡ worth a = omega arith in
    let down : octet % 16 ≡ worth b = omega arith in
    (octet ∷ more.0, IsBytes-cons octet more.0 (omega arith) more.1, rw (up, down, high.1, low.1, more.2) refl)

-- the text of octets decodes to them
pub decodes : (xs text : List ℕ) → IsBytes xs → encode_lower xs ≡ text → decode_of text ≡ Ok xs
decodes xs text bytes e = ap decode_of (sym e) ∙ decode_of-encode_lower xs bytes

pub decodes_marks : (xs text : List ℕ) → IsBytes xs → encode_lower xs ≡ text → list_all is_hex_mark text ≡ true
decodes_marks xs text bytes e = ap (list_all is_hex_mark) (sym e) ∙ marks-encode xs bytes

-- what small digits decode to has them as its text
pub decoded : (xs text : List ℕ) → list_all is_hex_mark text ≡ true → decode_of text ≡ Ok xs → IsBytes xs × (encode_lower xs ≡ text)
decoded xs text marks e =
    let known = decode_of-ok text xs e in
    let some = written text known.0 marks in
    let both = sym (decodes some.0 text some.1 some.2) ∙ e in
    let same : some.0 ≡ xs = cc in
    (known.3, ap encode_lower (sym same) ∙ some.2)

pub hex_injective : (xs ys : List ℕ) → IsBytes xs → IsBytes ys → encode_lower xs ≡ encode_lower ys → xs ≡ ys
hex_injective xs ys p q e =
    let a = decode_of-encode_lower xs p in
    let b = decode_of-encode_lower ys q in
    let both = sym a ∙ (ap decode_of e ∙ b) in
    cc

-- ---- as many octets as an array has

sized : (n : ℕ) (text : List ℕ) (r : Result (List ℕ) FromHexError) → list_all is_hex_mark text ≡ true → r ≡ decode_sized text n → Reads (λ xs. IsBytes xs × (length xs ≡ n)) encode_lower text (result_ok r)
sized n text (Ok xs) marks e =
    let long = decode_sized-ok text n xs (sym e) in
    let whole = sym (decode_sized-twice text n long) ∙ sym e in
    let known = decode_of-ok text xs whole in
    let read = decoded xs text marks whole in
    ((read.0, omega (arith, long, known.2)), read.1)
sized n text (Err x) marks e = λ xs fits same.
    let there = ap (λ t. decode_sized t n) (sym same) ∙ decode_sized-encode_lower xs n fits.1 fits.0 in
    let both : Err x ≡ Ok xs = e ∙ there in
    cc

pub read_sized : (n : ℕ) (text : List ℕ) (r : Result (List ℕ) FromHexError) (o : Option (List ℕ)) → list_all is_hex_mark text ≡ true → r ≡ decode_sized text n → o ≡ result_ok r → Reads (λ xs. IsBytes xs × (length xs ≡ n)) encode_lower text o
read_sized n text r o marks e f = rw f (sized n text r marks e)
