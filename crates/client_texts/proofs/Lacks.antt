-- What stands at the front of a text that is renamed: a handle, a text in quotes or another octet, in one way.
use Rattle.std.proofs.Common.{◌≡◌, ◌≢◌, ℕ, zero, suc, ◌^◌, ◌<◌, true, false, List, [], ◌∷◌, ◌++◌, length, refl, ap, sym, ◌∙◌, subst, arith, decimal, Some}
use Rattle.std.specs.Prelude.{slice_get}
use Rattle.std.specs.List.{All}
use Rattle.std.specs.Str.Parse.{AllDigits}
use Rattle.std.proofs.lemmas.Bool.Decides.{nat_tests}
use Rattle.std.proofs.lemmas.List.Elements.{All-cons, All-head, All-tail}
use Rattle.std.proofs.lemmas.Str.Parse.{digit_at}
use Rattle.std.proofs.lemmas.Fmt.{decimal_is_IsNumeral, decimal_injective}
use Rattle.rpc_base.specs.declared.identifiers.WireHandle.{WireHandle}
use Rattle.base_words.specs.Reads.{HasNo}
use Rattle.value_text.specs.Marks.{is_digit, heads_digit}
use Rattle.client_texts.specs.Handles.{has_name}
use Rattle.client_texts.specs.Texts.{Named}
use Rattle.client_texts.specs.Texts.Named.{the_end, handle, quoted, other}

pub head_is : (c d : ℕ) (xs ys : List ℕ) → c ∷ xs ≡ d ∷ ys → c ≡ d
head_is c d xs ys e = cc

pub tail_is : (c d : ℕ) (xs ys : List ℕ) → c ∷ xs ≡ d ∷ ys → xs ≡ ys
tail_is c d xs ys e = cc

-- ---- digits

abbrev pub IsDigit : ℕ → Type 0
IsDigit c = is_digit c ≡ true

is_one : (c : ℕ) (ds : List ℕ) → AllDigits 10 (c ∷ ds) → IsDigit c
is_one c ds all = let r = digit_at (c ∷ ds) 0 all (omega arith) in grind (arith, nat_tests, r)

are_digits : (ds : List ℕ) → AllDigits 10 ds → All IsDigit ds
are_digits [] all = λ k d lt. absurd (omega (arith, lt))
are_digits (c ∷ ds) all = All-cons IsDigit c ds (is_one c ds all) (are_digits ds all.1)

pub decimal_digits : (n : ℕ) → n < 2 ^ 64 → All IsDigit (decimal n)
decimal_digits n lt = are_digits (decimal n) (decimal_is_IsNumeral n lt).0.1

-- digits go as far as they can in one way
pub same_digits : (xs ys a b : List ℕ) → All IsDigit xs → All IsDigit ys → heads_digit a ≡ false → heads_digit b ≡ false → xs ++ a ≡ ys ++ b → (xs ≡ ys) × (a ≡ b)
same_digits [] [] a b hx hy ha hb e = (refl, e)
same_digits [] (y ∷ ys) a b hx hy ha hb e = let k : is_digit y ≡ false = sym (ap heads_digit e) ∙ ha in let h = All-head IsDigit y ys hy in let f : true ≡ false = sym h ∙ k in absurd cc
same_digits (x ∷ xs) [] a b hx hy ha hb e = let k : is_digit x ≡ false = ap heads_digit e ∙ hb in let h = All-head IsDigit x xs hx in let f : true ≡ false = sym h ∙ k in absurd cc
same_digits (x ∷ xs) (y ∷ ys) a b hx hy ha hb e =
    let r = same_digits xs ys a b (All-tail IsDigit x xs hx) (All-tail IsDigit y ys hy) ha hb (tail_is x y (xs ++ a) (ys ++ b) e) in
    let h = head_is x y (xs ++ a) (ys ++ b) e in
    (ap (λ (n : ℕ). n ∷ xs) h ∙ ap (λ (l : List ℕ). y ∷ l) r.0, r.1)

abbrev IsNo : ℕ → Type 0
IsNo b = b ≢ 34

-- ---- quotes

-- the first quote stands in one place
pub same_inside : (xs ys a b : List ℕ) → HasNo 34 xs → HasNo 34 ys → xs ++ 34 ∷ a ≡ ys ++ 34 ∷ b → (xs ≡ ys) × (a ≡ b)
same_inside [] [] a b hx hy e = (refl, tail_is 34 34 a b e)
same_inside [] (y ∷ ys) a b hx hy e = absurd (All-head IsNo y ys hy (sym (head_is 34 y a (ys ++ 34 ∷ b) e)))
same_inside (x ∷ xs) [] a b hx hy e = absurd (All-head IsNo x xs hx (head_is x 34 (xs ++ 34 ∷ a) b e))
same_inside (x ∷ xs) (y ∷ ys) a b hx hy e =
    let r = same_inside xs ys a b (All-tail IsNo x xs hx) (All-tail IsNo y ys hy) (tail_is x y (xs ++ 34 ∷ a) (ys ++ 34 ∷ b) e) in
    let h = head_is x y (xs ++ 34 ∷ a) (ys ++ 34 ∷ b) e in
    (ap (λ (n : ℕ). n ∷ xs) h ∙ ap (λ (l : List ℕ). y ∷ l) r.0, r.1)

pub no_quote : (xs a t : List ℕ) → HasNo 34 t → t ≡ xs ++ 34 ∷ a → ⊥
no_quote [] a [] h e = absurd cc
no_quote [] a (c ∷ t) h e = All-head IsNo c t h (head_is c 34 t a e)
no_quote (x ∷ xs) a [] h e = absurd cc
no_quote (x ∷ xs) a (c ∷ t) h e = no_quote xs a t (All-tail IsNo c t h) (tail_is c x t (xs ++ 34 ∷ a) e)

pub short_get : {A : Type 0} (xs : List A) (k : ℕ) (x : A) → slice_get xs k ≡ Some x → k < length xs
short_get [] k x e = absurd cc
short_get (y ∷ xs) zero x e = omega arith
short_get (y ∷ xs) (suc k) x e = let h = short_get xs k x e in omega (arith, h)

-- one place is written so
pub same_at : (wires : List WireHandle) (k j : ℕ) (w v : WireHandle) → length wires < 2 ^ 64 → decimal k ≡ decimal j → slice_get wires k ≡ Some w → slice_get wires j ≡ Some v → w ≡ v
same_at wires k j w v few e g h =
    let a = short_get wires k w g in
    let b = short_get wires j v h in
    let lt : k < 2 ^ 64 = omega (arith, a, few) in
    let lu : j < 2 ^ 64 = omega (arith, b, few) in
    let same = decimal_injective k j lt lu e in
    let s : Some w ≡ Some v = sym g ∙ (ap (slice_get wires) same ∙ h) in
    cc

pub unnamed : (known wires : List WireHandle) (k j : ℕ) (w v : WireHandle) → length wires < 2 ^ 64 → decimal k ≡ decimal j → slice_get wires k ≡ Some w → slice_get wires j ≡ Some v → has_name known w ≡ true → has_name known v ≡ false → ⊥
unnamed known wires k j w v few e g h has hasnt =
    let s = same_at wires k j w v few e g h in
    let f : true ≡ false = sym has ∙ (ap (has_name known) s ∙ hasnt) in
    absurd cc

-- ---- from places to names: what is left has names, where all has

module _ (known wires : List WireHandle) where
  abbrev pub HasNames : List ℕ → Type 0
  HasNames t = (b : List ℕ) × Named known wires t b

  -- the handle of a place that stands in the text
  pub record Placed (digits after : List ℕ) : Type 0 where
    pub at : ℕ
    pub wire : WireHandle
    pub digits_are : decimal at ≡ digits
    pub there : slice_get wires at ≡ Some wire
    pub has : has_name known wire ≡ true
    pub left : HasNames after

  pub left_handle : (t b digits after : List ℕ) → length wires < 2 ^ 64 → Named known wires t b → t ≡ 36 ∷ digits ++ after → All IsDigit digits → heads_digit after ≡ false → Placed digits after
  left_handle t b digits after few the_end e ds behind = absurd cc
  left_handle t b digits after few (handle k w rest rest' at has stops n) e ds behind =
      let h = short_get wires k w at in
      let lt : k < 2 ^ 64 = omega (arith, h, few) in
      let same = same_digits (decimal k) digits rest after (decimal_digits k lt) ds stops behind (tail_is 36 36 (decimal k ++ rest) (digits ++ after) e) in
      record { at = k; wire = w; digits_are = same.0; there = at; has = has; left = (rest', subst (λ (x : List ℕ). Named known wires x rest') same.1 n) }
  left_handle t b digits after few (quoted i r s none n) e ds behind = let h = head_is 34 36 (i ++ 34 ∷ r) (digits ++ after) e in absurd (omega (arith, h))
  left_handle t b digits after few (other c r s no_h no_q n) e ds behind = absurd (no_h (head_is c 36 r (digits ++ after) e))

  pub left_quoted : (t b inside after : List ℕ) → Named known wires t b → t ≡ 34 ∷ inside ++ 34 ∷ after → HasNo 34 inside → HasNames after
  left_quoted t b inside after the_end e none = absurd cc
  left_quoted t b inside after (handle k w rest rest' at has stops n) e none = let h = head_is 36 34 (decimal k ++ rest) (inside ++ 34 ∷ after) e in absurd (omega (arith, h))
  left_quoted t b inside after (quoted i r s free n) e none =
      let same = same_inside i inside r after free none (tail_is 34 34 (i ++ 34 ∷ r) (inside ++ 34 ∷ after) e) in
      (s, subst (λ (x : List ℕ). Named known wires x s) same.1 n)
  left_quoted t b inside after (other c r s no_h no_q n) e none = absurd (no_q (head_is c 34 r (inside ++ 34 ∷ after) e))

  pub left_open : (t b after : List ℕ) → Named known wires t b → t ≡ 34 ∷ after → HasNo 34 after → ⊥
  left_open t b after the_end e none = absurd cc
  left_open t b after (handle k w rest rest' at has stops n) e none = let h = head_is 36 34 (decimal k ++ rest) after e in absurd (omega (arith, h))
  left_open t b after (quoted i r s free n) e none = no_quote i r after none (sym (tail_is 34 34 (i ++ 34 ∷ r) after e))
  left_open t b after (other c r s no_h no_q n) e none = no_q (head_is c 34 r after e)

  pub left_other : (t b : List ℕ) (c : ℕ) (after : List ℕ) → Named known wires t b → t ≡ c ∷ after → c ≢ 36 → c ≢ 34 → HasNames after
  left_other t b c after the_end e off quote = absurd cc
  left_other t b c after (handle k w rest rest' at has stops n) e off quote = absurd (off (sym (head_is 36 c (decimal k ++ rest) after e)))
  left_other t b c after (quoted i r s free n) e off quote = absurd (quote (sym (head_is 34 c (i ++ 34 ∷ r) after e)))
  left_other t b c after (other d r s no_h no_q n) e off quote = (s, subst (λ (x : List ℕ). Named known wires x s) (tail_is d c r after e) n)
