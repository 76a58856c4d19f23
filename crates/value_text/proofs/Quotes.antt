-- The octets that are read between quotes are those whose text stands there, and a text in quotes is read as it.
use Rattle.std.proofs.Common.{◌≡◌, ℕ, zero, suc, ◌+◌, ◌*◌, ◌/◌, ◌%◌, ◌<◌, ◌≤◌, Bool, true, false, List, [], ◌∷◌, ◌++◌, length, get_or, Option, Some, None, Result, Ok, Err, refl, ap, sym, subst, ◌∙◌, arith, append_assoc, length-append}
use Rattle.std.specs.Prelude.{if◌then◌else◌, ◌&&◌, ◌||◌, ◌==◌, not, nat_lt}
use Rattle.std.specs.List.{flat_map}
use Rattle.std.proofs.lemmas.Bool.{and_parts, ltb-true}
use Rattle.std.proofs.lemmas.Bool.Decides.{nat_tests}
use Rattle.hex.specs.Hex.{encode_with, lower_digits, IsBytes}
use Rattle.base_words.proofs.Hexadecimal.{IsBytes-cons}
use Rattle.ndr_value.specs.Fits.{fits_text, has_nul}
use Rattle.value_text.specs.declared.departure.Departure.{Departure}
use Rattle.value_text.specs.declared.departure.Departure.TheVariants.{Syntax, Kind, Range}
use Rattle.value_text.specs.Bind.{◌>>=◌}
use Rattle.value_text.specs.Texts.{is_plain, char_text}
use Rattle.value_text.specs.Marks.{heads, mark, opened, closed}
use Rattle.value_text.specs.Quoted.{is_hex_mark, digit_of, is_high, is_low, low_at, high_at, char_at, begins_char, char_in_text_at, next_at, with_char, chars_at, text_at}
use Rattle.value_text.proofs.Steps.{bind_ok, through, guard_ok, unless_ok, when_go, if_true, if_false, heads_is, mark_ok, opened_ok, closed_ok, passes-at, implied}

abbrev npair : ℕ → List ℕ → ℕ × List ℕ
npair a b = (a, b)

abbrev cpair : List ℕ → List ℕ → List ℕ × List ℕ
cpair a b = (a, b)

-- ---- one octet

abbrev mark_is_digit : ℕ → Bool
mark_is_digit c = not (is_hex_mark c) || (nat_lt (digit_of c) 16 && (get_or lower_digits (digit_of c) 0 == c))

mark_small : (c : ℕ) → is_hex_mark c ≡ true → c < 103
mark_small c h = grind (arith, nat_tests)

eq_is : (m n : ℕ) → (m == n) ≡ true → m ≡ n
eq_is m n h = grind (arith, nat_tests)

digit_of_mark : (c : ℕ) → is_hex_mark c ≡ true → (digit_of c < 16) × (get_or lower_digits (digit_of c) 0 ≡ c)
digit_of_mark c h =
    let both = implied (is_hex_mark c) (nat_lt (digit_of c) 16 && (get_or lower_digits (digit_of c) 0 == c)) h (passes-at mark_is_digit 103 c refl (mark_small c h)) in
    let parts = and_parts (nat_lt (digit_of c) 16) (get_or lower_digits (digit_of c) 0 == c) both in
    (ltb-true (digit_of c) 16 parts.0, eq_is (get_or lower_digits (digit_of c) 0) c parts.1)

pub char_plain : (c : ℕ) → is_plain c ≡ true → char_text c ≡ c ∷ []
unfolding char_text
char_plain c h = rw h refl

pub char_number : (c : ℕ) → is_plain c ≡ false → char_text c ≡ 92 ∷ 120 ∷ get_or lower_digits (c / 16) 0 ∷ get_or lower_digits (c % 16) 0 ∷ []
unfolding char_text encode_with
char_number c h = rw h refl

plain_small : (c : ℕ) → is_plain c ≡ true → c < 127
plain_small c h = grind (arith, nat_tests)

pub record Char (t : List ℕ) (c : ℕ) (rest : List ℕ) : Type 0 where
  pub whole : t ≡ char_text c ++ rest
  pub small : c < 256

not_plain : (b : Bool) → not b ≡ true → b ≡ false
not_plain true h = absurd cc
not_plain false h = refl

two_digits : (h l : ℕ) (w : List ℕ) → is_hex_mark h ≡ true → is_low h l ≡ true → Char (92 ∷ 120 ∷ h ∷ l ∷ w) (digit_of h * 16 + digit_of l) w
two_digits h l w high low =
    let parts = and_parts (is_hex_mark l) (not (is_plain (digit_of h * 16 + digit_of l))) low in
    let a = digit_of_mark h high in
    let b = digit_of_mark l parts.0 in
    let n = digit_of h * 16 + digit_of l in
    let up : n / 16 ≡ digit_of h = omega (arith, a.0, b.0) in
    let down : n % 16 ≡ digit_of l = omega (arith, a.0, b.0) in
    let text = char_number n (not_plain (is_plain n) parts.1) in
    let x : get_or lower_digits (n / 16) 0 ≡ h = ap (λ (i : ℕ). get_or lower_digits i 0) up ∙ a.1 in
    let y : get_or lower_digits (n % 16) 0 ≡ l = ap (λ (i : ℕ). get_or lower_digits i 0) down ∙ b.1 in
    record {
      whole = sym (ap (λ (u : List ℕ). u ++ w) text ∙ (ap (λ (i : ℕ). 92 ∷ 120 ∷ i ∷ get_or lower_digits (n % 16) 0 ∷ w) x ∙ ap (λ (i : ℕ). 92 ∷ 120 ∷ h ∷ i ∷ w) y));
      small = omega (arith, a.0, b.0);
    }

low_ok : (h : ℕ) (v : List ℕ) (c : ℕ) (rest : List ℕ) → is_hex_mark h ≡ true → low_at h v ≡ Ok (c, rest) → Char (92 ∷ 120 ∷ h ∷ v) c rest
low_ok h [] c rest high e = absurd cc
low_ok h (l ∷ w) c rest high e =
    let g = guard_ok (is_low h l) (digit_of h * 16 + digit_of l, w) (c, rest) (Syntax (length (l ∷ w))) e in
    subst (λ (q : ℕ × List ℕ). Char (92 ∷ 120 ∷ h ∷ l ∷ w) q.0 q.1) g.1 (two_digits h l w high g.0)

high_ok : (u : List ℕ) (c : ℕ) (rest : List ℕ) → high_at u ≡ Ok (c, rest) → Char (92 ∷ 120 ∷ u) c rest
high_ok [] c rest e = absurd cc
high_ok (h ∷ v) c rest e =
    let g = when_go (is_high h) (low_at h v) (c, rest) (Syntax (length (h ∷ v))) e in
    low_ok h v c rest (and_parts (is_hex_mark h) (not ((h == 51) || (h == 52) || (h == 54))) g.0).0 g.1

char_by : (b : Bool) (d : ℕ) (t : List ℕ) (c : ℕ) (rest : List ℕ) → is_plain d ≡ b → (if b then Ok (d, t) else (if d == 92 then (mark 120 t >>= λ u. high_at u) else Err (Syntax (length (d ∷ t))))) ≡ Ok (c, rest) → Char (d ∷ t) c rest
char_by true d t c rest h e =
    let p : npair d t ≡ npair c rest = cc in
    subst (λ (q : ℕ × List ℕ). Char (d ∷ t) q.0 q.1) p (record { whole = ap (λ (u : List ℕ). u ++ t) (sym (char_plain d h)); small = let k = plain_small d h in omega (arith, k) })
char_by false d t c rest h e =
    let g = when_go (d == 92) (mark 120 t >>= λ u. high_at u) (c, rest) (Syntax (length (d ∷ t))) e in
    let b = bind_ok (mark 120 t) (λ u. high_at u) (c, rest) g.1 in
    let is : d ∷ t ≡ 92 ∷ 120 ∷ b.0 = ap (λ (x : ℕ). x ∷ t) (eq_is d 92 g.0) ∙ ap (λ (u : List ℕ). 92 ∷ u) (mark_ok 120 t b.0 b.1) in
    subst (λ (u : List ℕ). Char u c rest) (sym is) (high_ok b.0 c rest b.2)

pub char_ok : (t : List ℕ) (c : ℕ) (rest : List ℕ) → char_at t ≡ Ok (c, rest) → Char t c rest
char_ok [] c rest e = absurd cc
char_ok (d ∷ t) c rest e = char_by (is_plain d) d t c rest refl e

abbrev escapes : ℕ → Bool
escapes c = is_plain c || ((is_high (get_or lower_digits (c / 16) 0) && is_low (get_or lower_digits (c / 16) 0) (get_or lower_digits (c % 16) 0))
    && (digit_of (get_or lower_digits (c / 16) 0) * 16 + digit_of (get_or lower_digits (c % 16) 0) == c))

or_second : (a b : Bool) → a ≡ false → (a || b) ≡ true → b ≡ true
or_second true b f h = absurd cc
or_second false b f h = h

on_by : (b : Bool) (c : ℕ) (rest : List ℕ) → is_plain c ≡ b → c < 256 → char_at (char_text c ++ rest) ≡ Ok (c, rest)
on_by true c rest h lt = subst (λ (u : List ℕ). char_at (u ++ rest) ≡ Ok (c, rest)) (sym (char_plain c h)) (rw h refl)
on_by false c rest h lt =
    let x = get_or lower_digits (c / 16) 0 in
    let y = get_or lower_digits (c % 16) 0 in
    let all = or_second (is_plain c) ((is_high x && is_low x y) && (digit_of x * 16 + digit_of y == c)) h (passes-at escapes 256 c refl lt) in
    let parts = and_parts (is_high x && is_low x y) (digit_of x * 16 + digit_of y == c) all in
    let both = and_parts (is_high x) (is_low x y) parts.0 in
    let n : digit_of x * 16 + digit_of y ≡ c = eq_is (digit_of x * 16 + digit_of y) c parts.1 in
    let one : high_at (x ∷ y ∷ rest) ≡ low_at x (y ∷ rest) = rw both.0 refl in
    let two : low_at x (y ∷ rest) ≡ Ok (digit_of x * 16 + digit_of y, rest) = rw both.1 refl in
    subst (λ (u : List ℕ). char_at (u ++ rest) ≡ Ok (c, rest)) (sym (char_number c h)) (one ∙ (two ∙ ap (λ (m : ℕ). Ok (m, rest)) n))

pub char_on : (c : ℕ) (rest : List ℕ) → c < 256 → char_at (char_text c ++ rest) ≡ Ok (c, rest)
char_on c rest lt = on_by (is_plain c) c rest refl lt

-- ---- texts

pub record Chars (most : Option ℕ) (m : ℕ) (t cs rest : List ℕ) : Type 0 where
  pub whole : t ≡ flat_map char_text cs ++ (34 ∷ rest)
  pub fits : fits_text most (m + length cs) ≡ true
  pub no_nul : has_nul cs ≡ false
  pub bytes : IsBytes cs

no_bytes : IsBytes []
no_bytes = λ i. omega arith

pub next_ok : (may : Bool) (t : List ℕ) (y : ℕ × List ℕ) → next_at may t ≡ Ok y → (may ≡ true) × ((y.0 == 0) ≡ false) × Char t y.0 y.1
next_ok may t y e =
    let f = when_go (begins_char t) (if may then char_in_text_at t else Err (Kind (length t))) y (Syntax (length t)) e in
    let g = when_go may (char_in_text_at t) y (Kind (length t)) f.1 in
    let b = bind_ok (char_at t) (λ x. if x.0 == 0 then Err (Range (length t)) else Ok (x.0, x.1)) y g.1 in
    let u = unless_ok (b.0.0 == 0) (b.0.0, b.0.1) y (Range (length t)) b.2 in
    (g.0, subst (λ (q : ℕ × List ℕ). (q.0 == 0) ≡ false) u.1 u.0, subst (λ (q : ℕ × List ℕ). Char t q.0 q.1) u.1 (char_ok t b.0.0 b.0.1 b.1))

chars_by : (b : Bool) (n : ℕ) (most : Option ℕ) (m : ℕ) (t cs rest : List ℕ) → heads 34 t ≡ b
    → (if b then (closed (fits_text most m) t >>= λ u. Ok ([], u)) else (next_at (fits_text most (m + 1)) t >>= λ y. with_char y.0 (chars_at n most (m + 1) y.1))) ≡ Ok (cs, rest)
    → ((u ds v : List ℕ) → chars_at n most (m + 1) u ≡ Ok (ds, v) → Chars most (m + 1) u ds v) → Chars most m t cs rest
chars_by true n most m t cs rest h e ih =
    let b = bind_ok (closed (fits_text most m) t) (λ u. Ok ([], u)) (cs, rest) e in
    let c = closed_ok (fits_text most m) t b.0 b.1 in
    let f = b.2 in
    let p : cpair [] b.0 ≡ cpair cs rest = cc in
    let k : m ≡ m + 0 = omega arith in
    subst (λ (q : List ℕ × List ℕ). Chars most m t q.0 q.1) p (record {
      whole = heads_is 34 t h ∙ ap (λ (u : List ℕ). 34 ∷ u) c.1;
      fits = subst (λ (i : ℕ). fits_text most i ≡ true) k c.0;
      no_nul = refl;
      bytes = no_bytes;
    })
chars_by false n most m t cs rest h e ih =
    let b = bind_ok (next_at (fits_text most (m + 1)) t) (λ y. with_char y.0 (chars_at n most (m + 1) y.1)) (cs, rest) e in
    let y = b.0 in
    let d = bind_ok (chars_at n most (m + 1) y.1) (λ z. Ok (y.0 ∷ z.0, z.1)) (cs, rest) b.2 in
    let z = d.0 in
    let f = d.2 in
    let p : cpair (y.0 ∷ z.0) z.1 ≡ cpair cs rest = cc in
    let c = next_ok (fits_text most (m + 1)) t y b.1 in
    let i = ih y.1 z.0 z.1 d.1 in
    let k : m + 1 + length z.0 ≡ m + suc (length z.0) = omega arith in
    subst (λ (q : List ℕ × List ℕ). Chars most m t q.0 q.1) p (record {
      whole = c.2.whole ∙ (ap (λ (u : List ℕ). char_text y.0 ++ u) i.whole ∙ sym (append_assoc (char_text y.0) (flat_map char_text z.0) (34 ∷ z.1)));
      fits = subst (λ (j : ℕ). fits_text most j ≡ true) k i.fits;
      no_nul = rw c.1 i.no_nul;
      bytes = IsBytes-cons y.0 z.0 c.2.small i.bytes;
    })

pub chars_ok : (n : ℕ) (most : Option ℕ) (m : ℕ) (t cs rest : List ℕ) → chars_at n most m t ≡ Ok (cs, rest) → Chars most m t cs rest
unfolding chars_at
chars_ok zero most m t cs rest e = absurd cc
chars_ok (suc n) most m t cs rest e = chars_by (heads 34 t) n most m t cs rest refl e (chars_ok n most (m + 1))

-- a text in quotes
pub text_ok : (most : Option ℕ) (t cs rest : List ℕ) → text_at most t ≡ Ok (cs, rest) → (t ≡ 34 ∷ (flat_map char_text cs ++ (34 ∷ rest))) × (fits_text most (length cs) ≡ true) × (has_nul cs ≡ false) × IsBytes cs
text_ok most t cs rest e =
    let b = bind_ok (opened 34 t) (λ u. chars_at (length u + 1) most 0 u) (cs, rest) e in
    let c = chars_ok (length b.0 + 1) most 0 b.0 cs rest b.2 in
    let k : 0 + length cs ≡ length cs = omega arith in
    (opened_ok 34 t b.0 b.1 ∙ ap (λ (u : List ℕ). 34 ∷ u) c.whole, subst (λ (i : ℕ). fits_text most i ≡ true) k c.fits, c.no_nul, c.bytes)

-- ---- the way back

fits_less : (most : Option ℕ) (m k : ℕ) → m ≤ k → fits_text most k ≡ true → fits_text most m ≡ true
fits_less None m k le h = grind (arith, nat_tests)
fits_less (Some n) m k le h = grind (arith, nat_tests)

no_quote : (b : Bool) (c : ℕ) (w : List ℕ) → is_plain c ≡ b → heads 34 (char_text c ++ w) ≡ false
no_quote true c w h = let f : (c == 34) ≡ false = grind (arith, nat_tests) in subst (λ (u : List ℕ). heads 34 (u ++ w) ≡ false) (sym (char_plain c h)) f
no_quote false c w h = subst (λ (u : List ℕ). heads 34 (u ++ w) ≡ false) (sym (char_number c h)) refl

or_none : (a b : Bool) → (a || b) ≡ false → (a ≡ false) × (b ≡ false)
or_none true b e = absurd cc
or_none false b e = (refl, e)

begins_on : (b : Bool) (c : ℕ) (w : List ℕ) → is_plain c ≡ b → begins_char (char_text c ++ w) ≡ true
begins_on true c w h = subst (λ (u : List ℕ). begins_char (u ++ w) ≡ true) (sym (char_plain c h)) (rw h refl)
begins_on false c w h = subst (λ (u : List ℕ). begins_char (u ++ w) ≡ true) (sym (char_number c h)) refl

next_on : (may : Bool) (c : ℕ) (w : List ℕ) → may ≡ true → (c == 0) ≡ false → c < 256 → next_at may (char_text c ++ w) ≡ Ok (c, w)
next_on may c w m z lt =
    let t = char_text c ++ w in
    if_true (begins_char t) (if may then char_in_text_at t else Err (Kind (length t))) (Err (Syntax (length t))) (begins_on (is_plain c) c w refl)
    ∙ (if_true may (char_in_text_at t) (Err (Kind (length t))) m
    ∙ (through (char_at t) (λ x. if x.0 == 0 then Err (Range (length t)) else Ok (x.0, x.1)) (c, w) (char_on c w lt) ∙ if_false (c == 0) (Err (Range (length t))) (Ok (npair c w)) z))

chars_step : (n : ℕ) (most : Option ℕ) (m c : ℕ) (w cs rest : List ℕ) → c < 256 → (c == 0) ≡ false → fits_text most (m + 1) ≡ true → chars_at n most (m + 1) w ≡ Ok (cs, rest)
    → chars_at (suc n) most m (char_text c ++ w) ≡ Ok (c ∷ cs, rest)
unfolding chars_at
chars_step n most m c w cs rest lt z fits more =
    let q = no_quote (is_plain c) c w refl in
    let t = char_text c ++ w in
    if_false (heads 34 t) (closed (fits_text most m) t >>= λ u. Ok ([], u)) (next_at (fits_text most (m + 1)) t >>= λ y. with_char y.0 (chars_at n most (m + 1) y.1)) q
    ∙ (through (next_at (fits_text most (m + 1)) t) (λ y. with_char y.0 (chars_at n most (m + 1) y.1)) (c, w) (next_on (fits_text most (m + 1)) c w fits z lt)
    ∙ ap (λ (r : Result (List ℕ × List ℕ) Departure). with_char c r) more)

chars_last : (n : ℕ) (most : Option ℕ) (m : ℕ) (rest : List ℕ) → fits_text most m ≡ true → chars_at (suc n) most m (34 ∷ rest) ≡ Ok ([], rest)
unfolding chars_at
chars_last n most m rest fits = rw fits refl

head_byte : (c : ℕ) (cs : List ℕ) → IsBytes (c ∷ cs) → c < 256
head_byte c cs h = h 0

tail_bytes : (c : ℕ) (cs : List ℕ) → IsBytes (c ∷ cs) → IsBytes cs
tail_bytes c cs h = λ k. h (suc k)

pub chars_on : (cs : List ℕ) (n : ℕ) (most : Option ℕ) (m : ℕ) (rest : List ℕ) → IsBytes cs → fits_text most (m + length cs) ≡ true → has_nul cs ≡ false → length cs < n
    → chars_at n most m (flat_map char_text cs ++ (34 ∷ rest)) ≡ Ok (cs, rest)
chars_on [] zero most m rest b f z lt = absurd (omega arith)
chars_on [] (suc n) most m rest b f z lt = let k : m + 0 ≡ m = omega arith in chars_last n most m rest (subst (λ (i : ℕ). fits_text most i ≡ true) k f)
chars_on (c ∷ cs) zero most m rest b f z lt = absurd (omega arith)
chars_on (c ∷ cs) (suc n) most m rest b f z lt =
    let parts = or_none (c == 0) (has_nul cs) z in
    let k : m + suc (length cs) ≡ m + 1 + length cs = omega arith in
    let more = chars_on cs n most (m + 1) rest (tail_bytes c cs b) (subst (λ (i : ℕ). fits_text most i ≡ true) k f) parts.1 (omega (arith, lt)) in
    let fits = fits_less most (m + 1) (m + suc (length cs)) (omega arith) f in
    subst (λ (t : List ℕ). chars_at (suc n) most m t ≡ Ok (c ∷ cs, rest)) (sym (append_assoc (char_text c) (flat_map char_text cs) (34 ∷ rest)))
    (chars_step n most m c (flat_map char_text cs ++ (34 ∷ rest)) cs rest (head_byte c cs b) parts.0 fits more)

char_some : (b : Bool) (c : ℕ) → is_plain c ≡ b → 1 ≤ length (char_text c)
char_some true c h = subst (λ (u : List ℕ). 1 ≤ length u) (sym (char_plain c h)) (omega arith)
char_some false c h = subst (λ (u : List ℕ). 1 ≤ length u) (sym (char_number c h)) (omega arith)

chars_long : (cs : List ℕ) → length cs ≤ length (flat_map char_text cs)
chars_long [] = omega arith
chars_long (c ∷ cs) =
    let h = chars_long cs in
    let k = char_some (is_plain c) c refl in
    let l = length-append (char_text c) (flat_map char_text cs) in
    omega (arith, h, k, l)

pub text_on : (most : Option ℕ) (cs rest : List ℕ) → IsBytes cs → fits_text most (length cs) ≡ true → has_nul cs ≡ false → text_at most (34 ∷ (flat_map char_text cs ++ (34 ∷ rest))) ≡ Ok (cs, rest)
text_on most cs rest b f z =
    let u = flat_map char_text cs ++ (34 ∷ rest) in
    let l = length-append (flat_map char_text cs) (34 ∷ rest) in
    let k = chars_long cs in
    let i : length cs ≡ 0 + length cs = omega arith in
    chars_on cs (length u + 1) most 0 rest b (subst (λ (j : ℕ). fits_text most j ≡ true) i f) z (omega (arith, l, k))
