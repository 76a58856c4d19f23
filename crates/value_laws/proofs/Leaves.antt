-- A number, a word and a text that departs is read with that departure.
use Rattle.std.proofs.Common.{◌≡◌, ℕ, zero, suc, ◌+◌, ◌-◌, ◌*◌, ◌^◌, ◌<◌, Bool, true, false, List, [], ◌∷◌, ◌++◌, length, Option, Some, None, Result, Ok, Err, refl, ap, sym, subst, ◌∙◌, arith, length-append}
use Rattle.std.specs.Prelude.{if◌then◌else◌, ◌&&◌, ◌||◌, ◌==◌, nat_lt}
use Rattle.std.specs.Char.{digit_value}
use Rattle.std.specs.Str.Parse.{AllDigits, digits_value, digits_value_after}
use Rattle.std.proofs.lemmas.Bool.{eqb-true}
use Rattle.std.proofs.lemmas.Bool.Decides.{nat_tests}
use Rattle.std.proofs.lemmas.Str.Parse.{digit_at}
use Rattle.ndr_value.specs.Fits.{fits_text}
use Rattle.value_text.specs.declared.departure.Departure.{Departure}
use Rattle.value_text.specs.declared.departure.Departure.TheVariants.{Syntax, Kind, Range}
use Rattle.value_text.specs.declared.numbers.Numeral.{Numeral}
use Rattle.value_text.specs.Bind.{◌>>=◌}
use Rattle.value_text.specs.Texts.{is_plain, char_text}
use Rattle.value_text.specs.Marks.{is_digit, heads, heads_digit, behind, mark, marks, closed}
use Rattle.value_text.specs.Numbers.{small, with_digit, digits_from, zero_at, natural_at, numeral, minus_at, number_at}
use Rattle.value_text.specs.Quoted.{is_high, is_low, digit_of, low_at, high_at, char_at, begins_char, char_in_text_at, with_char, chars_at}
use Rattle.value_text.specs.Quoted as quoted
use Rattle.value_text.specs.Causes.{Place, place_for, only, is, goes, Stops, no_text, no_kind, WordStops, this_letter, later_letter, NaturalStops, no_digit, behind_zero, NumberStops, without_sign, minus_zero, behind_minus, IsNatural, IsNumber, no_minus, a_minus, EscapeStops, no_x, no_high, no_low, is_char, quote_or_char, TextStops, at_octet, in_octet, a_nul, later_octet}
use Rattle.value_text.proofs.Steps.{through, if_true, if_false}
use Rattle.value_text.proofs.Numerals.{digit_below, heads_no}
use Rattle.value_text.proofs.Quotes.{char_plain, char_number, char_on}

abbrev pub bad : (A : Type 0) → Departure → Result A Departure
bad A d = Err d

pub failing : {A B : Type 0} (r : Result A Departure) (f : A → Result B Departure) (d : Departure) → r ≡ Err d → (r >>= f) ≡ Err d
failing r f d e = ap (λ s. s >>= f) e

pub clash : (b : Bool) → b ≡ true → b ≡ false → ⊥
clash true h k = cc
clash false h k = cc

-- ---- signs

pub goes_is : (c : ℕ) (t : List ℕ) → goes (is c) t ≡ heads c t
goes_is c [] = refl
goes_is c (x ∷ t) = refl

pub only_off : (p : ℕ → Bool) (t : List ℕ) {d : Departure} → Stops (only p) t d → (goes p t ≡ false) × (Syntax (length t) ≡ d)
only_off p t (no_text h) = (h, refl)
only_off p t (no_kind h k) = absurd (clash (goes p t) h k)

pub mark_err : (c : ℕ) (t : List ℕ) {d : Departure} → Stops (only (is c)) t d → mark c t ≡ Err d
mark_err c t st =
    let o = only_off (is c) t st in
    if_false (heads c t) (Ok (behind t)) (Err (Syntax (length t))) (sym (goes_is c t) ∙ o.0) ∙ ap (bad (List ℕ)) o.1

eq_same : (c : ℕ) → (c == c) ≡ true
eq_same c = grind (arith, nat_tests)

pub word_err : {w t : List ℕ} {d : Departure} → WordStops w t d → marks w t ≡ Err d
word_err (this_letter {c = c} {w = w} {t = t} {d = d} st) = failing (mark c t) (λ u. marks w u) d (mark_err c t st)
word_err (later_letter {c = c} {w = w} {t = t} x) = through (mark c (c ∷ t)) (λ u. marks w u) t (if_true (c == c) (Ok t) (Err (Syntax (length (c ∷ t)))) (eq_same c)) ∙ word_err x

-- ---- numbers

abbrev pub opair : Option ℕ → List ℕ → Option ℕ × List ℕ
opair a b = (a, b)

abbrev pub npair : Numeral → List ℕ → Numeral × List ℕ
npair a b = (a, b)

goes_digit : (t : List ℕ) → goes is_digit t ≡ heads_digit t
goes_digit [] = refl
goes_digit (x ∷ t) = refl

no_zero : (t : List ℕ) → heads_digit t ≡ false → heads 48 t ≡ false
no_zero [] h = refl
no_zero (x ∷ t) h = grind (arith, nat_tests)

pub natural_err : {t : List ℕ} {d : Departure} → NaturalStops t d → natural_at t ≡ Err d
natural_err (no_digit {t = t} st) =
    let o = only_off is_digit t st in
    let h : heads_digit t ≡ false = sym (goes_digit t) ∙ o.0 in
    if_false (heads 48 t) (zero_at (behind t)) (if heads_digit t then Ok (digits_from (Some 0) t) else Err (Syntax (length t))) (no_zero t h)
    ∙ (if_false (heads_digit t) (Ok (digits_from (Some 0) t)) (Err (Syntax (length t))) h ∙ ap (bad (Option ℕ × List ℕ)) o.1)
natural_err (behind_zero {t = t} h) = if_true (heads_digit t) (Err (Syntax (length t))) (Ok (opair (Some 0) t)) h

abbrev signed_by : Bool → Option ℕ × List ℕ → Result (Numeral × List ℕ) Departure
signed_by minus x = Ok (npair (numeral minus x.0) x.1)

pub number_err : {t : List ℕ} {d : Departure} → NumberStops t d → number_at t ≡ Err d
number_err (without_sign {t = t} {d = d} h st) = if_false (heads 45 t) (minus_at (behind t)) (natural_at t >>= signed_by false) h ∙ failing (natural_at t) (signed_by false) d (natural_err st)
number_err (minus_zero {t = t} h) = if_true (heads 48 t) (Err (Syntax (length t))) (natural_at t >>= signed_by true) h
number_err (behind_minus {t = t} {d = d} h st) = if_false (heads 48 t) (Err (Syntax (length t))) (natural_at t >>= signed_by true) h ∙ failing (natural_at t) (signed_by true) d (natural_err st)

stop_on : (m : Option ℕ) (rest : List ℕ) → heads_digit rest ≡ false → digits_from m rest ≡ opair m rest
stop_on m [] h = refl
stop_on m (c ∷ t) h = rw h refl

digit_in : (c : ℕ) (ds : List ℕ) → AllDigits 10 (c ∷ ds) → is_digit c ≡ true
digit_in c ds all = let r = digit_at (c ∷ ds) 0 all (omega arith) in grind (arith, nat_tests, r)

with_by : (b : Bool) (k c : ℕ) → nat_lt k (2 ^ 64) ≡ b → with_digit (if b then Some k else None) c ≡ small (k * 10 + (c - 48))
with_by true k c h = refl
with_by false k c h =
    let n : nat_lt (k * 10 + (c - 48)) (2 ^ 64) ≡ false = grind (arith, nat_tests) in
    sym (if_false (nat_lt (k * 10 + (c - 48)) (2 ^ 64)) (Some (k * 10 + (c - 48))) None n)

digits_run : (ds : List ℕ) (k : ℕ) (rest : List ℕ) → AllDigits 10 ds → heads_digit rest ≡ false → digits_from (small k) (ds ++ rest) ≡ opair (small (digits_value_after 10 k ds)) rest
digits_run [] k rest all h = stop_on (small k) rest h
digits_run (c ∷ ds) k rest all h =
    let d = digit_in c ds all in
    let g = digit_below c d in
    let i : with_digit (small k) c ≡ small (k * 10 + digit_value c) = with_by (nat_lt k (2 ^ 64)) k c refl ∙ ap (λ (x : ℕ). small (k * 10 + x)) (sym g.0) in
    if_true (is_digit c) (digits_from (with_digit (small k) c) (ds ++ rest)) (opair (small k) (c ∷ (ds ++ rest))) d
    ∙ (ap (λ (o : Option ℕ). digits_from o (ds ++ rest)) i ∙ digits_run ds (k * 10 + digit_value c) rest all.1 h)

zero_alone : (rest : List ℕ) → heads_digit rest ≡ false → natural_at (48 ∷ rest) ≡ Ok (opair (small (digits_value 10 (48 ∷ []))) rest)
zero_alone rest h =
    let z = digit_below 48 refl in
    let k : 0 * 10 + digit_value 48 ≡ 0 = omega (arith, z.0) in
    if_false (heads_digit rest) (Err (Syntax (length rest))) (Ok (opair (Some 0) rest)) h ∙ ap (λ (m : ℕ). Ok (opair (small m) rest)) (sym k)

natural_by : (b : Bool) (c : ℕ) (ds rest : List ℕ) → (c == 48) ≡ b → AllDigits 10 (c ∷ ds) → heads_digit rest ≡ false → ((c == 48) ≡ true → length (c ∷ ds) ≡ 1)
    → natural_at (c ∷ (ds ++ rest)) ≡ Ok (opair (small (digits_value 10 (c ∷ ds))) rest)
natural_by true c [] rest z all h plain = subst (λ (x : ℕ). natural_at (x ∷ rest) ≡ Ok (opair (small (digits_value 10 (x ∷ []))) rest)) (sym (eqb-true c 48 z)) (zero_alone rest h)
natural_by true c (x ∷ ds) rest z all h plain = let p = plain z in absurd (omega (arith, p))
natural_by false c ds rest z all h plain =
    let t = c ∷ (ds ++ rest) in
    if_false (heads 48 t) (zero_at (behind t)) (if heads_digit t then Ok (digits_from (Some 0) t) else Err (Syntax (length t))) z
    ∙ (if_true (heads_digit t) (Ok (digits_from (Some 0) t)) (Err (Syntax (length t))) (digit_in c ds all) ∙ ap (λ (q : Option ℕ × List ℕ). Ok q) (digits_run (c ∷ ds) 0 rest all h))

natural_on : (ds rest : List ℕ) → AllDigits 10 ds → heads_digit rest ≡ false → 0 < length ds → (heads 48 ds ≡ true → length ds ≡ 1) → natural_at (ds ++ rest) ≡ Ok (opair (small (digits_value 10 ds)) rest)
natural_on [] rest all h some plain = absurd (omega (arith, some))
natural_on (c ∷ ds) rest all h some plain = natural_by (c == 48) c ds rest refl all h plain

pub natural_is : (t : List ℕ) (n : ℕ) (rest : List ℕ) → IsNatural t n rest → natural_at t ≡ Ok (opair (small n) rest)
natural_is t n rest s =
    subst (λ (x : List ℕ). natural_at x ≡ Ok (opair (small n) rest)) (sym s.whole)
    (subst (λ (m : ℕ). natural_at (s.digits ++ rest) ≡ Ok (opair (small m) rest)) (sym s.value) (natural_on s.digits rest s.all s.ends s.some s.plain))

head_some : (ds rest : List ℕ) → 0 < length ds → AllDigits 10 ds → heads_digit (ds ++ rest) ≡ true
head_some [] rest some all = absurd (omega (arith, some))
head_some (c ∷ ds) rest some all = digit_in c ds all

natural_heads : (t : List ℕ) (n : ℕ) (rest : List ℕ) → IsNatural t n rest → heads_digit t ≡ true
natural_heads t n rest s = ap heads_digit s.whole ∙ head_some s.digits rest s.some s.all

or_right : (a b : Bool) → b ≡ true → (a || b) ≡ true
or_right true b h = refl
or_right false b h = h

pub number_is : {t rest : List ℕ} {minus : Bool} {n : ℕ} → IsNumber t minus n rest → number_at t ≡ Ok (npair (numeral minus (small n)) rest)
number_is (no_minus {t = t} {rest = rest} {n = n} s) =
    if_false (heads 45 t) (minus_at (behind t)) (natural_at t >>= signed_by false) (heads_no 45 t (natural_heads t n rest s) refl) ∙ through (natural_at t) (signed_by false) (opair (small n) rest) (natural_is t n rest s)
number_is (a_minus {t = t} {rest = rest} {n = n} h s) =
    if_false (heads 48 t) (Err (Syntax (length t))) (natural_at t >>= signed_by true) h ∙ through (natural_at t) (signed_by true) (opair (small n) rest) (natural_is t n rest s)

pub number_heads : {t rest : List ℕ} {minus : Bool} {n : ℕ} → IsNumber t minus n rest → (heads 45 t || heads_digit t) ≡ true
number_heads (no_minus {t = t} {rest = rest} {n = n} s) = or_right (heads 45 t) (heads_digit t) (natural_heads t n rest s)
number_heads (a_minus h s) = refl

-- ---- texts

abbrev cpair : ℕ → List ℕ → ℕ × List ℕ
cpair a b = (a, b)

abbrev lpair : List ℕ → List ℕ → List ℕ × List ℕ
lpair a b = (a, b)

low_err : (h : ℕ) (t : List ℕ) {d : Departure} → Stops (only (is_low h)) t d → low_at h t ≡ Err d
low_err h [] st = ap (bad (ℕ × List ℕ)) (only_off (is_low h) [] st).1
low_err h (l ∷ t) st =
    let o = only_off (is_low h) (l ∷ t) st in
    if_false (is_low h l) (Ok (cpair (digit_of h * 16 + digit_of l) t)) (Err (Syntax (length (l ∷ t)))) o.0 ∙ ap (bad (ℕ × List ℕ)) o.1

high_err : (t : List ℕ) {d : Departure} → Stops (only is_high) t d → high_at t ≡ Err d
high_err [] st = ap (bad (ℕ × List ℕ)) (only_off is_high [] st).1
high_err (h ∷ t) st =
    let o = only_off is_high (h ∷ t) st in
    if_false (is_high h) (low_at h t) (Err (Syntax (length (h ∷ t)))) o.0 ∙ ap (bad (ℕ × List ℕ)) o.1

escape_err : {t : List ℕ} {d : Departure} → EscapeStops t d → (heads 34 t ≡ false) × (begins_char t ≡ true) × (char_at t ≡ Err d)
escape_err (no_x {t = t} {d = d} st) = (refl, refl, failing (mark 120 t) (λ u. high_at u) d (mark_err 120 t st))
escape_err (no_high {t = t} st) = (refl, refl, high_err t st)
escape_err (no_low {h = h} {t = t} k st) = (refl, refl, if_true (is_high h) (low_at h t) (Err (Syntax (length (h ∷ t)))) k ∙ low_err h t st)

no_quote : (b : Bool) (c : ℕ) (w : List ℕ) → is_plain c ≡ b → heads 34 (char_text c ++ w) ≡ false
no_quote true c w h = let f : (c == 34) ≡ false = grind (arith, nat_tests) in subst (λ (u : List ℕ). heads 34 (u ++ w) ≡ false) (sym (char_plain c h)) f
no_quote false c w h = subst (λ (u : List ℕ). heads 34 (u ++ w) ≡ false) (sym (char_number c h)) refl

begins_on : (b : Bool) (c : ℕ) (w : List ℕ) → is_plain c ≡ b → begins_char (char_text c ++ w) ≡ true
begins_on true c w h = subst (λ (u : List ℕ). begins_char (u ++ w) ≡ true) (sym (char_plain c h)) (rw h refl)
begins_on false c w h = subst (λ (u : List ℕ). begins_char (u ++ w) ≡ true) (sym (char_number c h)) refl

char_some : (b : Bool) (c : ℕ) → is_plain c ≡ b → 0 < length (char_text c)
char_some true c h = subst (λ (x : List ℕ). 0 < length x) (sym (char_plain c h)) (omega arith)
char_some false c h = subst (λ (x : List ℕ). 0 < length x) (sym (char_number c h)) (omega arith)

char_shorter : (c n : ℕ) (t u : List ℕ) → t ≡ char_text c ++ u → length t < suc n → length u < n
char_shorter c n t u w lt =
    let a = length-append (char_text c) u in
    let b = char_some (is_plain c) c refl in
    let l : length t ≡ length (char_text c ++ u) = ap length w in
    omega (arith, a, b, l, lt)

-- an octet of a text, by whether it is a quote, begins an octet, and may stand there
abbrev octet_by : Bool → Bool → Bool → Bool → List ℕ → List ℕ → Result (ℕ × List ℕ) Departure → (ℕ × List ℕ → Result (List ℕ × List ℕ) Departure) → Result (List ℕ × List ℕ) Departure
octet_by q p ends goes_on t u r f = if q then (closed ends t >>= λ x. Ok (lpair [] x)) else ((if p then (if goes_on then r else Err (Kind (length t))) else Err (Syntax (length t))) >>= f)

octet_text : (q p a b : Bool) (t u : List ℕ) (r : Result (ℕ × List ℕ) Departure) (f : ℕ × List ℕ → Result (List ℕ × List ℕ) Departure) → (if q then true else (p && true)) ≡ false → octet_by q p a b t u r f ≡ Err (Syntax (length t))
octet_text true p a b t u r f h = absurd cc
octet_text false true a b t u r f h = absurd cc
octet_text false false a b t u r f h = refl

octet_kind : (q p a b : Bool) (t u : List ℕ) (r : Result (ℕ × List ℕ) Departure) (f : ℕ × List ℕ → Result (List ℕ × List ℕ) Departure) → (if q then true else (p && true)) ≡ true → (if q then a else (p && b)) ≡ false → octet_by q p a b t u r f ≡ Err (Kind (length t))
octet_kind true p true b t u r f h k = absurd cc
octet_kind true p false b t u r f h k = refl
octet_kind false true a true t u r f h k = absurd cc
octet_kind false true a false t u r f h k = refl
octet_kind false false a b t u r f h k = absurd cc

module _ (most : Option ℕ) where
  abbrev Here : ℕ → Place
  Here m = place_for (quote_or_char true true) (quote_or_char (fits_text most m) (fits_text most (m + 1)))

  abbrev later : ℕ → ℕ → ℕ × List ℕ → Result (List ℕ × List ℕ) Departure
  later n m y = with_char y.0 (chars_at n most (m + 1) y.1)

  octet_err : (n m : ℕ) (t : List ℕ) {d : Departure} → Stops (Here m) t d → chars_at (suc n) most m t ≡ Err d
  unfolding chars_at
  octet_err n m [] (no_text h) = refl
  octet_err n m [] (no_kind h k) = absurd cc
  octet_err n m (c ∷ t) (no_text h) = octet_text (c == 34) (is_char c) (fits_text most m) (fits_text most (m + 1)) (c ∷ t) t (char_in_text_at (c ∷ t)) (later n m) h
  octet_err n m (c ∷ t) (no_kind h k) = octet_kind (c == 34) (is_char c) (fits_text most m) (fits_text most (m + 1)) (c ∷ t) t (char_in_text_at (c ∷ t)) (later n m) h k

  -- an octet that is none of the quote
  char_next : (n m : ℕ) (t : List ℕ) → heads 34 t ≡ false → begins_char t ≡ true → fits_text most (m + 1) ≡ true → chars_at (suc n) most m t ≡ (char_in_text_at t >>= later n m)
  unfolding chars_at
  char_next n m t q b f =
      if_false (heads 34 t) (closed (fits_text most m) t >>= λ u. Ok (lpair [] u)) (quoted.next_at (fits_text most (m + 1)) t >>= later n m) q
      ∙ ap (λ (r : Result (ℕ × List ℕ) Departure). r >>= later n m)
      (if_true (begins_char t) (if fits_text most (m + 1) then char_in_text_at t else Err (Kind (length t))) (Err (Syntax (length t))) b ∙ if_true (fits_text most (m + 1)) (char_in_text_at t) (Err (Kind (length t))) f)

  abbrev not_nul : List ℕ → ℕ × List ℕ → Result (ℕ × List ℕ) Departure
  not_nul t x = if x.0 == 0 then Err (Range (length t)) else Ok (cpair x.0 x.1)

  octet_there : (c : ℕ) (t u : List ℕ) → t ≡ char_text c ++ u → c < 256 → (heads 34 t ≡ false) × (begins_char t ≡ true) × (char_at t ≡ Ok (cpair c u))
  octet_there c t u w lt = (ap (heads 34) w ∙ no_quote (is_plain c) c u refl, ap begins_char w ∙ begins_on (is_plain c) c u refl, ap char_at w ∙ char_on c u lt)

  pub chars_err : (n : ℕ) {m : ℕ} {t : List ℕ} {d : Departure} → TextStops most m t d → length t < n → chars_at n most m t ≡ Err d
  chars_err zero x lt = absurd (omega (arith, lt))
  chars_err (suc n) (at_octet {m = m} {t = t} st) lt = octet_err n m t st
  chars_err (suc n) (in_octet {m = m} {t = t} {d = d} f x) lt =
      let e = escape_err x in
      char_next n m t e.0 e.1 f ∙ failing (char_in_text_at t) (later n m) d (failing (char_at t) (not_nul t) d e.2)
  chars_err (suc n) (a_nul {m = m} {t = t} u f w) lt =
      let o = octet_there 0 t u w (omega arith) in
      char_next n m t o.0 o.1 f ∙ failing (char_in_text_at t) (later n m) (Range (length t)) (through (char_at t) (not_nul t) (cpair 0 u) o.2)
  chars_err (suc n) (later_octet {m = m} {t = t} {u = u} {d = d} c f z below w x) lt =
      let o = octet_there c t u w below in
      let y : char_in_text_at t ≡ Ok (cpair c u) = through (char_at t) (not_nul t) (cpair c u) o.2 ∙ if_false (c == 0) (Err (Range (length t))) (Ok (cpair c u)) z in
      char_next n m t o.0 o.1 f
      ∙ (through (char_in_text_at t) (later n m) (cpair c u) y ∙ failing (chars_at n most (m + 1) u) (λ z. Ok (lpair (c ∷ z.0) z.1)) d (chars_err n x (char_shorter c n t u w lt)))
