-- The number that is read is the one whose text stands there, and a text of a number is read as it.
use Rattle.std.proofs.Common.{◌≡◌, ◌≢◌, ℕ, zero, suc, ◌+◌, ◌-◌, ◌*◌, ◌^◌, ◌<◌, ◌≤◌, Bool, true, false, List, [], ◌∷◌, ◌++◌, length, get_or, Option, Some, None, Result, Ok, Err, refl, ap, sym, subst, ◌∙◌, arith, decimal}
use Rattle.std.specs.Prelude.{ℤ, pos, negsuc, neg_ℤ, if◌then◌else◌, ◌&&◌, ◌||◌, ◌==◌, not, nat_lt, is_some}
use Rattle.std.specs.Char.{digit_value}
use Rattle.std.specs.Str.Parse.{AllDigits, digits_value, digits_value_after}
use Rattle.std.specs.Fmt.{signed_decimal}
use Rattle.std.proofs.lemmas.Bool.{and_parts, ltb-true, lt-ltb}
use Rattle.std.proofs.lemmas.Bool.Decides.{nat_tests}
use Rattle.std.proofs.lemmas.Str.Parse.{IsNumeralModel, numerals_by_value, tells_digits, digit_at}
use Rattle.std.proofs.lemmas.Fmt.{decimal_digit, decimal-digits_value, decimal_is_IsNumeral, first_decimal}
use Rattle.ndr_value.specs.Fits.{fits_int}
use Rattle.value_text.specs.declared.departure.Departure.{Departure}
use Rattle.value_text.specs.declared.departure.Departure.TheVariants.{Syntax, Range}
use Rattle.value_text.specs.declared.numbers.Numeral.{Numeral}
use Rattle.value_text.specs.Bind.{◌>>=◌}
use Rattle.value_text.specs.Texts.{is_small}
use Rattle.value_text.specs.Marks.{is_digit, heads, heads_digit, behind, wrong}
use Rattle.value_text.specs.Numbers.{small, with_digit, digits_from, zero_at, natural_at, numeral, minus_at, number_at, numeral_at, size_of, is_below, unsigned_at, index_at, signed, is_signed, signed_at}
use Rattle.value_text.proofs.Steps.{bind_ok, through, guard_ok, unless_ok, unless_go, when_go, if_true, if_false, heads_is, passes-at, implied}

own : IsNumeralModel (AllDigits 10) (digits_value 10)
own = numerals_by_value (AllDigits 10) tells_digits

-- ---- digits

abbrev digit_is : ℕ → Bool
digit_is c = not (is_digit c) || ((digit_value c == c - 48) && nat_lt (digit_value c) 10)

digit_small : (c : ℕ) → is_digit c ≡ true → (48 ≤ c) × (c < 58)
digit_small c h = (grind (arith, nat_tests), grind (arith, nat_tests))

eq_is : (m n : ℕ) → (m == n) ≡ true → m ≡ n
eq_is m n h = grind (arith, nat_tests)

pub digit_below : (c : ℕ) → is_digit c ≡ true → (digit_value c ≡ c - 48) × (digit_value c < 10)
digit_below c h =
    let both = implied (is_digit c) ((digit_value c == c - 48) && nat_lt (digit_value c) 10) h (passes-at digit_is 58 c refl (digit_small c h).1) in
    let parts = and_parts (digit_value c == c - 48) (nat_lt (digit_value c) 10) both in
    (eq_is (digit_value c) (c - 48) parts.0, ltb-true (digit_value c) 10 parts.1)

small_by : (b : Bool) (n f : ℕ) → nat_lt n (2 ^ 64) ≡ b → (if b then Some n else None) ≡ Some f → (n ≡ f) × (n < 2 ^ 64)
small_by true n f h e = (cc, ltb-true n (2 ^ 64) h)
small_by false n f h e = absurd cc

small_ok : (n f : ℕ) → small n ≡ Some f → (n ≡ f) × (n < 2 ^ 64)
small_ok n f e = small_by (nat_lt n (2 ^ 64)) n f refl e

with_digit_ok : (m : Option ℕ) (c f : ℕ) → with_digit m c ≡ Some f → (k : ℕ) × (m ≡ Some k) × (f ≡ k * 10 + (c - 48)) × (f < 2 ^ 64)
with_digit_ok None c f e = absurd cc
with_digit_ok (Some k) c f e = let g = small_ok (k * 10 + (c - 48)) f e in (k, refl, sym g.0, subst (λ (x : ℕ). x < 2 ^ 64) g.0 g.1)

pub record Digits (m : Option ℕ) (t : List ℕ) (n : ℕ) (rest : List ℕ) : Type 0 where
  pub ds : List ℕ
  pub all : AllDigits 10 ds
  pub whole : t ≡ ds ++ rest
  pub stops : heads_digit rest ≡ false
  pub from : ℕ
  pub was : m ≡ Some from
  pub value : n ≡ digits_value_after 10 from ds
  pub small_too : from < 2 ^ 64 → n < 2 ^ 64

abbrev pair : Option ℕ → List ℕ → Option ℕ × List ℕ
pair a b = (a, b)

first_is : (a c : Option ℕ) (b d : List ℕ) → pair a b ≡ pair c d → a ≡ c
first_is a c b d e = ap (λ (p : Option ℕ × List ℕ). p.0) e

second_is : (a c : Option ℕ) (b d : List ℕ) → pair a b ≡ pair c d → b ≡ d
second_is a c b d e = ap (λ (p : Option ℕ × List ℕ). p.1) e

no_digits : (m : Option ℕ) (t : List ℕ) (n : ℕ) (rest : List ℕ) → heads_digit t ≡ false → pair m t ≡ pair (Some n) rest → Digits m t n rest
no_digits m t n rest h e = record {
  ds = [];
  all = tt;
  whole = second_is m (Some n) t rest e;
  stops = subst (λ (x : List ℕ). heads_digit x ≡ false) (second_is m (Some n) t rest e) h;
  from = n;
  was = first_is m (Some n) t rest e;
  value = refl;
  small_too = λ h. h;
}

digit_by : (b : Bool) (c : ℕ) (t : List ℕ) (m : Option ℕ) (n : ℕ) (rest : List ℕ) → is_digit c ≡ b → (if b then digits_from (with_digit m c) t else (m, c ∷ t)) ≡ (Some n, rest)
    → (digits_from (with_digit m c) t ≡ (Some n, rest) → Digits (with_digit m c) t n rest) → Digits m (c ∷ t) n rest
digit_by true c t m n rest h e ih =
    let d = ih e in
    let w = with_digit_ok m c d.from d.was in
    let g = digit_below c h in
    let k : d.from ≡ w.0 * 10 + digit_value c = w.2 ∙ ap (λ (x : ℕ). w.0 * 10 + x) (sym g.0) in
    record {
      ds = c ∷ d.ds;
      all = (g.1, d.all);
      whole = ap (λ (x : List ℕ). c ∷ x) d.whole;
      stops = d.stops;
      from = w.0;
      was = w.1;
      value = d.value ∙ ap (λ (x : ℕ). digits_value_after 10 x d.ds) k;
      small_too = λ _. d.small_too w.3;
    }
digit_by false c t m n rest h e ih = no_digits m (c ∷ t) n rest h e

pub digits_ok : (t : List ℕ) (m : Option ℕ) (n : ℕ) (rest : List ℕ) → digits_from m t ≡ (Some n, rest) → Digits m t n rest
digits_ok [] m n rest e = no_digits m [] n rest refl e
digits_ok (c ∷ t) m n rest e = digit_by (is_digit c) c t m n rest refl e (digits_ok t (with_digit m c) n rest)

-- ---- numbers without a sign

pub record Natural (t : List ℕ) (n : ℕ) (rest : List ℕ) : Type 0 where
  pub whole : t ≡ decimal n ++ rest
  pub stops : heads_digit rest ≡ false
  pub small : n < 2 ^ 64
  pub zero_heads : n ≡ 0 → heads 48 t ≡ true

some_ds : (ds t rest : List ℕ) → t ≡ ds ++ rest → heads_digit t ≡ true → heads_digit rest ≡ false → 0 < length ds
some_ds [] t rest w h k = let e : true ≡ false = sym h ∙ (ap heads_digit w ∙ k) in absurd cc
some_ds (d ∷ ds) t rest w h k = omega arith

not_zero_first : (ds t rest : List ℕ) → t ≡ ds ++ rest → heads 48 t ≡ false → get_or ds 0 0 ≢ 48
not_zero_first [] t rest w h f = absurd (omega arith)
not_zero_first (d ∷ ds) t rest w h f =
    let k : heads 48 t ≡ true = ap (heads 48) w ∙ rw f refl in
    let e : true ≡ false = sym k ∙ h in
    absurd cc

zero_text : decimal 0 ≡ 48 ∷ []
zero_text = decimal_digit 0 (omega arith)

abbrev given : ℕ → Option ℕ
given x = Some x

some_is : (x y : ℕ) → given x ≡ given y → x ≡ y
some_is x y e = cc

from_digits : (t : List ℕ) (n : ℕ) (rest : List ℕ) → heads 48 t ≡ false → heads_digit t ≡ true → digits_from (Some 0) t ≡ (Some n, rest) → Natural t n rest
from_digits t n rest z h e =
    let d = digits_ok t (Some 0) n rest e in
    let from : d.from ≡ 0 = sym (some_is 0 d.from d.was) in
    let value : n ≡ digits_value 10 d.ds = d.value ∙ ap (λ (x : ℕ). digits_value_after 10 x d.ds) from in
    let below : n < 2 ^ 64 = d.small_too (omega (arith, from)) in
    let some = some_ds d.ds t rest d.whole h d.stops in
    let first = not_zero_first d.ds t rest d.whole z in
    let text : decimal (digits_value 10 d.ds) ≡ d.ds = decimal-digits_value own d.ds d.all some (λ f. absurd (first f)) (subst (λ (x : ℕ). x < 2 ^ 64) value below) in
    let whole : t ≡ decimal n ++ rest = d.whole ∙ ap (λ (x : List ℕ). x ++ rest) (sym (ap decimal value ∙ text)) in
    record {
      whole = whole;
      stops = d.stops;
      small = below;
      zero_heads = λ k. absurd (first (ap (λ (x : List ℕ). get_or x 0 0) (sym (ap decimal value ∙ text) ∙ (ap decimal k ∙ zero_text))));
    }

natural_by : (b : Bool) (t : List ℕ) (n : ℕ) (rest : List ℕ) → heads 48 t ≡ b → (if b then zero_at (behind t) else (if heads_digit t then Ok (digits_from (Some 0) t) else Err (Syntax (length t)))) ≡ Ok (Some n, rest) → Natural t n rest
natural_by true t n rest h e =
    let u = behind t in
    let g = unless_ok (heads_digit u) (Some 0, u) (Some n, rest) (Syntax (length u)) e in
    let is_zero : 0 ≡ n = some_is 0 n (first_is (Some 0) (Some n) u rest g.1) in
    let is_rest : u ≡ rest = second_is (Some 0) (Some n) u rest g.1 in
    record {
      whole = heads_is 48 t h ∙ (ap (λ (x : List ℕ). 48 ∷ x) is_rest ∙ ap (λ (x : List ℕ). x ++ rest) (sym zero_text ∙ ap decimal is_zero));
      stops = subst (λ (x : List ℕ). heads_digit x ≡ false) is_rest g.0;
      small = omega (arith, is_zero);
      zero_heads = λ k. h;
    }
natural_by false t n rest h e =
    let g = guard_ok (heads_digit t) (digits_from (Some 0) t) (Some n, rest) (Syntax (length t)) e in
    from_digits t n rest h g.0 g.1

pub natural_ok : (t : List ℕ) (n : ℕ) (rest : List ℕ) → natural_at t ≡ Ok (Some n, rest) → Natural t n rest
natural_ok t n rest e = natural_by (heads 48 t) t n rest refl e

-- ---- numbers with a sign

pub record Number (t : List ℕ) (x : Numeral) (n : ℕ) (rest : List ℕ) : Type 0 where
  pub whole : t ≡ signed_decimal (signed x) ++ rest
  pub stops : heads_digit rest ≡ false
  pub small : n < 2 ^ 64
  pub little : is_small (signed x)
  pub plain : x.minus ≡ false → t ≡ decimal n ++ rest

minus_text : (n : ℕ) → n ≢ 0 → signed_decimal (neg_ℤ (pos n)) ≡ 45 ∷ decimal n
minus_text zero h = absurd (h refl)
minus_text (suc k) h = refl

minus_small : (n : ℕ) → n ≢ 0 → n < 2 ^ 64 → is_small (neg_ℤ (pos n))
minus_small zero h lt = absurd (h refl)
minus_small (suc k) h lt = lt

abbrev made : Bool → Option ℕ × List ℕ → Result (Numeral × List ℕ) Departure
made minus y = Ok (numeral minus y.0, y.1)

abbrev npair : Numeral → List ℕ → Numeral × List ℕ
npair a b = (a, b)

unpack : (r : Result (Option ℕ × List ℕ) Departure) (minus : Bool) (x : Numeral) (rest : List ℕ) (n : ℕ) → (r >>= made minus) ≡ Ok (npair x rest) → x.size ≡ Some n
    → (r ≡ Ok (Some n, rest)) × (x ≡ numeral minus (Some n))
unpack (Err d) minus x rest n e s = absurd cc
unpack (Ok y) minus x rest n e s =
    let p : npair (numeral minus y.0) y.1 ≡ npair x rest = cc in
    let a : numeral minus y.0 ≡ x = ap (λ (q : Numeral × List ℕ). q.0) p in
    let b : y.1 ≡ rest = ap (λ (q : Numeral × List ℕ). q.1) p in
    let size : y.0 ≡ Some n = ap (λ (q : Numeral). q.size) a ∙ s in
    (ap (λ (o : Option ℕ). Ok (o, y.1)) size ∙ ap (λ (u : List ℕ). Ok (Some n, u)) b, sym a ∙ ap (λ (o : Option ℕ). numeral minus o) size)

behind_minus : (t u : List ℕ) (n : ℕ) (rest : List ℕ) → t ≡ 45 ∷ u → heads 48 u ≡ false → Natural u n rest → Number t (numeral true (Some n)) n rest
behind_minus t u n rest is z d =
    let some : n ≢ 0 = λ k. let f : true ≡ false = sym (d.zero_heads k) ∙ z in absurd cc in
    record {
      whole = is ∙ (ap (λ (x : List ℕ). 45 ∷ x) d.whole ∙ ap (λ (x : List ℕ). x ++ rest) (sym (minus_text n some)));
      stops = d.stops;
      small = d.small;
      little = minus_small n some d.small;
      plain = λ f. absurd cc;
    }

number_by : (b : Bool) (t : List ℕ) (x : Numeral) (n : ℕ) (rest : List ℕ) → heads 45 t ≡ b → (if b then minus_at (behind t) else (natural_at t >>= made false)) ≡ Ok (npair x rest) → x.size ≡ Some n → Number t x n rest
number_by true t x n rest h e s =
    let u = behind t in
    let g = unless_go (heads 48 u) (natural_at u >>= made true) (npair x rest) (Syntax (length u)) e in
    let p = unpack (natural_at u) true x rest n g.1 s in
    subst (λ (y : Numeral). Number t y n rest) (sym p.1) (behind_minus t u n rest (heads_is 45 t h) g.0 (natural_ok u n rest p.0))
number_by false t x n rest h e s =
    let p = unpack (natural_at t) false x rest n e s in
    let d = natural_ok t n rest p.0 in
    subst (λ (y : Numeral). Number t y n rest) (sym p.1) (record {
      whole = d.whole;
      stops = d.stops;
      small = d.small;
      little = d.small;
      plain = λ _. d.whole;
    })

pub number_ok : (t : List ℕ) (x : Numeral) (n : ℕ) (rest : List ℕ) → number_at t ≡ Ok (x, rest) → x.size ≡ Some n → Number t x n rest
number_ok t x n rest e s = number_by (heads 45 t) t x n rest refl e s

below_is : (limit : ℕ) (o : Option ℕ) → is_below limit o ≡ true → (k : ℕ) × (o ≡ Some k) × (k < limit)
below_is limit None h = absurd cc
below_is limit (Some k) h = (k, refl, ltb-true k limit h)

pub some_size : (o : Option ℕ) → is_some o ≡ true → (k : ℕ) × (o ≡ Some k)
some_size None h = absurd cc
some_size (Some k) h = (k, refl)

not_true : (b : Bool) → not b ≡ true → b ≡ false
not_true true h = absurd cc
not_true false h = refl

-- an unsigned number that was read
pub record Unsigned (limit : ℕ) (t : List ℕ) (n : ℕ) (rest : List ℕ) : Type 0 where
  pub whole : t ≡ decimal n ++ rest
  pub stops : heads_digit rest ≡ false
  pub within : n < limit
  pub small : n < 2 ^ 64

pub unsigned_ok : (limit : ℕ) (t : List ℕ) (n : ℕ) (rest : List ℕ) → unsigned_at limit t ≡ Ok (n, rest) → Unsigned limit t n rest
unsigned_ok limit t n rest e =
    let b = bind_ok (numeral_at t) (λ x. if not x.0.minus && is_below limit x.0.size then Ok (size_of x.0.size, x.1) else Err (Range (length t))) (n, rest) e in
    let x = b.0 in
    let g = guard_ok (not x.0.minus && is_below limit x.0.size) (size_of x.0.size, x.1) (n, rest) (Range (length t)) b.2 in
    let parts = and_parts (not x.0.minus) (is_below limit x.0.size) g.0 in
    let w = when_go (heads 45 t || heads_digit t) (number_at t) x (wrong t) b.1 in
    let s = below_is limit x.0.size parts.1 in
    let d = number_ok t x.0 s.0 x.1 w.1 s.1 in
    let k : s.0 ≡ n = sym (ap size_of s.1) ∙ ap (λ (q : ℕ × List ℕ). q.0) g.1 in
    let u : x.1 ≡ rest = ap (λ (q : ℕ × List ℕ). q.1) g.1 in
    record {
      whole = d.plain (not_true x.0.minus parts.0) ∙ (ap (λ (m : ℕ). decimal m ++ x.1) k ∙ ap (λ (v : List ℕ). decimal n ++ v) u);
      stops = subst (λ (v : List ℕ). heads_digit v ≡ false) u d.stops;
      within = subst (λ (m : ℕ). m < limit) k s.2;
      small = subst (λ (m : ℕ). m < 2 ^ 64) k d.small;
    }

pub record Signed (size : ℕ) (t : List ℕ) (z : ℤ) (rest : List ℕ) : Type 0 where
  pub whole : t ≡ signed_decimal z ++ rest
  pub stops : heads_digit rest ≡ false
  pub within : fits_int size z ≡ true
  pub little : is_small z

-- a number with a sign that has so many octets
pub signed_is : (size : ℕ) (t : List ℕ) (x : Numeral) (rest : List ℕ) → number_at t ≡ Ok (x, rest) → is_signed size x ≡ true → Signed size t (signed x) rest
signed_is size t x rest e h =
    let parts = and_parts (is_some x.size) (fits_int size (signed x)) h in
    let s = some_size x.size parts.0 in
    let d = number_ok t x s.0 rest e s.1 in
    record { whole = d.whole; stops = d.stops; within = parts.1; little = d.little }

pub signed_ok : (size : ℕ) (t : List ℕ) (z : ℤ) (rest : List ℕ) → signed_at size t ≡ Ok (z, rest) → Signed size t z rest
signed_ok size t z rest e =
    let b = bind_ok (numeral_at t) (λ x. if is_signed size x.0 then Ok (signed x.0, x.1) else Err (Range (length t))) (z, rest) e in
    let x = b.0 in
    let g = guard_ok (is_signed size x.0) (signed x.0, x.1) (z, rest) (Range (length t)) b.2 in
    let w = when_go (heads 45 t || heads_digit t) (number_at t) x (wrong t) b.1 in
    let d = signed_is size t x.0 x.1 w.1 g.0 in
    subst (λ (q : ℤ × List ℕ). Signed size t q.0 q.1) g.1 d

pub index_ok : (limit : ℕ) (t : List ℕ) (n : ℕ) (rest : List ℕ) → index_at limit t ≡ Ok (n, rest) → Unsigned limit t n rest
index_ok limit t n rest e =
    let b = bind_ok (natural_at t) (λ x. if is_below limit x.0 then Ok (size_of x.0, x.1) else Err (Range (length t))) (n, rest) e in
    let x = b.0 in
    let g = guard_ok (is_below limit x.0) (size_of x.0, x.1) (n, rest) (Range (length t)) b.2 in
    let s = below_is limit x.0 g.0 in
    let k : s.0 ≡ n = sym (ap size_of s.1) ∙ ap (λ (q : ℕ × List ℕ). q.0) g.1 in
    let u : x.1 ≡ rest = ap (λ (q : ℕ × List ℕ). q.1) g.1 in
    let r : natural_at t ≡ Ok (Some n, rest) = b.1 ∙ (ap (λ (o : Option ℕ). Ok (o, x.1)) (s.1 ∙ ap (λ (m : ℕ). given m) k) ∙ ap (λ (v : List ℕ). Ok (Some n, v)) u) in
    let d = natural_ok t n rest r in
    record { whole = d.whole; stops = d.stops; within = subst (λ (m : ℕ). m < limit) k s.2; small = d.small }

-- ---- the way back

stop_on : (m : Option ℕ) (rest : List ℕ) → heads_digit rest ≡ false → digits_from m rest ≡ (m, rest)
stop_on m [] h = refl
stop_on m (c ∷ t) h = rw h refl

small_is : (n : ℕ) → n < 2 ^ 64 → small n ≡ Some n
small_is n h = let e : nat_lt n (2 ^ 64) ≡ true = lt-ltb n (2 ^ 64) h in rw e refl

digit_of : (c : ℕ) (ds : List ℕ) → AllDigits 10 (c ∷ ds) → is_digit c ≡ true
digit_of c ds all = let r = digit_at (c ∷ ds) 0 all (omega arith) in grind (arith, nat_tests, r)

after_le : (ds : List ℕ) (k : ℕ) → k ≤ digits_value_after 10 k ds
after_le [] k = omega arith
after_le (c ∷ ds) k = let h = after_le ds (k * 10 + digit_value c) in omega (arith, h)

digits_on : (ds : List ℕ) (k : ℕ) (rest : List ℕ) → AllDigits 10 ds → heads_digit rest ≡ false → digits_value_after 10 k ds < 2 ^ 64 → digits_from (Some k) (ds ++ rest) ≡ (Some (digits_value_after 10 k ds), rest)
digits_on [] k rest all h lt = stop_on (Some k) rest h
digits_on (c ∷ ds) k rest all h lt =
    let d = digit_of c ds all in
    let g = digit_below c d in
    let m : k * 10 + (c - 48) ≡ k * 10 + digit_value c = ap (λ (x : ℕ). k * 10 + x) (sym g.0) in
    let below : k * 10 + digit_value c < 2 ^ 64 = let h2 = after_le ds (k * 10 + digit_value c) in omega (arith, h2, lt) in
    let one : with_digit (Some k) c ≡ Some (k * 10 + digit_value c) = ap small m ∙ small_is (k * 10 + digit_value c) below in
    let step : digits_from (Some k) (c ∷ (ds ++ rest)) ≡ digits_from (with_digit (Some k) c) (ds ++ rest) = rw d refl in
    step ∙ (ap (λ (o : Option ℕ). digits_from o (ds ++ rest)) one ∙ digits_on ds (k * 10 + digit_value c) rest all.1 h lt)

natural_some : (ds : List ℕ) (n : ℕ) (rest : List ℕ) → 48 < get_or ds 0 0 → AllDigits 10 ds → digits_value 10 ds ≡ n → n < 2 ^ 64 → heads_digit rest ≡ false → natural_at (ds ++ rest) ≡ Ok (Some n, rest)
natural_some [] n rest f all v lt h = absurd (omega arith)
natural_some (c ∷ ds) n rest f all v lt h =
    let z : (c == 48) ≡ false = grind (arith, nat_tests) in
    let d = digit_of c ds all in
    let below : digits_value_after 10 0 (c ∷ ds) < 2 ^ 64 = omega (arith, v, lt) in
    let t = c ∷ (ds ++ rest) in
    if_false (heads 48 t) (zero_at (behind t)) (if heads_digit t then Ok (digits_from (Some 0) t) else Err (Syntax (length t))) z
    ∙ (if_true (heads_digit t) (Ok (digits_from (Some 0) t)) (Err (Syntax (length t))) d ∙ (ap (λ (q : Option ℕ × List ℕ). Ok q) (digits_on (c ∷ ds) 0 rest all h below) ∙ ap (λ (m : ℕ). Ok (pair (Some m) rest)) v))

pub natural_on : (n : ℕ) (rest : List ℕ) → n < 2 ^ 64 → heads_digit rest ≡ false → natural_at (decimal n ++ rest) ≡ Ok (Some n, rest)
natural_on zero rest lt h = subst (λ (ds : List ℕ). natural_at (ds ++ rest) ≡ Ok (Some 0, rest)) (sym zero_text) (rw h refl)
natural_on (suc m) rest lt h =
    let k = decimal_is_IsNumeral (suc m) lt in
    natural_some (decimal (suc m)) (suc m) rest (first_decimal (suc m) (omega arith) lt) k.0.1 k.1 lt h

-- what the text of a number begins with
head_some : (ds rest : List ℕ) → 0 < length ds → AllDigits 10 ds → heads_digit (ds ++ rest) ≡ true
head_some [] rest some all = absurd (omega arith)
head_some (c ∷ ds) rest some all = digit_of c ds all

pub heads_decimal : (n : ℕ) (rest : List ℕ) → n < 2 ^ 64 → heads_digit (decimal n ++ rest) ≡ true
heads_decimal n rest lt = let k = decimal_is_IsNumeral n lt in head_some (decimal n) rest k.0.0 k.0.1

other : (b : Bool) (d c : ℕ) → is_digit d ≡ true → is_digit c ≡ false → (d == c) ≡ b → b ≡ false
other true d c h f e = let same = eq_is d c e in let k : true ≡ false = sym h ∙ (ap is_digit same ∙ f) in absurd cc
other false d c h f e = refl

pub heads_no : (c : ℕ) (t : List ℕ) → heads_digit t ≡ true → is_digit c ≡ false → heads c t ≡ false
heads_no c [] h f = refl
heads_no c (d ∷ t) h f = other (d == c) d c h f refl

not_zero : (ds rest : List ℕ) → 48 < get_or ds 0 0 → heads 48 (ds ++ rest) ≡ false
not_zero [] rest f = absurd (omega arith)
not_zero (c ∷ ds) rest f = grind (arith, nat_tests)

abbrev pub numeral_of : ℤ → Numeral
numeral_of (pos n) = numeral false (Some n)
numeral_of (negsuc k) = numeral true (Some (suc k))

pub numeral_signed : (z : ℤ) → signed (numeral_of z) ≡ z
numeral_signed (pos n) = refl
numeral_signed (negsuc k) = refl

pub numeral_some : (z : ℤ) → is_some (numeral_of z).size ≡ true
numeral_some (pos n) = refl
numeral_some (negsuc k) = refl

pub number_on : (z : ℤ) (rest : List ℕ) → is_small z → heads_digit rest ≡ false → number_at (signed_decimal z ++ rest) ≡ Ok (numeral_of z, rest)
number_on (pos n) rest lt h =
    let f = heads_no 45 (decimal n ++ rest) (heads_decimal n rest lt) refl in
    let t = decimal n ++ rest in
    if_false (heads 45 t) (minus_at (behind t)) (natural_at t >>= made false) f ∙ ap (λ (r : Result (Option ℕ × List ℕ) Departure). r >>= made false) (natural_on n rest lt h)
number_on (negsuc k) rest lt h =
    let f = not_zero (decimal (suc k)) rest (first_decimal (suc k) (omega arith) lt) in
    let u = decimal (suc k) ++ rest in
    if_false (heads 48 u) (Err (Syntax (length u))) (natural_at u >>= made true) f ∙ ap (λ (r : Result (Option ℕ × List ℕ) Departure). r >>= made true) (natural_on (suc k) rest lt h)

heads_signed : (z : ℤ) (rest : List ℕ) → is_small z → (heads 45 (signed_decimal z ++ rest) || heads_digit (signed_decimal z ++ rest)) ≡ true
heads_signed (pos n) rest lt =
    let f = heads_no 45 (decimal n ++ rest) (heads_decimal n rest lt) refl in
    rw (f, heads_decimal n rest lt) refl
heads_signed (negsuc k) rest lt = refl

numeral_on : (z : ℤ) (rest : List ℕ) → is_small z → heads_digit rest ≡ false → numeral_at (signed_decimal z ++ rest) ≡ Ok (numeral_of z, rest)
numeral_on z rest lt h =
    ap (λ (b : Bool). if b then number_at (signed_decimal z ++ rest) else Err (wrong (signed_decimal z ++ rest))) (heads_signed z rest lt) ∙ number_on z rest lt h

pub unsigned_on : (limit n : ℕ) (rest : List ℕ) → n < limit → n < 2 ^ 64 → heads_digit rest ≡ false → unsigned_at limit (decimal n ++ rest) ≡ Ok (n, rest)
unsigned_on limit n rest within lt h =
    let f : nat_lt n limit ≡ true = lt-ltb n limit within in
    let t = decimal n ++ rest in
    through (numeral_at t) (λ x. if not x.0.minus && is_below limit x.0.size then Ok (size_of x.0.size, x.1) else Err (Range (length t))) (numeral false (Some n), rest) (numeral_on (pos n) rest lt h) ∙ rw f refl

pub is_signed_of : (size : ℕ) (z : ℤ) → fits_int size z ≡ true → is_signed size (numeral_of z) ≡ true
is_signed_of size (pos n) f = f
is_signed_of size (negsuc k) f = f

pub signed_on : (size : ℕ) (z : ℤ) (rest : List ℕ) → fits_int size z ≡ true → is_small z → heads_digit rest ≡ false → signed_at size (signed_decimal z ++ rest) ≡ Ok (z, rest)
signed_on size z rest within lt h =
    let t = signed_decimal z ++ rest in
    through (numeral_at t) (λ x. if is_signed size x.0 then Ok (signed x.0, x.1) else Err (Range (length t))) (numeral_of z, rest) (numeral_on z rest lt h)
    ∙ (ap (λ (b : Bool). if b then Ok (signed (numeral_of z), rest) else Err (Range (length t))) (is_signed_of size z within) ∙ ap (λ (y : ℤ). Ok (y, rest)) (numeral_signed z))

pub index_on : (limit n : ℕ) (rest : List ℕ) → n < limit → n < 2 ^ 64 → heads_digit rest ≡ false → index_at limit (decimal n ++ rest) ≡ Ok (n, rest)
index_on limit n rest within lt h =
    let f : nat_lt n limit ≡ true = lt-ltb n limit within in
    let t = decimal n ++ rest in
    through (natural_at t) (λ x. if is_below limit x.0 then Ok (size_of x.0, x.1) else Err (Range (length t))) (Some n, rest) (natural_on n rest lt h) ∙ rw f refl
