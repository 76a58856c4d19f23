-- A printed token is read again.
use Rattle.std.proofs.Common.{◌≡◌, ℕ, suc, ◌+◌, ◌*◌, ◌<◌, ◌^◌, Bool, true, false, ◌&&◌, cond, nat_eq, nat_lt, List, [], ◌∷◌, ◌++◌, length, length-append, length-take, take, drop, get_or, Some, None, All, MatchBool, refl, sym, ap, ◌∙◌, subst, inl, arith, append_assoc}
use Rattle.std.specs.Prelude.{codes, slice_index}
use Rattle.std.specs.Cmp.{second_so}
use Rattle.std.proofs.lemmas.Bool.{false≢true}
use Rattle.std.proofs.lemmas.Bool.Decides.{nat_tests}
use Rattle.std.proofs.lemmas.Option.{cond_some}
use Rattle.std.proofs.lemmas.List.{take_at, drop_at}
use Rattle.std.proofs.lemmas.List.Sums.{AllPass-from_list_all, take_while-cons}
use Rattle.std.specs.List.{prefix_len, list_all, starts_with}
use Rattle.std.specs.Char.{digit_value, is_digit}
use Rattle.std.specs.Fmt.{decimal}
use Rattle.std.specs.Str.Parse.{AllDigits, digits_value}
use Rattle.std.proofs.lemmas.Fmt.{decimal_is_IsNumeral}
use Rattle.uuid.specs.Text.{parsed, parsed_hyphenated, parsed_simple, digits_of, has_hyphens, hyphenated_text, lower, by_index, byte_of_digits, is_hex_digit, value_of, hyphen_place}
use Rattle.uuid.proofs.TextLemmas.{by_index_at, by_index_length}
use Rattle.uuid.proofs.RoundTrips.{parses_hyphenated}
use Rattle.idl_tokens.specs.declared.kinds.Kind.{Kind}
use Rattle.idl_tokens.specs.declared.kinds.Kind.TheVariants as kinds
use Rattle.idl_tokens.specs.Spellings.{word_text}
use Rattle.idl_tokens.specs.Tokens.{front, behind, starts, fitting, is_letter, is_name_octet, is_string_octet, IsNumeralAt, IsNumberAt, IsNameAt, IsStringAt, IsUuidAt, Spells, BeginsWith, wants_uuid, depth_of}
use Rattle.idl_tokens.proofs.Shorter.{letters_in_names}
use Rattle.idl_print.specs.Layout.{token_text, HasText}

-- ---- fronts

cut_front : (p : ℕ → Bool) (q : List ℕ) → starts p q ≡ false → prefix_len p q ≡ 0
cut_front p [] h = refl
cut_front p (c ∷ cs) h = rw h refl

longer : (b : Bool) (n m : ℕ) (each : Bool) → (b && each) ≡ true → (each ≡ true → n ≡ m) → cond b (1 + n) 0 ≡ suc m
longer true n m each e ih = omega (arith, ih e)
longer false n m each e ih = absurd (false≢true e)

front_len : (p : ℕ → Bool) (xs q : List ℕ) → list_all p xs ≡ true → starts p q ≡ false → prefix_len p (xs ++ q) ≡ length xs
front_len p [] q each apart = cut_front p q apart
front_len p (x ∷ xs) q each apart = longer (p x) (prefix_len p (xs ++ q)) (length xs) (list_all p xs) each (λ h. front_len p xs q h apart)

-- what passes, behind it what doesn't
front-append : (p : ℕ → Bool) (xs q : List ℕ) → list_all p xs ≡ true → starts p q ≡ false → front p (xs ++ q) ≡ xs
front-append p xs q each apart = ap (λ n. take n (xs ++ q)) (front_len p xs q each apart) ∙ take_at xs q (length xs) refl

behind-append : (p : ℕ → Bool) (xs q : List ℕ) → list_all p xs ≡ true → starts p q ≡ false → behind p (xs ++ q) ≡ q
behind-append p xs q each apart = ap (λ n. drop n (xs ++ q)) (front_len p xs q each apart) ∙ drop_at xs q (length xs) refl

passes_more : (p : ℕ → Bool) (c : ℕ) (cs : List ℕ) (b : Bool) → p c ≡ b → list_all p cs ≡ true → list_all p (cond b (c ∷ cs) []) ≡ true
passes_more p c cs true e h = rw e h
passes_more p c cs false e h = refl

each_of_front : (p : ℕ → Bool) (text : List ℕ) → list_all p (front p text) ≡ true
each_of_front p [] = refl
each_of_front p (c ∷ cs) = rw take_while-cons (passes_more p c (front p cs) (p c) refl (each_of_front p cs))

starts_cons : (p : ℕ → Bool) (c : ℕ) (cs : List ℕ) (b : Bool) → b ≡ true → p c ≡ true → starts p (cond b (c ∷ cs) []) ≡ true
starts_cons p c cs true e h = h
starts_cons p c cs false e h = absurd (false≢true e)

starts_front : (p q : ℕ → Bool) (text : List ℕ) → ((c : ℕ) → p c ≡ true → q c ≡ true) → starts p text ≡ true → starts p (front q text) ≡ true
starts_front p q [] h e = e
starts_front p q (c ∷ cs) h e = rw take_while-cons (starts_cons p c (front q cs) (q c) (h c e) e)

starts_append : (p : ℕ → Bool) (xs q : List ℕ) → starts p xs ≡ true → starts p (xs ++ q) ≡ true
starts_append p [] q e = absurd (false≢true e)
starts_append p (x ∷ xs) q e = e

starts_less : (p q : ℕ → Bool) (text : List ℕ) → ((c : ℕ) → p c ≡ false → q c ≡ false) → starts p text ≡ false → starts q text ≡ false
starts_less p q [] h e = refl
starts_less p q (c ∷ cs) h e = h c e

-- ---- names

name_again : (here name rest q : List ℕ) → IsNameAt here name rest → starts is_name_octet q ≡ false → IsNameAt (name ++ q) name q
name_again here name rest q h apart =
    let each : list_all is_name_octet name ≡ true = ap (list_all is_name_octet) h.name_is ∙ each_of_front is_name_octet here in
    let begins : starts is_letter name ≡ true = ap (starts is_letter) h.name_is ∙ starts_front is_letter is_name_octet here letters_in_names h.first in
    record {
      first = starts_append is_letter name q begins;
      name_is = sym (front-append is_name_octet name q each apart);
      rest_is = sym (behind-append is_name_octet name q each apart);
    }

-- ---- numbers

numeral_fits : (radix : ℕ) (text : List ℕ) (value : ℕ) (rest : List ℕ) → IsNumeralAt radix text (Some value) rest → value < 2 ^ 64
numeral_fits radix text value rest h =
    let n = digits_value radix (front (λ c. is_digit c radix) text) in
    let cases = cond_some (nat_lt n (2 ^ 64)) n value (sym h.value_is) in
    small n value cases.0 cases.1
  where
    small : (n v : ℕ) → nat_lt n (2 ^ 64) ≡ true → n ≡ v → v < 2 ^ 64
    small n v e f = grind (arith, nat_tests)

number_fits : (b : Bool) (text : List ℕ) (value : ℕ) (rest : List ℕ) → MatchBool b (IsNumeralAt 16 (drop 2 text) (Some value) rest) (IsNumeralAt 10 text (Some value) rest) → value < 2 ^ 64
number_fits true text value rest h = numeral_fits 16 (drop 2 text) value rest h
number_fits false text value rest h = numeral_fits 10 text value rest h

digit_test : (c : ℕ) → digit_value c < 10 → is_digit c 10 ≡ true
digit_test c h = grind (arith, nat_tests)

digit_no_x : (c : ℕ) → digit_value c < 10 → nat_eq 120 c ≡ false
digit_no_x c h = grind (arith, nat_tests)

apart_no_x : (c : ℕ) → is_name_octet c ≡ false → nat_eq 120 c ≡ false
apart_no_x c h = grind (arith, nat_tests)

apart_no_digit : (c : ℕ) → is_name_octet c ≡ false → is_digit c 10 ≡ false
apart_no_digit c h = grind (arith, nat_tests)

digits_pass : (ds : List ℕ) → AllDigits 10 ds → list_all (λ c. is_digit c 10) ds ≡ true
digits_pass [] h = refl
digits_pass (d ∷ ds) h = rw (digit_test d h.0) (digits_pass ds h.1)

starts_digit : (ds : List ℕ) → 0 < length ds → AllDigits 10 ds → starts (λ c. is_digit c 10) ds ≡ true
starts_digit [] some h = absurd (omega arith)
starts_digit (d ∷ ds) some h = digit_test d h.0

and_false : (b : Bool) → (b && false) ≡ false
and_false true = refl
and_false false = refl

no_prefix : (d : ℕ) (r : List ℕ) → starts (nat_eq 120) r ≡ false → starts_with nat_eq (d ∷ r) (codes "0x") ≡ false
no_prefix d [] h = and_false (nat_eq 48 d)
no_prefix d (e ∷ r) h = rw h (and_false (nat_eq 48 d))

no_x_behind : (ds q : List ℕ) → AllDigits 10 ds → starts is_name_octet q ≡ false → starts (nat_eq 120) (ds ++ q) ≡ false
no_x_behind [] q h apart = starts_less is_name_octet (nat_eq 120) q apart_no_x apart
no_x_behind (d ∷ ds) q h apart = digit_no_x d h.0

no_hexadecimal : (ds q : List ℕ) → 0 < length ds → AllDigits 10 ds → starts is_name_octet q ≡ false → starts_with nat_eq (ds ++ q) (codes "0x") ≡ false
no_hexadecimal [] q some h apart = absurd (omega arith)
no_hexadecimal (d ∷ ds) q some h apart = no_prefix d (ds ++ q) (no_x_behind ds q h.1 apart)

fitting-small : (n : ℕ) → n < 2 ^ 64 → Some n ≡ fitting n
fitting-small n h = grind (arith, nat_tests)

numeral_again : (value : ℕ) (q : List ℕ) → value < 2 ^ 64 → starts is_name_octet q ≡ false → IsNumeralAt 10 (decimal value ++ q) (Some value) q
numeral_again value q fits apart =
    let known = decimal_is_IsNumeral value fits in
    let each = digits_pass (decimal value) known.0.1 in
    let no_digit = starts_less is_name_octet (λ c. is_digit c 10) q apart_no_digit apart in
    record {
      some = starts_append (λ c. is_digit c 10) (decimal value) q (starts_digit (decimal value) known.0.0 known.0.1);
      value_is = fitting-small value fits ∙ ap fitting (sym (ap (digits_value 10) (front-append (λ c. is_digit c 10) (decimal value) q each no_digit) ∙ known.1));
      rest_is = sym (behind-append (λ c. is_digit c 10) (decimal value) q each no_digit);
    }

number_again : (value : ℕ) (q : List ℕ) → value < 2 ^ 64 → starts is_name_octet q ≡ false → IsNumberAt (decimal value ++ q) (Some value) q
number_again value q fits apart =
    let known = decimal_is_IsNumeral value fits in
    let e = no_hexadecimal (decimal value) q known.0.0 known.0.1 apart in
    subst (λ b. MatchBool b (IsNumeralAt 16 (drop 2 (decimal value ++ q)) (Some value) q) (IsNumeralAt 10 (decimal value ++ q) (Some value) q)) (sym e) (numeral_again value q fits apart)

-- ---- strings

string_again : (here inside rest q : List ℕ) → IsStringAt here inside rest → IsStringAt ((codes "\"" ++ (inside ++ codes "\"")) ++ q) inside q
string_again here inside rest q h =
    let each : list_all is_string_octet inside ≡ true = ap (list_all is_string_octet) h.inside_is ∙ each_of_front is_string_octet h.after in
    let regroup : (inside ++ codes "\"") ++ q ≡ inside ++ (34 ∷ q) = append_assoc inside (codes "\"") q in
    record {
      after = (inside ++ codes "\"") ++ q;
      opened = refl;
      inside_is = sym (ap (front is_string_octet) regroup ∙ front-append is_string_octet inside (34 ∷ q) each refl);
      closed = ap (behind is_string_octet) regroup ∙ behind-append is_string_octet inside (34 ∷ q) each refl;
    }

-- ---- UUIDs

record IsId (id : List ℕ) : Type 0 where
  sixteen : length id ≡ 16
  small : All (λ b. b < 256) id

value_small : (c : ℕ) → is_hex_digit c ≡ true → value_of c < 16
value_small c h = grind (arith, nat_tests)

pair_small : (a b : ℕ) → a < 16 → b < 16 → a * 16 + b < 256
pair_small a b h g = omega arith

from_digits : (hex id : List ℕ) → length hex ≡ 32 → list_all is_hex_digit hex ≡ true → by_index 16 (byte_of_digits hex) ≡ id → IsId id
from_digits hex id len each e =
    let each_at = AllPass-from_list_all is_hex_digit hex each in
    let ids : IsId (by_index 16 (byte_of_digits hex)) = record {
      sixteen = by_index_length 16 (byte_of_digits hex);
      small = λ i d h. subst (λ b. b < 256) (sym (by_index_at 16 (byte_of_digits hex) i d (omega (arith, by_index_length 16 (byte_of_digits hex)))))
          (pair_small _ _ (value_small (get_or hex (2 * i) 0) (each_at (2 * i) 0 (omega (arith, by_index_length 16 (byte_of_digits hex))))) (value_small (get_or hex (2 * i + 1) 0) (each_at (2 * i + 1) 0 (omega (arith, by_index_length 16 (byte_of_digits hex))))));
    } in
    subst IsId e ids

from_simple : (hex id : List ℕ) → length hex ≡ 32 → parsed_simple hex ≡ Some id → IsId id
from_simple hex id len e =
    let cases = cond_some ((nat_eq (length hex) 32) && list_all is_hex_digit hex) (by_index 16 (byte_of_digits hex)) id e in
    from_digits hex id len (second_so (nat_eq (length hex) 32) (list_all is_hex_digit hex) cases.0) cases.1

from_hyphenated : (s id : List ℕ) (b : Bool) → length s ≡ 36 → has_hyphens s ≡ b → parsed_hyphenated s ≡ Some id → IsId id
from_hyphenated s id true len hy e =
    let simple : parsed_hyphenated s ≡ parsed_simple (digits_of s) = rw (len, hy) refl in
    from_simple (digits_of s) id (by_index_length 32 (λ i. slice_index s (hyphen_place i))) (sym simple ∙ e)
from_hyphenated s id false len hy e =
    let fails : parsed_hyphenated s ≡ None = rw (len, hy) refl in
    let clash : None ≡ Some id = sym fails ∙ e in cc

parsed_at_36 : (s : List ℕ) → length s ≡ 36 → parsed s ≡ parsed_hyphenated s
parsed_at_36 s len = rw len refl

uuid_again : (here id rest q : List ℕ) → IsUuidAt here id rest → IsUuidAt (hyphenated_text lower id ++ q) id q
uuid_again here id rest q h =
    let w = h.whole in
    let len : length (take 36 here) ≡ 36 = omega (arith, length-take 36 here) in
    let is_id = from_hyphenated (take 36 here) id _ len refl (sym (parsed_at_36 (take 36 here) len) ∙ h.id_is) in
    let text = hyphenated_text lower id in
    let long : length text ≡ 36 = by_index_length 36 _ in
    record {
      whole = omega (arith, length-append text q);
      id_is = ap parsed (take_at text q 36 long) ∙ sym (parses_hyphenated lower id (inl refl) is_id.sixteen is_id.small);
      rest_is = sym (drop_at text q 36 long);
    }

-- ---- all kinds

-- behind a token of this kind, where what follows could carry it on, it doesn't
abbrev pub Apart : Kind → List ℕ → Type 0
Apart (kinds.Word word) q = starts is_name_octet q ≡ false
Apart (kinds.Name name) q = starts is_name_octet q ≡ false
Apart (kinds.Number value) q = starts is_name_octet q ≡ false
Apart _ q = Unit {0}

spells_again : (depth : ℕ) (here : List ℕ) (kind : Kind) (rest q : List ℕ) → HasText kind → Apart kind q → Spells depth here kind rest → Spells depth (token_text kind ++ q) kind q
spells_again depth here (kinds.Word word) rest q t apart h = name_again here (word_text word) rest q h apart
spells_again depth here (kinds.Name name) rest q t apart h = (name_again here name rest q h.0 apart, h.1)
spells_again depth here (kinds.Number (Some value)) rest q t apart h = number_again value q (number_fits (starts_with nat_eq here (codes "0x")) here value rest h) apart
spells_again depth here (kinds.Number None) rest q t apart h = absurd t
spells_again depth here (kinds.Text inside) rest q t apart h = string_again here inside rest q h
spells_again depth here (kinds.Uuid id) rest q t apart h = absurd h
spells_again depth here (kinds.Mark mark) rest q t apart h = refl
spells_again depth here (kinds.Open bracket level) rest q t apart h = (refl, h.1)
spells_again depth here (kinds.Shut bracket) rest q t apart h = refl
spells_again depth here kinds.End rest q t apart h = absurd h
spells_again depth here kinds.Bad rest q t apart h = absurd h

begins_by : (b : Bool) (depth : ℕ) (here : List ℕ) (kind : Kind) (rest q : List ℕ) → HasText kind → Apart kind q
    → MatchBool b ((id : List ℕ) × (kind ≡ kinds.Uuid id) × IsUuidAt here id rest) (Spells depth here kind rest)
    → MatchBool b ((id : List ℕ) × (kind ≡ kinds.Uuid id) × IsUuidAt (token_text kind ++ q) id q) (Spells depth (token_text kind ++ q) kind q)
begins_by true depth here kind rest q t apart h =
    (h.0, h.1, subst (λ k. IsUuidAt (token_text k ++ q) h.0 q) (sym h.1) (uuid_again here h.0 rest q h.2))
begins_by false depth here kind rest q t apart h = spells_again depth here kind rest q t apart h

pub begins_again : (before : List Kind) (here : List ℕ) (kind : Kind) (rest q : List ℕ) → HasText kind → Apart kind q → BeginsWith before here kind rest → BeginsWith before (token_text kind ++ q) kind q
begins_again before here kind rest q t apart h = begins_by (wants_uuid before) (depth_of before) here kind rest q t apart h
