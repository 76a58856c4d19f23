-- A text is cut in one way.
use Rattle.std.proofs.Common.{◌≡◌, ℕ, Bool, ◌||◌, List, [], ◌∷◌, true, false, eqb, length, length-take, get_or, take, Some, None, MatchBool, refl, sym, ap, ◌∙◌, subst, arith}
use Rattle.std.specs.Prelude.{slice_index}
use Rattle.std.proofs.lemmas.Bool.{false≢true}
use Rattle.std.proofs.lemmas.Bool.Decides.{nat_tests}
use Rattle.std.specs.Char.{is_ascii_digit}
use Rattle.uuid.specs.Text.{parsed, parsed_hyphenated, parsed_simple, digits_of, has_hyphens, is_hex_digit, hex_digit_value, hyphen_place}
use Rattle.uuid.proofs.TextLemmas.{by_index_at, by_index_length, simple_none, hyphens_pass}
use Rattle.idl_tokens.specs.declared.marks.Mark.{Mark}
use Rattle.idl_tokens.specs.declared.marks.Mark.TheVariants as marks
use Rattle.idl_tokens.specs.declared.marks.Bracket.{Bracket}
use Rattle.idl_tokens.specs.declared.marks.Bracket.TheVariants as brackets
use Rattle.idl_tokens.specs.declared.kinds.Kind.{Kind}
use Rattle.idl_tokens.specs.declared.kinds.Kind.TheVariants as kinds
use Rattle.idl_tokens.specs.declared.kinds.Token.{Token}
use Rattle.idl_tokens.specs.Spellings.{mark_octet, open_octet, shut_octet}
use Rattle.idl_tokens.specs.Tokens.{Separates, Gap, after_comment, is_blank, behind, is_in_line, is_letter, IsUuidAt, Spells, BeginsWith, Cut, wants_uuid, depth_of}
use Rattle.idl_tokens.specs.Tokens.Separates.{blank, block, line}
use Rattle.idl_tokens.specs.Tokens.Gap.{none, more}
use Rattle.idl_tokens.specs.Tokens.Cut.{end, bad, next}
use Rattle.idl_tokens.proofs.Lexed.{begins_once, first_digit}
use Rattle.idl_tokens.proofs.Shorter.{separates-lt, BeginsWith-lt}

no_blank : (c : ℕ) → c ≡ 47 → is_blank c ≡ true → ⊥
no_blank c e h = false≢true (ap is_blank (sym e) ∙ h)

no_two : ◌≡◌ {A = ℕ} 42 47 → ⊥
no_two e = absurd (omega arith)

separates_once : (text a b : List ℕ) → Separates text a → Separates text b → a ≡ b
separates_once text a b (blank c test cut) (blank c' test' cut') = cc
separates_once text a b (blank c test cut) (block inside cut' ends) = absurd (no_blank c (cc) test)
separates_once text a b (blank c test cut) (line inside cut' ends) = absurd (no_blank c (cc) test)
separates_once text a b (block inside cut ends) (blank c' test' cut') = absurd (no_blank c' (cc) test')
separates_once text a b (block inside cut ends) (block inside' cut' ends') =
    let same : inside ≡ inside' = cc in
    let e : Some a ≡ Some b = sym ends ∙ ap after_comment same ∙ ends' in cc
separates_once text a b (block inside cut ends) (line inside' cut' ends') = absurd (no_two (cc))
separates_once text a b (line inside cut ends) (blank c' test' cut') = absurd (no_blank c' (cc) test')
separates_once text a b (line inside cut ends) (block inside' cut' ends') = absurd (no_two (cc))
separates_once text a b (line inside cut ends) (line inside' cut' ends') =
    let same : inside ≡ inside' = cc in sym ends ∙ ap (behind is_in_line) same ∙ ends'

abbrev is_separator : ℕ → Bool
is_separator c = is_blank c || eqb c 47

or_second : (b : Bool) → (b || true) ≡ true
or_second true = refl
or_second false = refl

separator_first : (c : ℕ) (cs rest : List ℕ) → Separates (c ∷ cs) rest → is_separator c ≡ true
separator_first c cs rest (blank d test cut) = let same : d ≡ c = cc in rw (ap is_blank (sym same) ∙ test) refl
separator_first c cs rest (block inside cut ends) = let same : 47 ≡ c = cc in ap is_separator (sym same)
separator_first c cs rest (line inside cut ends) = let same : 47 ≡ c = cc in ap is_separator (sym same)

letter_apart : (c : ℕ) → is_letter c ≡ true → is_separator c ≡ false
letter_apart c h = grind (arith, nat_tests)

digit_apart : (c : ℕ) → is_ascii_digit c ≡ true → is_separator c ≡ false
digit_apart c h = grind (arith, nat_tests)

hex_apart : (c : ℕ) → is_hex_digit c ≡ true → is_separator c ≡ false
hex_apart c h = grind (arith, nat_tests)

mark_apart : (m : Mark) → is_separator (mark_octet m) ≡ false
mark_apart marks.Comma = refl
mark_apart marks.Semicolon = refl
mark_apart marks.Colon = refl
mark_apart marks.Star = refl
mark_apart marks.Equals = refl
mark_apart marks.Minus = refl
mark_apart marks.Dot = refl

open_apart : (b : Bracket) → is_separator (open_octet b) ≡ false
open_apart brackets.Square = refl
open_apart brackets.Round = refl
open_apart brackets.Curly = refl

shut_apart : (b : Bracket) → is_separator (shut_octet b) ≡ false
shut_apart brackets.Square = refl
shut_apart brackets.Round = refl
shut_apart brackets.Curly = refl

spells_apart : (depth c : ℕ) (cs : List ℕ) (kind : Kind) (rest : List ℕ) → Spells depth (c ∷ cs) kind rest → is_separator c ≡ false
spells_apart depth c cs (kinds.Word word) rest h = letter_apart c h.first
spells_apart depth c cs (kinds.Name name) rest h = letter_apart c h.0.first
spells_apart depth c cs (kinds.Number value) rest h = digit_apart c (first_digit c cs value rest _ refl h)
spells_apart depth c cs (kinds.Text inside) rest h = let e = h.opened in let same : c ≡ 34 = cc in ap is_separator same
spells_apart depth c cs (kinds.Uuid id) rest h = absurd h
spells_apart depth c cs (kinds.Mark mark) rest h = let same : c ≡ mark_octet mark = cc in ap is_separator same ∙ mark_apart mark
spells_apart depth c cs (kinds.Open bracket level) rest h = let e = h.0 in let same : c ≡ open_octet bracket = cc in ap is_separator same ∙ open_apart bracket
spells_apart depth c cs (kinds.Shut bracket) rest h = let same : c ≡ shut_octet bracket = cc in ap is_separator same ∙ shut_apart bracket
spells_apart depth c cs kinds.End rest h = absurd h
spells_apart depth c cs kinds.Bad rest h = absurd h

-- a UUID's text begins with a hexadecimal digit
hyphenated_first : (s id : List ℕ) (b h : Bool) → length s ≡ 36 → is_hex_digit (slice_index s 0) ≡ b → has_hyphens s ≡ h → parsed_hyphenated s ≡ Some id → b ≡ true
hyphenated_first s id true h len e hy p = refl
hyphenated_first s id false true len e hy p =
    let digit : get_or (digits_of s) 0 0 ≡ slice_index s 0 = by_index_at 32 (λ i. slice_index s (hyphen_place i)) 0 0 (omega arith) in
    let value : hex_digit_value (get_or (digits_of s) 0 0) ≡ None = ap hex_digit_value digit ∙ rw e refl in
    let fails : None ≡ parsed_simple (digits_of s) = simple_none (digits_of s) 0 (omega (arith, by_index_length 32 (λ i. slice_index s (hyphen_place i)))) value in
    let clash : None ≡ Some id = fails ∙ hyphens_pass s len hy ∙ p in cc
hyphenated_first s id false false len e hy p =
    let fails : parsed_hyphenated s ≡ None = rw (len, hy) refl in
    let clash : None ≡ Some id = sym fails ∙ p in cc

parsed_at_36 : (s : List ℕ) → length s ≡ 36 → parsed s ≡ parsed_hyphenated s
parsed_at_36 s len = rw len refl

uuid_apart : (c : ℕ) (cs id rest : List ℕ) → IsUuidAt (c ∷ cs) id rest → is_separator c ≡ false
uuid_apart c cs id rest h =
    let w = h.whole in
    let len : length (take 36 (c ∷ cs)) ≡ 36 = omega (arith, length-take 36 (c ∷ cs)) in
    hex_apart c (hyphenated_first (take 36 (c ∷ cs)) id (is_hex_digit c) _ len refl refl (sym (parsed_at_36 (take 36 (c ∷ cs)) len) ∙ h.id_is))

begins_apart : (b : Bool) (depth c : ℕ) (cs : List ℕ) (kind : Kind) (rest : List ℕ)
    → MatchBool b ((id : List ℕ) × (kind ≡ kinds.Uuid id) × IsUuidAt (c ∷ cs) id rest) (Spells depth (c ∷ cs) kind rest) → is_separator c ≡ false
begins_apart true depth c cs kind rest h = uuid_apart c cs h.0 rest h.2
begins_apart false depth c cs kind rest h = spells_apart depth c cs kind rest h

-- where a token begins, no separator does
pub no_separator : (before : List Kind) (text : List ℕ) (kind : Kind) (rest other : List ℕ) → BeginsWith before text kind rest → Separates text other → ⊥
no_separator before [] kind rest other h s = absurd (omega (arith, separates-lt [] other s))
no_separator before (c ∷ cs) kind rest other h s =
    false≢true (sym (begins_apart (wants_uuid before) (depth_of before) c cs kind rest h) ∙ separator_first c cs other s)

gap_once : {a b text : List ℕ} → Gap a text → Gap b text → ((rest : List ℕ) → Separates a rest → ⊥) → ((rest : List ℕ) → Separates b rest → ⊥) → a ≡ b
gap_once none none no_a no_b = refl
gap_once none (more s g) no_a no_b = absurd (no_a _ s)
gap_once (more s g) none no_a no_b = absurd (no_b _ s)
gap_once {b = b} (more s g) (more s' g') no_a no_b = gap_once g (subst (Gap b) (separates_once _ _ _ s' s) g') no_a no_b

no_empty : (rest : List ℕ) → Separates [] rest → ⊥
no_empty rest s = absurd (omega (arith, separates-lt [] rest s))

same_token : (t u : Token) → t.at ≡ u.at → t.kind ≡ u.kind → t ≡ u
same_token t u e f = ap (λ (p : ℕ × Kind). record { at = p.0; kind = p.1 }) (let both : ◌≡◌ {A = ℕ × Kind} (t.at, t.kind) (u.at, u.kind) = cc in both)

pub cut_once : {total : ℕ} {before : List Kind} {text : List ℕ} {ts us : List Token} → Cut total before text ts → Cut total before text us → ts ≡ us
cut_once (end t g at is) (end u h at' is') = ap (λ x. x ∷ []) (same_token t u (at ∙ sym at') (is ∙ sym is'))
cut_once (end t g at is) (bad {here = here} u h at' is' stuck) = let e : [] ≡ here = gap_once g h no_empty stuck.no_separator in absurd (omega (arith, ap length e, stuck.goes_on))
cut_once {before = before} (end t g at is) (next {here = here} {rest = rest} u h at' begins cut) =
    let e : [] ≡ here = gap_once g h no_empty (λ other. no_separator before here u.kind rest other begins) in
    absurd (omega (arith, ap length e, BeginsWith-lt before here u.kind rest begins))
cut_once (bad {here = here} t g at is stuck) (end u h at' is') = let e : here ≡ [] = gap_once g h stuck.no_separator no_empty in absurd (omega (arith, ap length e, stuck.goes_on))
cut_once (bad {here = a} t g at is stuck) (bad {here = b} u h at' is' stuck') =
    let e : a ≡ b = gap_once g h stuck.no_separator stuck'.no_separator in
    ap (λ x. x ∷ []) (same_token t u (omega (arith, ap length e)) (is ∙ sym is'))
cut_once {before = before} (bad {here = a} t g at is stuck) (next {here = b} {rest = rest} u h at' begins cut) =
    let e : a ≡ b = gap_once g h stuck.no_separator (λ other. no_separator before b u.kind rest other begins) in
    absurd (stuck.no_token u.kind rest (subst (λ here. BeginsWith before here u.kind rest) (sym e) begins))
cut_once {before = before} (next {here = here} {rest = rest} t g at begins cut) (end u h at' is') =
    let e : here ≡ [] = gap_once g h (λ other. no_separator before here t.kind rest other begins) no_empty in
    absurd (omega (arith, ap length e, BeginsWith-lt before here t.kind rest begins))
cut_once {before = before} (next {here = a} {rest = rest} t g at begins cut) (bad {here = b} u h at' is' stuck) =
    let e : a ≡ b = gap_once g h (λ other. no_separator before a t.kind rest other begins) stuck.no_separator in
    absurd (stuck.no_token t.kind rest (subst (λ here. BeginsWith before here t.kind rest) e begins))
cut_once {total} {before = before} (next {here = a} {rest = r} {ts = ts} t g at begins cut) (next {here = b} {rest = s} {ts = us} u h at' begins' cut') =
    let e : a ≡ b = gap_once g h (λ other. no_separator before a t.kind r other begins) (λ other. no_separator before b u.kind s other begins') in
    let same = begins_once before a t.kind u.kind r s begins (subst (λ here. BeginsWith before here u.kind s) (sym e) begins') in
    let token : t ≡ u = same_token t u (omega (arith, ap length e)) same.0 in
    let back : Cut total (t.kind ∷ before) r us = subst (λ kind. Cut total (kind ∷ before) r us) (sym same.0) (subst (λ rest. Cut total (u.kind ∷ before) rest us) (sym same.1) cut') in
    let rest : ts ≡ us = cut_once cut back in cc
