-- What is behind a gap or a token is shorter.
use Rattle.std.proofs.Common.{◌≡◌, ℕ, ◌+◌, ◌<◌, ◌≤◌, Bool, List, [], ◌∷◌, true, false, cond, length, drop, Option, Some, MatchBool, ap, arith, nat_eq, length-drop}
use Rattle.std.specs.Prelude.{codes}
use Rattle.std.proofs.lemmas.Bool.{false≢true}
use Rattle.std.proofs.lemmas.Bool.Decides.{nat_tests}
use Rattle.std.specs.List.{prefix_len, starts_with}
use Rattle.idl_tokens.specs.declared.kinds.Kind.{Kind}
use Rattle.idl_tokens.specs.declared.kinds.Kind.TheVariants as kinds
use Rattle.idl_tokens.specs.Spellings.{word_text}
use Rattle.idl_tokens.specs.Tokens.{Separates, Gap, after_comment, behind, starts, is_letter, is_name_octet, is_string_octet, is_in_line, IsNumeralAt, IsNameAt, IsStringAt, IsUuidAt, Spells, BeginsWith, wants_uuid, depth_of}
use Rattle.idl_tokens.specs.Tokens.Separates.{blank, block, line}
use Rattle.idl_tokens.specs.Tokens.Gap.{none, more}

pub behind-le : (p : ℕ → Bool) (text : List ℕ) → length (behind p text) ≤ length text
behind-le p text = omega (arith, length-drop (prefix_len p text) text)

after_drop : (n : ℕ) (c : ℕ) (cs : List ℕ) (b : Bool) → b ≡ true → length (drop (cond b (1 + n) 0) (c ∷ cs)) < length (c ∷ cs)
after_drop n c cs true e = omega (arith, length-drop (1 + n) (c ∷ cs))
after_drop n c cs false e = absurd (false≢true e)

pub behind-lt : (p : ℕ → Bool) (text : List ℕ) → starts p text ≡ true → length (behind p text) < length text
behind-lt p [] h = absurd (false≢true h)
behind-lt p (c ∷ cs) h = after_drop (prefix_len p cs) c cs (p c) h

starts-more : (p q : ℕ → Bool) → ((c : ℕ) → p c ≡ true → q c ≡ true) → (text : List ℕ) → starts p text ≡ true → starts q text ≡ true
starts-more p q h [] e = absurd (false≢true e)
starts-more p q h (c ∷ cs) e = h c e

pub letters_in_names : (c : ℕ) → is_letter c ≡ true → is_name_octet c ≡ true
letters_in_names c h = grind (arith, nat_tests)

name-lt : (text name rest : List ℕ) → IsNameAt text name rest → length rest < length text
name-lt text name rest h = let e = ap length h.rest_is in omega (arith, behind-lt is_name_octet text (starts-more is_letter is_name_octet letters_in_names text h.first))

numeral-lt : (radix : ℕ) (text : List ℕ) (value : Option ℕ) (rest : List ℕ) → IsNumeralAt radix text value rest → length rest < length text
numeral-lt radix text value rest h = let e = ap length h.rest_is in omega (arith, behind-lt _ text h.some)

number-lt : (b : Bool) (text : List ℕ) (value : Option ℕ) (rest : List ℕ) → MatchBool b (IsNumeralAt 16 (drop 2 text) value rest) (IsNumeralAt 10 text value rest) → length rest < length text
number-lt true text value rest h = omega (arith, numeral-lt 16 (drop 2 text) value rest h, length-drop 2 text)
number-lt false text value rest h = numeral-lt 10 text value rest h

string-lt : (text inside rest : List ℕ) → IsStringAt text inside rest → length rest < length text
string-lt text inside rest h = let e = ap length h.opened in let f = ap length h.closed in omega (arith, behind-le is_string_octet h.after)

octet-lt : {c : ℕ} {text rest : List ℕ} → text ≡ c ∷ rest → length rest < length text
octet-lt e = let f = ap length e in omega arith

spells-lt : (depth : ℕ) (text : List ℕ) (kind : Kind) (rest : List ℕ) → Spells depth text kind rest → length rest < length text
spells-lt depth text (kinds.Word word) rest h = name-lt text (word_text word) rest h
spells-lt depth text (kinds.Name name) rest h = name-lt text name rest h.0
spells-lt depth text (kinds.Number value) rest h = number-lt (starts_with nat_eq text (codes "0x")) text value rest h
spells-lt depth text (kinds.Text inside) rest h = string-lt text inside rest h
spells-lt depth text (kinds.Uuid id) rest h = absurd h
spells-lt depth text (kinds.Mark mark) rest h = octet-lt h
spells-lt depth text (kinds.Open bracket level) rest h = octet-lt h.0
spells-lt depth text (kinds.Shut bracket) rest h = octet-lt h
spells-lt depth text kinds.End rest h = absurd h
spells-lt depth text kinds.Bad rest h = absurd h

uuid-lt : (text id rest : List ℕ) → IsUuidAt text id rest → length rest < length text
uuid-lt text id rest h = let e = ap length h.rest_is in let w = h.whole in omega (arith, length-drop 36 text)

begins-lt : (b : Bool) (depth : ℕ) (text : List ℕ) (kind : Kind) (rest : List ℕ) → MatchBool b ((id : List ℕ) × (kind ≡ kinds.Uuid id) × IsUuidAt text id rest) (Spells depth text kind rest) → length rest < length text
begins-lt true depth text kind rest h = uuid-lt text h.0 rest h.2
begins-lt false depth text kind rest h = spells-lt depth text kind rest h

pub BeginsWith-lt : (before : List Kind) (text : List ℕ) (kind : Kind) (rest : List ℕ) → BeginsWith before text kind rest → length rest < length text
BeginsWith-lt before text kind rest h = begins-lt (wants_uuid before) (depth_of before) text kind rest h

cut_or_on : (c : ℕ) (cs rest : List ℕ) (b : Bool) → (after_comment cs ≡ Some rest → length rest ≤ length cs)
    → cond b (Some (drop 1 cs)) (after_comment cs) ≡ Some rest → length rest ≤ length (c ∷ cs)
cut_or_on c cs rest true ih e = let same : drop 1 cs ≡ rest = cc in omega (arith, ap length same, length-drop 1 cs)
cut_or_on c cs rest false ih e = omega (arith, ih e)

after_comment-le : (inside rest : List ℕ) → after_comment inside ≡ Some rest → length rest ≤ length inside
after_comment-le [] rest h = cc
after_comment-le (c ∷ cs) rest h = cut_or_on c cs rest (starts_with nat_eq (c ∷ cs) (codes "*/")) (after_comment-le cs rest) h

pub separates-lt : (text rest : List ℕ) → Separates text rest → length rest < length text
separates-lt text rest (blank c test cut) = octet-lt cut
separates-lt text rest (block inside cut ends) = let e = ap length cut in omega (arith, after_comment-le inside rest ends)
separates-lt text rest (line inside cut ends) = let e = ap length cut in let f = ap length ends in omega (arith, behind-le is_in_line inside)

pub gap-le : {here text : List ℕ} → Gap here text → length here ≤ length text
gap-le none = omega arith
gap-le (more s g) = omega (arith, separates-lt _ _ s, gap-le g)
