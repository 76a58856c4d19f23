-- A text begins with at most one token.
use Rattle.std.proofs.Common.{◌≡◌, ℕ, suc, Bool, List, [], ◌∷◌, true, false, cond, eqb, drop, Option, Some, None, MatchBool, refl, sym, ap, ◌∙◌, arith, nat_eq}
use Rattle.std.specs.Prelude.{codes}
use Rattle.std.proofs.lemmas.Bool.{false≢true}
use Rattle.std.proofs.lemmas.Bool.Decides.{nat_tests}
use Rattle.std.specs.List.{starts_with}
use Rattle.std.specs.Char.{is_ascii_digit, is_digit}
use Rattle.std.specs.Str.Parse.{digits_value}
use Rattle.idl_tokens.specs.declared.words.Word.{Word}
use Rattle.idl_tokens.specs.declared.marks.Mark.{Mark}
use Rattle.idl_tokens.specs.declared.marks.Mark.TheVariants as marks
use Rattle.idl_tokens.specs.declared.marks.Bracket.{Bracket}
use Rattle.idl_tokens.specs.declared.marks.Bracket.TheVariants as brackets
use Rattle.idl_tokens.specs.declared.kinds.Kind.{Kind}
use Rattle.idl_tokens.specs.declared.kinds.Kind.TheVariants as kinds
use Rattle.idl_tokens.specs.Spellings.{mark_octet, open_octet, shut_octet, word_text}
use Rattle.idl_tokens.specs.Tokens.{front, behind, fitting, starts, is_letter, is_name_octet, is_string_octet, IsNumeralAt, IsNumberAt, IsNameAt, IsStringAt, IsUuidAt, Spells, BeginsWith, wants_uuid, depth_of}
use Rattle.idl_tokens.proofs.WordTexts.{word_of, word_of-word_text, word_of-none}
use Rattle.idl_tokens.proofs.FirstOctets.{no_number}

abbrev named_as : List ℕ → Option Word → Kind
named_as name (Some word) = kinds.Word word
named_as name None = kinds.Name name

abbrev named : List ℕ → Kind × List ℕ
named text = (named_as (front is_name_octet text) (word_of (front is_name_octet text)), behind is_name_octet text)

abbrev numeral : ℕ → List ℕ → Kind × List ℕ
numeral radix text = (kinds.Number (fitting (digits_value radix (front (λ c. is_digit c radix) text))), behind (λ c. is_digit c radix) text)

abbrev numbered : List ℕ → Kind × List ℕ
numbered text = cond (starts_with nat_eq text (codes "0x")) (numeral 16 (drop 2 text)) (numeral 10 text)

abbrev quoted : List ℕ → Kind × List ℕ
quoted after = (kinds.Text (front is_string_octet after), drop 1 (behind is_string_octet after))

abbrev signed : ℕ → ℕ → Kind
signed depth c =
    cond (eqb c 44) (kinds.Mark marks.Comma) (cond (eqb c 59) (kinds.Mark marks.Semicolon) (cond (eqb c 58) (kinds.Mark marks.Colon) (cond (eqb c 42) (kinds.Mark marks.Star)
    (cond (eqb c 61) (kinds.Mark marks.Equals) (cond (eqb c 45) (kinds.Mark marks.Minus) (cond (eqb c 46) (kinds.Mark marks.Dot)
    (cond (eqb c 91) (kinds.Open brackets.Square (suc depth)) (cond (eqb c 40) (kinds.Open brackets.Round (suc depth)) (cond (eqb c 123) (kinds.Open brackets.Curly (suc depth))
    (cond (eqb c 93) (kinds.Shut brackets.Square) (cond (eqb c 41) (kinds.Shut brackets.Round) (kinds.Shut brackets.Curly))))))))))))

-- what a text begins with, if it begins with a token
unfoldable lexed : ℕ → List ℕ → Kind × List ℕ
lexed depth [] = (kinds.Bad, [])
lexed depth (c ∷ cs) = cond (is_letter c) (named (c ∷ cs)) (cond (is_ascii_digit c) (numbered (c ∷ cs)) (cond (eqb c 34) (quoted cs) (signed depth c, cs)))

lexed-name : (depth : ℕ) (text : List ℕ) → starts is_letter text ≡ true → lexed depth text ≡ named text
unfolding lexed
lexed-name depth [] h = absurd (false≢true h)
lexed-name depth (c ∷ cs) h = rw h refl

digit_no_letter : (c : ℕ) → is_ascii_digit c ≡ true → is_letter c ≡ false
digit_no_letter c h = grind (arith, nat_tests)

lexed-digit : (depth c : ℕ) (cs : List ℕ) → is_ascii_digit c ≡ true → lexed depth (c ∷ cs) ≡ numbered (c ∷ cs)
unfolding lexed
lexed-digit depth c cs h = rw (digit_no_letter c h, h) refl

by_radix : (b : Bool) (text : List ℕ) (value : Option ℕ) (rest : List ℕ) → MatchBool b (IsNumeralAt 16 (drop 2 text) value rest) (IsNumeralAt 10 text value rest)
    → cond b (numeral 16 (drop 2 text)) (numeral 10 text) ≡ (kinds.Number value, rest)
by_radix true text value rest h = let e = h.value_is in let f = h.rest_is in cc
by_radix false text value rest h = let e = h.value_is in let f = h.rest_is in cc

pub first_digit : (c : ℕ) (cs : List ℕ) (value : Option ℕ) (rest : List ℕ) (b : Bool) → is_ascii_digit c ≡ b → IsNumberAt (c ∷ cs) value rest → b ≡ true
first_digit c cs value rest true e h = refl
first_digit c cs value rest false e h = absurd (no_number c cs value rest e h)

lexed-number : (depth : ℕ) (text : List ℕ) (value : Option ℕ) (rest : List ℕ) → IsNumberAt text value rest → lexed depth text ≡ (kinds.Number value, rest)
lexed-number depth [] value rest h = absurd (false≢true h.some)
lexed-number depth (c ∷ cs) value rest h = lexed-digit depth c cs (first_digit c cs value rest _ refl h) ∙ by_radix (starts_with nat_eq (c ∷ cs) (codes "0x")) (c ∷ cs) value rest h

lexed-quoted : (depth : ℕ) (cs : List ℕ) → lexed depth (34 ∷ cs) ≡ quoted cs
unfolding lexed
lexed-quoted depth cs = refl

lexed-string : (depth : ℕ) (text inside rest : List ℕ) → IsStringAt text inside rest → lexed depth text ≡ (kinds.Text inside, rest)
lexed-string depth text inside rest h =
    let e = h.inside_is in
    let f : drop 1 (behind is_string_octet h.after) ≡ rest = ap (drop 1) h.closed in
    ap (lexed depth) h.opened ∙ lexed-quoted depth h.after ∙ cc

lexed-mark : (depth : ℕ) (mark : Mark) (rest : List ℕ) → lexed depth (mark_octet mark ∷ rest) ≡ (kinds.Mark mark, rest)
unfolding lexed
lexed-mark depth marks.Comma rest = refl
lexed-mark depth marks.Semicolon rest = refl
lexed-mark depth marks.Colon rest = refl
lexed-mark depth marks.Star rest = refl
lexed-mark depth marks.Equals rest = refl
lexed-mark depth marks.Minus rest = refl
lexed-mark depth marks.Dot rest = refl

lexed-open : (depth : ℕ) (bracket : Bracket) (rest : List ℕ) → lexed depth (open_octet bracket ∷ rest) ≡ (kinds.Open bracket (suc depth), rest)
unfolding lexed
lexed-open depth brackets.Square rest = refl
lexed-open depth brackets.Round rest = refl
lexed-open depth brackets.Curly rest = refl

lexed-shut : (depth : ℕ) (bracket : Bracket) (rest : List ℕ) → lexed depth (shut_octet bracket ∷ rest) ≡ (kinds.Shut bracket, rest)
unfolding lexed
lexed-shut depth brackets.Square rest = refl
lexed-shut depth brackets.Round rest = refl
lexed-shut depth brackets.Curly rest = refl

named-is : (depth : ℕ) (text name rest : List ℕ) (word : Option Word) → IsNameAt text name rest → word_of name ≡ word → lexed depth text ≡ (named_as name word, rest)
named-is depth text name rest word h w =
    let e = h.name_is in let f = h.rest_is in
    let g : named text ≡ (named_as name (word_of name), rest) = cc in
    lexed-name depth text h.first ∙ g ∙ ap (λ (v : Option Word). (named_as name v, rest)) w

lexed-is : (depth : ℕ) (text : List ℕ) (kind : Kind) (rest : List ℕ) → Spells depth text kind rest → lexed depth text ≡ (kind, rest)
lexed-is depth text (kinds.Word word) rest h = named-is depth text (word_text word) rest (Some word) h (word_of-word_text word)
lexed-is depth text (kinds.Name name) rest h = named-is depth text name rest None h.0 (word_of-none name h.1)
lexed-is depth text (kinds.Number value) rest h = lexed-number depth text value rest h
lexed-is depth text (kinds.Text inside) rest h = lexed-string depth text inside rest h
lexed-is depth text (kinds.Uuid id) rest h = absurd h
lexed-is depth text (kinds.Mark mark) rest h = ap (lexed depth) h ∙ lexed-mark depth mark rest
lexed-is depth text (kinds.Open bracket level) rest h = let e = h.1 in ap (lexed depth) h.0 ∙ lexed-open depth bracket rest ∙ cc
lexed-is depth text (kinds.Shut bracket) rest h = ap (lexed depth) h ∙ lexed-shut depth bracket rest
lexed-is depth text kinds.End rest h = absurd h
lexed-is depth text kinds.Bad rest h = absurd h

begins_by : (b : Bool) (depth : ℕ) (text : List ℕ) (k l : Kind) (r s : List ℕ)
    → MatchBool b ((id : List ℕ) × (k ≡ kinds.Uuid id) × IsUuidAt text id r) (Spells depth text k r)
    → MatchBool b ((id : List ℕ) × (l ≡ kinds.Uuid id) × IsUuidAt text id s) (Spells depth text l s)
    → (k ≡ l) × (r ≡ s)
begins_by true depth text k l r s g h =
    let a = g.1 in let b = g.2.id_is in let d = g.2.rest_is in
    let a' = h.1 in let b' = h.2.id_is in let d' = h.2.rest_is in (cc, cc)
begins_by false depth text k l r s g h =
    let e : ◌≡◌ {A = Kind × List ℕ} (k, r) (l, s) = sym (lexed-is depth text k r g) ∙ lexed-is depth text l s h in (ap (λ p. p.0) e, ap (λ p. p.1) e)

pub begins_once : (before : List Kind) (text : List ℕ) (k l : Kind) (r s : List ℕ) → BeginsWith before text k r → BeginsWith before text l s → (k ≡ l) × (r ≡ s)
begins_once before text k l r s g h = begins_by (wants_uuid before) (depth_of before) text k l r s g h
