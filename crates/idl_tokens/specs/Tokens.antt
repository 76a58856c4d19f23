-- The tokens of a text (C706, "Interface Definition Language").
use Rattle.std.specs.Prelude.{◌≡◌, ◌≢◌, ℕ, suc, ◌+◌, ◌-◌, ◌^◌, ◌<◌, ◌≤◌, ◌==◌, Bool, true, false, not, ◌&&◌, ◌||◌, MatchBool, List, [], ◌∷◌, ◌++◌, length, take, drop, codes, nat_eq, nat_lt, Option, Some, None, if◌then◌else◌}
use Rattle.std.specs.List.{starts_with, take_while, prefix_len}
use Rattle.std.specs.Char.{is_ascii_alphabetic, is_ascii_alphanumeric, is_ascii_graphic, is_digit}
use Rattle.std.specs.Str.Parse.{digits_value}
use Rattle.uuid.specs.Text.{parsed}
use Rattle.idl_tokens.specs.declared.words.Word.{Word}
use Rattle.idl_tokens.specs.declared.words.Word.TheVariants as words
use Rattle.idl_tokens.specs.declared.marks.Bracket.TheVariants as brackets
use Rattle.idl_tokens.specs.declared.kinds.Kind.{Kind}
use Rattle.idl_tokens.specs.declared.kinds.Kind.TheVariants as kinds
use Rattle.idl_tokens.specs.declared.kinds.Token.{Token}
use Rattle.idl_tokens.specs.Spellings.{word_text, mark_octet, open_octet, shut_octet}

-- Octets. A letter is one of A to Z, a to z and `_`; printable ASCII is 32 to 126.

abbrev pub is_letter : ℕ → Bool
is_letter c = is_ascii_alphabetic c || c == 95

abbrev pub is_name_octet : ℕ → Bool
is_name_octet c = is_ascii_alphanumeric c || c == 95

-- printable ASCII without `"` and `\`
abbrev pub is_string_octet : ℕ → Bool
is_string_octet c = (is_ascii_graphic c || c == 32) && not (c == 34) && not (c == 92)

-- space, tab, line feed and carriage return
abbrev pub is_blank : ℕ → Bool
is_blank c = c == 32 || c == 9 || c == 10 || c == 13

abbrev pub is_in_line : ℕ → Bool
is_in_line c = not (c == 10)

-- The front of a text as far as its octets pass, and what is behind it.

abbrev pub front : (ℕ → Bool) → List ℕ → List ℕ
front p text = take_while p text

abbrev pub behind : (ℕ → Bool) → List ℕ → List ℕ
behind p text = drop (prefix_len p text) text

-- does the text begin with an octet that passes?
abbrev pub starts : (ℕ → Bool) → List ℕ → Bool
starts p [] = false
starts p (c ∷ cs) = p c

-- what is behind the first `*/`
abbrev pub after_comment : List ℕ → Option (List ℕ)
after_comment [] = None
after_comment (c ∷ cs) = if starts_with nat_eq (c ∷ cs) (codes "*/") then Some (drop 1 cs) else after_comment cs

-- The text begins with a separator, and then comes the rest: a blank, a comment up to the first `*/`, or one up to the
-- end of its line.
pub data Separates (text rest : List ℕ) : Type 0 where
  blank : (c : ℕ) → is_blank c ≡ true → text ≡ c ∷ rest → Separates text rest
  block : (inside : List ℕ) → text ≡ codes "/*" ++ inside → after_comment inside ≡ Some rest → Separates text rest
  line : (inside : List ℕ) → text ≡ codes "//" ++ inside → behind is_in_line inside ≡ rest → Separates text rest

-- Any number of separators, and then the rest.
pub data Gap (rest : List ℕ) : List ℕ → Type 0 where
  none : Gap rest rest
  more : {text mid : List ℕ} → Separates text mid → Gap rest mid → Gap rest text

-- a number, where it fits 64 bits
abbrev pub fitting : ℕ → Option ℕ
fitting n = if nat_lt n (2 ^ 64) then Some n else None

-- The text begins with digits, which stand for the value, and then comes the rest.
pub record IsNumeralAt (radix : ℕ) (text : List ℕ) (value : Option ℕ) (rest : List ℕ) : Type 0 where
  pub some : starts (λ c. is_digit c radix) text ≡ true
  pub value_is : value ≡ fitting (digits_value radix (front (λ c. is_digit c radix) text))
  pub rest_is : rest ≡ behind (λ c. is_digit c radix) text

-- A text that begins with `0x` begins with no decimal number.
abbrev pub IsNumberAt : List ℕ → Option ℕ → List ℕ → Type 0
IsNumberAt text value rest = MatchBool (starts_with nat_eq text (codes "0x")) (IsNumeralAt 16 (drop 2 text) value rest) (IsNumeralAt 10 text value rest)

-- a letter, and the letters and digits behind it
pub record IsNameAt (text name rest : List ℕ) : Type 0 where
  pub first : starts is_letter text ≡ true
  pub name_is : name ≡ front is_name_octet text
  pub rest_is : rest ≡ behind is_name_octet text

-- a string between its quotes
pub record IsStringAt (text inside rest : List ℕ) : Type 0 where
  pub after : List ℕ
  pub opened : text ≡ codes "\"" ++ after
  pub inside_is : inside ≡ front is_string_octet after
  pub closed : behind is_string_octet after ≡ codes "\"" ++ rest

-- 36 octets that are a UUID's text, its letters in either case
pub record IsUuidAt (text : List ℕ) (id : List ℕ) (rest : List ℕ) : Type 0 where
  pub whole : 36 ≤ length text
  pub id_is : parsed (take 36 text) ≡ Some id
  pub rest_is : rest ≡ drop 36 text

-- Where so many brackets are open, the text begins with a token of this kind, and then comes the rest.
abbrev pub Spells : ℕ → List ℕ → Kind → List ℕ → Type 0
Spells depth text (kinds.Word word) rest = IsNameAt text (word_text word) rest
Spells depth text (kinds.Name name) rest = IsNameAt text name rest × ((word : Word) → name ≢ word_text word)
Spells depth text (kinds.Number value) rest = IsNumberAt text value rest
Spells depth text (kinds.Text inside) rest = IsStringAt text inside rest
Spells depth text (kinds.Uuid id) rest = ⊥
Spells depth text (kinds.Mark mark) rest = text ≡ mark_octet mark ∷ rest
Spells depth text (kinds.Open bracket level) rest = (text ≡ open_octet bracket ∷ rest) × (level ≡ suc depth)
Spells depth text (kinds.Shut bracket) rest = text ≡ shut_octet bracket ∷ rest
Spells depth text kinds.End rest = ⊥
Spells depth text kinds.Bad rest = ⊥

-- how many brackets are open behind a token, if so many were before it
abbrev pub depth_behind : Kind → ℕ → ℕ
depth_behind (kinds.Open bracket level) depth = suc depth
depth_behind (kinds.Shut bracket) depth = depth - 1
depth_behind _ depth = depth

-- and behind tokens of these kinds, the last one first
abbrev pub depth_of : List Kind → ℕ
depth_of [] = 0
depth_of (kind ∷ before) = depth_behind kind (depth_of before)

abbrev pub is_uuid_word : Kind → Bool
is_uuid_word (kinds.Word words.Uuid) = true
is_uuid_word _ = false

abbrev pub opens_round : Kind → Bool
opens_round (kinds.Open brackets.Round level) = true
opens_round _ = false

-- are the last two tokens `uuid` and `(`?
abbrev pub wants_uuid : List Kind → Bool
wants_uuid [] = false
wants_uuid (kind ∷ []) = false
wants_uuid (kind ∷ earlier ∷ before) = opens_round kind && is_uuid_word earlier

-- Behind tokens of these kinds, the last one first, the text begins with a token of this kind, and then comes the rest.
-- Behind `uuid` and `(` that is a UUID alone.
abbrev pub BeginsWith : List Kind → List ℕ → Kind → List ℕ → Type 0
BeginsWith before text kind rest = MatchBool (wants_uuid before) ((id : List ℕ) × (kind ≡ kinds.Uuid id) × IsUuidAt text id rest) (Spells (depth_of before) text kind rest)

-- Behind tokens of these kinds the text begins with none.
abbrev pub BeginsNone : List Kind → List ℕ → Type 0
BeginsNone before text = (kind : Kind) (rest : List ℕ) → BeginsWith before text kind rest → ⊥

-- Here begins neither a separator nor a token, though the text goes on: an octet that begins none, or one that is unfinished.
pub record IsBadAt (before : List Kind) (text : List ℕ) : Type 0 where
  pub goes_on : 0 < length text
  pub no_separator : (rest : List ℕ) → Separates text rest → ⊥
  pub no_token : BeginsNone before text

-- Behind tokens of these kinds the text has these tokens. Each stands behind a gap; what is left of the text from the
-- token on tells its place, since the whole text has `total` octets. The last one is the end, or what is no token.
pub data Cut (total : ℕ) : List Kind → List ℕ → List Token → Type 0 where
  end : {before : List Kind} {text : List ℕ} (t : Token)
      → Gap [] text → t.at ≡ total → t.kind ≡ kinds.End → Cut total before text (t ∷ [])
  bad : {before : List Kind} {text here : List ℕ} (t : Token)
      → Gap here text → t.at + length here ≡ total → t.kind ≡ kinds.Bad → IsBadAt before here → Cut total before text (t ∷ [])
  next : {before : List Kind} {text here rest : List ℕ} {ts : List Token} (t : Token)
      → Gap here text → t.at + length here ≡ total → BeginsWith before here t.kind rest → Cut total (t.kind ∷ before) rest ts → Cut total before text (t ∷ ts)

-- The text has these tokens.
abbrev pub AreTokens : List ℕ → List Token → Type 0
AreTokens text tokens = Cut (length text) [] text tokens
