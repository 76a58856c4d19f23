-- The canonical text of tokens.
use Rattle.std.specs.Prelude.{ℕ, ◌-◌, Bool, true, false, List, [], ◌∷◌, ◌++◌, length, take, map, codes, Option, Some, None, if◌then◌else◌}
use Rattle.std.specs.Fmt.{decimal}
use Rattle.uuid.specs.Text.{hyphenated_text, lower}
use Rattle.idl_tokens.specs.declared.words.Word.TheVariants as words
use Rattle.idl_tokens.specs.declared.marks.Mark.TheVariants as marks
use Rattle.idl_tokens.specs.declared.marks.Bracket.TheVariants as brackets
use Rattle.idl_tokens.specs.declared.kinds.Kind.{Kind}
use Rattle.idl_tokens.specs.declared.kinds.Kind.TheVariants as kinds
use Rattle.idl_tokens.specs.declared.kinds.Token.{Token}
use Rattle.idl_tokens.specs.Spellings.{word_text, mark_octet, open_octet, shut_octet}
use Rattle.idl_print.specs.declared.sorts.Sort.{Sort}
use Rattle.idl_print.specs.declared.sorts.Sort.TheVariants as sorts

-- A token's canonical spelling: numbers are decimal, UUIDs lower case. A number that doesn't fit 64 bits and what is no
-- token have none.
abbrev pub token_text : Kind → List ℕ
token_text (kinds.Word word) = word_text word
token_text (kinds.Name name) = name
token_text (kinds.Number (Some value)) = decimal value
token_text (kinds.Number None) = []
token_text (kinds.Text inside) = codes "\"" ++ (inside ++ codes "\"")
token_text (kinds.Uuid id) = hyphenated_text lower id
token_text (kinds.Mark mark) = mark_octet mark ∷ []
token_text (kinds.Open bracket level) = open_octet bracket ∷ []
token_text (kinds.Shut bracket) = shut_octet bracket ∷ []
token_text kinds.End = []
token_text kinds.Bad = []

abbrev pub sort_of : Kind → Sort
sort_of (kinds.Word word) = sorts.Word word
sort_of (kinds.Name name) = sorts.Name
sort_of (kinds.Number value) = sorts.Number
sort_of (kinds.Text inside) = sorts.Text
sort_of (kinds.Uuid id) = sorts.Uuid
sort_of (kinds.Mark mark) = sorts.Mark mark
sort_of (kinds.Open bracket level) = sorts.Open bracket
sort_of (kinds.Shut bracket) = sorts.Shut bracket
sort_of kinds.End = sorts.End
sort_of kinds.Bad = sorts.End

abbrev pub is_end : Sort → Bool
is_end sorts.End = true
is_end _ = false

abbrev pub closes_brace : Sort → Bool
closes_brace (sorts.Shut brackets.Curly) = true
closes_brace _ = false

abbrev pub is_interface : Sort → Bool
is_interface (sorts.Word words.Interface) = true
is_interface _ = false

-- A line ends behind `{`, behind `;`, and behind the `]` in front of `interface`.
abbrev pub ends_line : Sort → Sort → Bool
ends_line (sorts.Open brackets.Curly) following = true
ends_line (sorts.Mark marks.Semicolon) following = true
ends_line (sorts.Shut brackets.Square) following = is_interface following
ends_line _ following = false

-- no space in front of `,` `;` `:` `.` `)` `]` `(`
abbrev pub clings_to_all : Sort → Bool
clings_to_all (sorts.Mark marks.Comma) = true
clings_to_all (sorts.Mark marks.Semicolon) = true
clings_to_all (sorts.Mark marks.Colon) = true
clings_to_all (sorts.Mark marks.Dot) = true
clings_to_all (sorts.Shut brackets.Round) = true
clings_to_all (sorts.Shut brackets.Square) = true
clings_to_all (sorts.Open brackets.Round) = true
clings_to_all _ = false

-- nor in front of a declarator's `[`, which is one behind a name
abbrev pub clings_to_name : Sort → Bool
clings_to_name (sorts.Open brackets.Square) = true
clings_to_name following = clings_to_all following

-- No space behind `(` `[` `*` `.` either.
abbrev pub clings : Sort → Sort → Bool
clings (sorts.Open brackets.Round) following = true
clings (sorts.Open brackets.Square) following = true
clings (sorts.Mark marks.Star) following = true
clings (sorts.Mark marks.Dot) following = true
clings sorts.Name following = clings_to_name following
clings _ following = clings_to_all following

-- two spaces less
abbrev pub outdented : List ℕ → List ℕ
outdented indent = take (length indent - 2) indent

abbrev pub new_line : List ℕ → List ℕ
new_line indent = codes "\n" ++ indent

-- What stands between a token and the following one, where the line is indented so: `}` begins a line, and the text's end one of
-- its own; lines end as above; otherwise there is one space, or none.
abbrev pub between : List ℕ → Option Sort → Sort → List ℕ
between indent None following = []
between indent (Some last) following =
    if is_end following then codes "\n"
    else if closes_brace following then new_line (outdented indent)
    else if ends_line last following then new_line indent
    else if clings last following then []
    else codes " "

-- Each open brace indents by two spaces.
abbrev pub indent_behind : List ℕ → Sort → List ℕ
indent_behind indent (sorts.Open brackets.Curly) = indent ++ codes "  "
indent_behind indent (sorts.Shut brackets.Curly) = outdented indent
indent_behind indent _ = indent

-- the text of tokens of these kinds, behind a token of that sort on a line that is indented so
abbrev pub printed : List ℕ → Option Sort → List Kind → List ℕ
printed indent last [] = []
printed indent last (kind ∷ more) =
    between indent last (sort_of kind) ++ (token_text kind ++ printed (indent_behind indent (sort_of kind)) (Some (sort_of kind)) more)

-- The canonical text of tokens of these kinds. The last one is the end.
abbrev pub layout : List Kind → List ℕ
layout kinds = printed [] None kinds

abbrev pub kinds_of : List Token → List Kind
kinds_of tokens = map (λ t. t.kind) tokens

-- the kinds that have a spelling
abbrev pub HasText : Kind → Type 0
HasText (kinds.Number None) = ⊥
HasText kinds.Bad = ⊥
HasText _ = Unit {0}

abbrev pub HaveTexts : List Kind → Type 0
HaveTexts [] = Unit {0}
HaveTexts (kind ∷ more) = HasText kind × HaveTexts more
