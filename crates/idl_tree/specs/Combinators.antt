-- Of what the grammar of interface texts is made: single tokens, one part after the other, either of two, brackets, lists.
use Rattle.std.specs.Prelude.{ℕ, ◌^◌, List, [], ◌∷◌, if◌then◌else◌, eqb, map}
use Rattle.idl_tokens.specs.Ebnf.{Ebnf}
use Rattle.idl_tokens.specs.Ebnf.Ebnf.{One, Seq, Alt, Opt, Many, Within}
use Rattle.idl_tokens.specs.declared.words.Word.{Word}
use Rattle.idl_tokens.specs.declared.words.Word.TheVariants as words
use Rattle.idl_tokens.specs.declared.marks.Mark.{Mark}
use Rattle.idl_tokens.specs.declared.marks.Mark.TheVariants as marks
use Rattle.idl_tokens.specs.declared.marks.Bracket.{Bracket}
use Rattle.idl_tokens.specs.declared.marks.Bracket.TheVariants as brackets
use Rattle.idl_tokens.specs.Terminals.{of_word, of_mark, opening, closing, name_class, number_class, text_class, uuid_class, end_class, range_class}

-- one after the other
infixl 20 ◌⨟◌
abbrev pub ◌⨟◌ : Ebnf → Ebnf → Ebnf
a ⨟ b = Seq a b

-- either
infixr 10 ◌∣◌
abbrev pub ◌∣◌ : Ebnf → Ebnf → Ebnf
a ∣ b = Alt a b

unfoldable pub a_word : Word → Ebnf
a_word w = One (of_word w ∷ []) 1

-- one of these words
abbrev pub any_word : List Word → Ebnf
any_word ws = One (map of_word ws) 1

unfoldable pub a_mark : Mark → Ebnf
a_mark m = One (of_mark m ∷ []) 1

-- the classes of the tokens that may stand for a name
abbrev pub name_classes : List ℕ
name_classes = name_class ∷ range_class ∷ []

unfoldable pub a_name : Ebnf
a_name = One name_classes 1

-- "range", which is a word only here
unfoldable pub a_range : Ebnf
a_range = One (range_class ∷ []) 1

-- a number below the limit
unfoldable pub a_number : ℕ → Ebnf
a_number limit = One (number_class ∷ []) limit

unfoldable pub a_text : Ebnf
a_text = One (text_class ∷ []) 1

unfoldable pub a_uuid : Ebnf
a_uuid = One (uuid_class ∷ []) 1

unfoldable pub the_end : Ebnf
the_end = One (end_class ∷ []) 1

-- brackets nest to level 64
abbrev pub level_limit : ℕ
level_limit = 65

abbrev pub in_brackets : Bracket → ℕ → Ebnf
in_brackets b rule = Within (opening b) rule (closing b) level_limit

-- one, and more of them behind commas
abbrev pub listed : Ebnf → Ebnf
listed g = g ⨟ Many (a_mark marks.Comma ⨟ g)
