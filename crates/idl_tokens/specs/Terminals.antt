-- How the grammar sees tokens.
use Rattle.std.specs.Prelude.{ℕ, ◌^◌, List, [], ◌∷◌, None, Some, codes, bytes_eq, if◌then◌else◌}
use Rattle.idl_tokens.specs.Ebnf.{Terminal}
use Rattle.idl_tokens.specs.declared.words.Word.{Word}
use Rattle.idl_tokens.specs.declared.words.Word.TheVariants as words
use Rattle.idl_tokens.specs.declared.marks.Mark.{Mark}
use Rattle.idl_tokens.specs.declared.marks.Mark.TheVariants as marks
use Rattle.idl_tokens.specs.declared.marks.Bracket.{Bracket}
use Rattle.idl_tokens.specs.declared.marks.Bracket.TheVariants as brackets
use Rattle.idl_tokens.specs.declared.kinds.Kind.{Kind}
use Rattle.idl_tokens.specs.declared.kinds.Kind.TheVariants as kinds
use Rattle.idl_tokens.specs.declared.kinds.Token.{Token}

abbrev pub of_word : Word → ℕ
of_word words.Interface = 1
of_word words.Uuid = 2
of_word words.Version = 3
of_word words.PointerDefault = 4
of_word words.Endpoint = 5
of_word words.Ref = 6
of_word words.Unique = 7
of_word words.Ptr = 8
of_word words.Const = 9
of_word words.Typedef = 10
of_word words.Void = 11
of_word words.In = 12
of_word words.Out = 13
of_word words.String = 14
of_word words.Idempotent = 15
of_word words.Maybe = 16
of_word words.ContextHandle = 17
of_word words.ContextHandleSerialize = 18
of_word words.ContextHandleNoserialize = 19
of_word words.SizeIs = 20
of_word words.MaxIs = 21
of_word words.LengthIs = 22
of_word words.SwitchIs = 23
of_word words.SwitchType = 24
of_word words.HandleT = 25
of_word words.ErrorStatusT = 26
of_word words.Boolean = 27
of_word words.Byte = 28
of_word words.Unsigned = 29
of_word words.Char = 30
of_word words.Small = 31
of_word words.Short = 32
of_word words.Long = 33
of_word words.Hyper = 34
of_word words.Int = 35
of_word words.Struct = 36
of_word words.Union = 37
of_word words.Switch = 38
of_word words.Enum = 39
of_word words.Case = 40
of_word words.Default = 41

abbrev pub of_mark : Mark → ℕ
of_mark marks.Comma = 50
of_mark marks.Semicolon = 51
of_mark marks.Colon = 52
of_mark marks.Star = 53
of_mark marks.Equals = 54
of_mark marks.Minus = 55
of_mark marks.Dot = 56

abbrev pub opening : Bracket → ℕ
opening brackets.Square = 60
opening brackets.Round = 61
opening brackets.Curly = 62

abbrev pub closing : Bracket → ℕ
closing brackets.Square = 63
closing brackets.Round = 64
closing brackets.Curly = 65

-- the classes of the other tokens
abbrev pub bad_class : ℕ
bad_class = 0

abbrev pub name_class : ℕ
name_class = 70

abbrev pub number_class : ℕ
number_class = 71

abbrev pub text_class : ℕ
text_class = 72

abbrev pub uuid_class : ℕ
uuid_class = 73

abbrev pub end_class : ℕ
end_class = 74

abbrev pub range_class : ℕ
range_class = 75

-- the name that is a word where an attribute begins, and free as a name
abbrev pub range_text : List ℕ
range_text = codes "range"

abbrev pub of_name : List ℕ → ℕ
of_name text = if bytes_eq text range_text then range_class else name_class

-- a class without size
abbrev pub just : ℕ → Terminal
just c = record { class = c; size = 0 }

-- A number's size is the number, and 2 ^ 64 where it doesn't fit 64 bits; an opening bracket's is its level.
abbrev pub terminal : Kind → Terminal
terminal (kinds.Word w) = just (of_word w)
terminal (kinds.Name text) = just (of_name text)
terminal (kinds.Number (Some n)) = record { class = number_class; size = n }
terminal (kinds.Number None) = record { class = number_class; size = 2 ^ 64 }
terminal (kinds.Text text) = just text_class
terminal (kinds.Uuid id) = just uuid_class
terminal (kinds.Mark m) = just (of_mark m)
terminal (kinds.Open b level) = record { class = opening b; size = level }
terminal (kinds.Shut b) = just (closing b)
terminal kinds.End = just end_class
terminal kinds.Bad = just bad_class

abbrev pub terminals : List Token → List Terminal
terminals [] = []
terminals (t ∷ ts) = terminal t.kind ∷ terminals ts
