-- How tokens are spelled.
use Rattle.std.specs.Prelude.{ℕ, List, codes}
use Rattle.idl_tokens.specs.declared.words.Word.{Word}
use Rattle.idl_tokens.specs.declared.words.Word.TheVariants as words
use Rattle.idl_tokens.specs.declared.marks.Mark.{Mark}
use Rattle.idl_tokens.specs.declared.marks.Mark.TheVariants as marks
use Rattle.idl_tokens.specs.declared.marks.Bracket.{Bracket}
use Rattle.idl_tokens.specs.declared.marks.Bracket.TheVariants as brackets

-- the reserved words
abbrev pub word_text : Word → List ℕ
word_text words.Interface = codes "interface"
word_text words.Uuid = codes "uuid"
word_text words.Version = codes "version"
word_text words.PointerDefault = codes "pointer_default"
word_text words.Endpoint = codes "endpoint"
word_text words.Ref = codes "ref"
word_text words.Unique = codes "unique"
word_text words.Ptr = codes "ptr"
word_text words.Const = codes "const"
word_text words.Typedef = codes "typedef"
word_text words.Void = codes "void"
word_text words.In = codes "in"
word_text words.Out = codes "out"
word_text words.String = codes "string"
word_text words.Idempotent = codes "idempotent"
word_text words.Maybe = codes "maybe"
word_text words.ContextHandle = codes "context_handle"
word_text words.ContextHandleSerialize = codes "context_handle_serialize"
word_text words.ContextHandleNoserialize = codes "context_handle_noserialize"
word_text words.SizeIs = codes "size_is"
word_text words.MaxIs = codes "max_is"
word_text words.LengthIs = codes "length_is"
word_text words.SwitchIs = codes "switch_is"
word_text words.SwitchType = codes "switch_type"
word_text words.HandleT = codes "handle_t"
word_text words.ErrorStatusT = codes "error_status_t"
word_text words.Boolean = codes "boolean"
word_text words.Byte = codes "byte"
word_text words.Unsigned = codes "unsigned"
word_text words.Char = codes "char"
word_text words.Small = codes "small"
word_text words.Short = codes "short"
word_text words.Long = codes "long"
word_text words.Hyper = codes "hyper"
word_text words.Int = codes "int"
word_text words.Struct = codes "struct"
word_text words.Union = codes "union"
word_text words.Switch = codes "switch"
word_text words.Enum = codes "enum"
word_text words.Case = codes "case"
word_text words.Default = codes "default"

-- `,` `;` `:` `*` `=` `-` `.`
abbrev pub mark_octet : Mark → ℕ
mark_octet marks.Comma = 44
mark_octet marks.Semicolon = 59
mark_octet marks.Colon = 58
mark_octet marks.Star = 42
mark_octet marks.Equals = 61
mark_octet marks.Minus = 45
mark_octet marks.Dot = 46

-- `[` `(` `{`
abbrev pub open_octet : Bracket → ℕ
open_octet brackets.Square = 91
open_octet brackets.Round = 40
open_octet brackets.Curly = 123

-- `]` `)` `}`
abbrev pub shut_octet : Bracket → ℕ
shut_octet brackets.Square = 93
shut_octet brackets.Round = 41
shut_octet brackets.Curly = 125
