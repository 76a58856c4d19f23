-- The grammar of interface texts, in the form in which one token decides (C706, "Interface Definition Language").
use Rattle.std.specs.Prelude.{ℕ, ◌^◌, List, [], ◌∷◌, if◌then◌else◌, eqb, map}
use Rattle.idl_tokens.specs.Ebnf.{Ebnf}
use Rattle.idl_tokens.specs.Ebnf.Ebnf.{One, Seq, Alt, Opt, Many, Within}
use Rattle.idl_tokens.specs.declared.words.Word.{Word}
use Rattle.idl_tokens.specs.declared.words.Word.TheVariants as words
use Rattle.idl_tokens.specs.declared.marks.Mark.{Mark}
use Rattle.idl_tokens.specs.declared.marks.Mark.TheVariants as marks
use Rattle.idl_tokens.specs.declared.marks.Bracket.{Bracket}
use Rattle.idl_tokens.specs.declared.marks.Bracket.TheVariants as brackets
use Rattle.idl_tokens.specs.Terminals.{of_word, of_mark, opening, closing, name_class, number_class, text_class, uuid_class, end_class, range_class}
use Rattle.idl_tree.specs.Combinators.{◌⨟◌, ◌∣◌, a_word, any_word, a_mark, a_name, a_range, a_number, a_text, a_uuid, the_end, in_brackets, listed}

-- ---- names, numbers, base types

-- "ref" | "unique" | "ptr"
unfoldable pub pk : Ebnf
pk = any_word (words.Ref ∷ words.Unique ∷ words.Ptr ∷ [])

-- ["-"] num
unfoldable pub signed : Ebnf
signed = Opt (a_mark marks.Minus) ⨟ a_number (2 ^ 64)

-- "char" | ("small" | "short" | "long" | "hyper") ["int"]
unfoldable pub sizeable : Ebnf
sizeable = a_word words.Char ∣ any_word (words.Small ∷ words.Short ∷ words.Long ∷ words.Hyper ∷ []) ⨟ Opt (a_word words.Int)

-- "boolean" | "byte" | "unsigned" sizeable | sizeable
unfoldable pub base : Ebnf
base = a_word words.Boolean ∣ a_word words.Byte ∣ a_word words.Unsigned ⨟ sizeable ∣ sizeable

-- ---- declarators

-- [num | name | "*"]
unfoldable pub array_size : Ebnf
array_size = Opt (a_number (2 ^ 64) ∣ a_name ∣ a_mark marks.Star)

-- {"*"} name ["[" array_size "]"]
unfoldable pub dtor : Ebnf
dtor = Many (a_mark marks.Star) ⨟ a_name ⨟ Opt (in_brackets brackets.Square 1)

unfoldable pub dtors : Ebnf
dtors = listed dtor

-- ---- type specs

-- "{" member {member} "}"
unfoldable pub body : Ebnf
body = in_brackets brackets.Curly 2

-- name [body] | body
unfoldable pub struct_rest : Ebnf
struct_rest = a_name ⨟ Opt body ∣ body

-- "switch" "(" spec name ")" [name]
unfoldable pub switch_part : Ebnf
switch_part = a_word words.Switch ⨟ in_brackets brackets.Round 14 ⨟ Opt a_name

-- [switch_part] "{" arm {arm} "}"
unfoldable pub union_body : Ebnf
union_body = Opt switch_part ⨟ in_brackets brackets.Curly 15

-- [name] union_body
unfoldable pub union_rest : Ebnf
union_rest = Opt a_name ⨟ union_body

-- "{" name {"," name} "}"
unfoldable pub enum_body : Ebnf
enum_body = in_brackets brackets.Curly 16

-- [name] enum_body
unfoldable pub enum_rest : Ebnf
enum_rest = Opt a_name ⨟ enum_body

-- a spec that is no struct, union, enum and not "void"
unfoldable pub typed : Ebnf
typed = a_name ∣ any_word (words.HandleT ∷ words.ErrorStatusT ∷ []) ∣ base

-- a spec that is no struct, union, enum
unfoldable pub plain : Ebnf
plain = a_word words.Void ∣ typed

unfoldable pub spec : Ebnf
spec = a_word words.Struct ⨟ struct_rest ∣ a_word words.Union ⨟ union_rest ∣ a_word words.Enum ⨟ enum_rest ∣ plain

unfoldable pub spec_but_void : Ebnf
spec_but_void = a_word words.Struct ⨟ struct_rest ∣ a_word words.Union ⨟ union_rest ∣ a_word words.Enum ⨟ enum_rest ∣ typed

-- ---- attributes

-- ["*"] name
unfoldable pub star_name : Ebnf
star_name = Opt (a_mark marks.Star) ⨟ a_name

-- num | ["*"] name
unfoldable pub size_ref : Ebnf
size_ref = a_number (2 ^ 64) ∣ star_name

-- ["-"] num "," ["-"] num
unfoldable pub bounds : Ebnf
bounds = signed ⨟ a_mark marks.Comma ⨟ signed

-- the attributes of one word
abbrev pub plain_attrs : List Word
plain_attrs = words.In ∷ words.Out ∷ words.Ref ∷ words.Unique ∷ words.Ptr ∷ words.String ∷ words.Idempotent ∷ words.Maybe ∷ words.ContextHandle ∷ words.ContextHandleSerialize ∷ words.ContextHandleNoserialize ∷ []

unfoldable pub attr : Ebnf
attr =
    any_word plain_attrs
    ∣ any_word (words.SizeIs ∷ words.MaxIs ∷ words.LengthIs ∷ []) ⨟ in_brackets brackets.Round 10
    ∣ a_word words.SwitchIs ⨟ in_brackets brackets.Round 11
    ∣ a_word words.SwitchType ⨟ in_brackets brackets.Round 12
    ∣ a_range ⨟ in_brackets brackets.Round 17

-- "[" attr {"," attr} "]"
unfoldable pub attrs : Ebnf
attrs = in_brackets brackets.Square 9

-- ---- members and arms

-- [attrs] spec dtor {"," dtor} ";"
unfoldable pub member : Ebnf
member = Opt attrs ⨟ spec ⨟ dtors ⨟ a_mark marks.Semicolon

unfoldable pub members : Ebnf
members = member ⨟ Many member

-- "case" (["-"] num | name) ":" | "default" ":"
unfoldable pub label : Ebnf
label = a_word words.Case ⨟ (signed ∣ a_name) ⨟ a_mark marks.Colon ∣ a_word words.Default ⨟ a_mark marks.Colon

-- label {label} (member | ";")
unfoldable pub arm : Ebnf
arm = (label ⨟ Many label) ⨟ (member ∣ a_mark marks.Semicolon)

unfoldable pub arms : Ebnf
arms = arm ⨟ Many arm

-- ---- operations

-- [attrs] spec dtor
unfoldable pub param : Ebnf
param = Opt attrs ⨟ spec ⨟ dtor

-- a parameter that doesn't begin with "void"
unfoldable pub param_but_void : Ebnf
param_but_void = attrs ⨟ spec ⨟ dtor ∣ spec_but_void ⨟ dtor

unfoldable pub more_params : Ebnf
more_params = Many (a_mark marks.Comma ⨟ param)

-- ["void" [dtor {"," param}] | param_but_void {"," param}]
unfoldable pub params : Ebnf
params = Opt (a_word words.Void ⨟ Opt (dtor ⨟ more_params) ∣ param_but_void ⨟ more_params)

-- name "(" params ")" ";"
unfoldable pub op_rest : Ebnf
op_rest = a_name ⨟ in_brackets brackets.Round 13 ⨟ a_mark marks.Semicolon

-- ---- declarations

-- with a tag, a declaration of its own or an operation; without one, an operation
abbrev pub tagged_or : Ebnf → Ebnf → Ebnf
tagged_or tagged untagged = tagged ⨟ (a_mark marks.Semicolon ∣ op_rest) ∣ untagged ⨟ op_rest

unfoldable pub lone_or_op : Ebnf
lone_or_op =
    a_word words.Struct ⨟ tagged_or (a_name ⨟ Opt body) body
    ∣ a_word words.Union ⨟ tagged_or (a_name ⨟ union_body) union_body
    ∣ a_word words.Enum ⨟ tagged_or (a_name ⨟ enum_body) enum_body
    ∣ plain ⨟ op_rest

unfoldable pub const_decl : Ebnf
const_decl = a_word words.Const ⨟ base ⨟ a_name ⨟ a_mark marks.Equals ⨟ signed ⨟ a_mark marks.Semicolon

unfoldable pub typedef_decl : Ebnf
typedef_decl = a_word words.Typedef ⨟ Opt attrs ⨟ spec ⨟ dtors ⨟ a_mark marks.Semicolon

unfoldable pub decl : Ebnf
decl = const_decl ∣ typedef_decl ∣ Opt attrs ⨟ lone_or_op

-- ---- a whole text

-- num ["." num]
unfoldable pub version : Ebnf
version = a_number (2 ^ 16) ⨟ Opt (a_mark marks.Dot ⨟ a_number (2 ^ 16))

unfoldable pub file_attr : Ebnf
file_attr =
    a_word words.Uuid ⨟ in_brackets brackets.Round 4
    ∣ a_word words.Version ⨟ in_brackets brackets.Round 5
    ∣ a_word words.PointerDefault ⨟ in_brackets brackets.Round 6
    ∣ a_word words.Endpoint ⨟ in_brackets brackets.Round 7

unfoldable pub file : Ebnf
file = in_brackets brackets.Square 3 ⨟ a_word words.Interface ⨟ a_name ⨟ in_brackets brackets.Curly 8 ⨟ the_end

-- what brackets hold
unfoldable pub rule : ℕ → Ebnf
rule r =
    if eqb r 1 then array_size
    else if eqb r 2 then members
    else if eqb r 3 then listed file_attr
    else if eqb r 4 then a_uuid
    else if eqb r 5 then version
    else if eqb r 6 then pk
    else if eqb r 7 then listed a_text
    else if eqb r 8 then Many decl
    else if eqb r 9 then listed attr
    else if eqb r 10 then size_ref
    else if eqb r 11 then star_name
    else if eqb r 12 then spec
    else if eqb r 13 then params
    else if eqb r 14 then spec ⨟ a_name
    else if eqb r 15 then arms
    else if eqb r 16 then listed a_name
    else bounds
