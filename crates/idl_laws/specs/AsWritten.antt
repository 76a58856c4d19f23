-- The grammar of interface texts as it is written, with alternatives that one token doesn't tell (C706, "Interface
-- Definition Language"). What isn't here is as in the grammar in which one token decides.
use Rattle.std.specs.Prelude.{ℕ, [], ◌∷◌, if◌then◌else◌, eqb}
use Rattle.idl_tokens.specs.Ebnf.{Ebnf}
use Rattle.idl_tokens.specs.Ebnf.Ebnf.{Opt, Many}
use Rattle.idl_tokens.specs.declared.words.Word.TheVariants as words
use Rattle.idl_tokens.specs.declared.marks.Mark.TheVariants as marks
use Rattle.idl_tree.specs.Combinators.{◌⨟◌, ◌∣◌, a_word, any_word, a_mark, a_name, a_text, a_uuid, listed}
use Rattle.idl_tree.specs.Grammar.{pk, signed, bounds, array_size, dtor, dtors, body, struct_rest, union_body, union_rest, enum_body, enum_rest, size_ref, star_name, attr, attrs, label, op_rest, version, file_attr}

-- "boolean" | "byte" | ["unsigned"] "char" | ["unsigned"] ("small" | "short" | "long" | "hyper") ["int"]
unfoldable pub written_base : Ebnf
written_base =
    a_word words.Boolean ∣ a_word words.Byte ∣ Opt (a_word words.Unsigned) ⨟ a_word words.Char
    ∣ Opt (a_word words.Unsigned) ⨟ any_word (words.Small ∷ words.Short ∷ words.Long ∷ words.Hyper ∷ []) ⨟ Opt (a_word words.Int)

-- base | name | "void" | "handle_t" | "error_status_t" | struct | union | enum
unfoldable pub written_spec : Ebnf
written_spec =
    written_base ∣ a_name ∣ a_word words.Void ∣ any_word (words.HandleT ∷ words.ErrorStatusT ∷ [])
    ∣ a_word words.Struct ⨟ struct_rest ∣ a_word words.Union ⨟ union_rest ∣ a_word words.Enum ⨟ enum_rest

-- [attrs] spec dtor {"," dtor} ";"
unfoldable pub written_member : Ebnf
written_member = Opt attrs ⨟ written_spec ⨟ dtors ⨟ a_mark marks.Semicolon

-- label {label} (member | ";")
unfoldable pub written_arm : Ebnf
written_arm = (label ⨟ Many label) ⨟ (written_member ∣ a_mark marks.Semicolon)

-- [attrs] spec dtor
unfoldable pub written_param : Ebnf
written_param = Opt attrs ⨟ written_spec ⨟ dtor

-- ["void" | param {"," param}]
unfoldable pub written_params : Ebnf
written_params = Opt (a_word words.Void ∣ listed written_param)

-- a struct, union or enum with a tag
unfoldable pub with_tag : Ebnf
with_tag = a_word words.Struct ⨟ (a_name ⨟ Opt body) ∣ a_word words.Union ⨟ (a_name ⨟ union_body) ∣ a_word words.Enum ⨟ (a_name ⨟ enum_body)

-- "const" base name "=" ["-"] num ";" | "typedef" [attrs] spec dtor {"," dtor} ";"
-- | [attrs] (with_tag ";" | spec name "(" .. ")" ";")
unfoldable pub written_decl : Ebnf
written_decl =
    a_word words.Const ⨟ written_base ⨟ a_name ⨟ a_mark marks.Equals ⨟ signed ⨟ a_mark marks.Semicolon
    ∣ a_word words.Typedef ⨟ Opt attrs ⨟ written_spec ⨟ dtors ⨟ a_mark marks.Semicolon
    ∣ Opt attrs ⨟ (with_tag ⨟ a_mark marks.Semicolon ∣ written_spec ⨟ op_rest)

-- what brackets hold
unfoldable pub written_rule : ℕ → Ebnf
written_rule r =
    if eqb r 1 then array_size
    else if eqb r 2 then written_member ⨟ Many written_member
    else if eqb r 3 then listed file_attr
    else if eqb r 4 then a_uuid
    else if eqb r 5 then version
    else if eqb r 6 then pk
    else if eqb r 7 then listed a_text
    else if eqb r 8 then Many written_decl
    else if eqb r 9 then listed attr
    else if eqb r 10 then size_ref
    else if eqb r 11 then star_name
    else if eqb r 12 then written_spec
    else if eqb r 13 then written_params
    else if eqb r 14 then written_spec ⨟ a_name
    else if eqb r 15 then written_arm ⨟ Many written_arm
    else if eqb r 16 then listed a_name
    else bounds
