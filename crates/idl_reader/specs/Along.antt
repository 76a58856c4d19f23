-- The machine along the parts of a whole text, in the readers' order.
use Rattle.std.specs.Prelude.{ℕ, ◌^◌, List, [], ◌∷◌, Bool, false, ◌&&◌, if◌then◌else◌, Ok, ◌++◌}
use Rattle.idl_tokens.specs.Ebnf.{Terminal}
use Rattle.idl_tokens.specs.Ebnf.Ebnf.{Many}
use Rattle.idl_tokens.specs.Machine.{◌>>=◌, token, parse}
use Rattle.idl_tokens.specs.Checks.{heads}
use Rattle.idl_tree.specs.Combinators.{a_text, name_classes}
use Rattle.idl_tree.specs.Grammar.{rule, param, file_attr, decl}
use Rattle.idl_parts.specs.Along.{Along, if_next, in_round, more_of, name_at, signed_at, pk_at, base_at, dtor_at, dtors_at, word_at, mark_at, open_at, shut_at, text_at, uuid_at, end_at}
use Rattle.idl_reader.specs.TypesAlong.{spec_at, if_attrs_at, base_start, spec_start}
use Rattle.idl_tokens.specs.Terminals.{of_word, of_mark, opening, number_class}
use Rattle.idl_tokens.specs.declared.words.Word.TheVariants as words
use Rattle.idl_tokens.specs.declared.marks.Mark.TheVariants as marks
use Rattle.idl_tokens.specs.declared.marks.Bracket.TheVariants as brackets

-- ---- attributes of the interface

abbrev pub version_number_at : Along
version_number_at = token (number_class ∷ []) (2 ^ 16)

unfoldable pub minor_at : Along
minor_at ks = mark_at marks.Dot ks >>= version_number_at

unfoldable pub version_at : Along
version_at ks = version_number_at ks >>= if_next (of_mark marks.Dot) minor_at

unfoldable pub comma_text_at : Along
comma_text_at ks = mark_at marks.Comma ks >>= text_at

unfoldable pub texts_at : Along
texts_at ks = text_at ks >>= more_of a_text

unfoldable pub uuid_attr_at : Along
uuid_attr_at ks = word_at words.Uuid ks >>= in_round uuid_at

unfoldable pub version_attr_at : Along
version_attr_at ks = word_at words.Version ks >>= in_round version_at

unfoldable pub default_attr_at : Along
default_attr_at ks = word_at words.PointerDefault ks >>= in_round pk_at

unfoldable pub endpoint_attr_at : Along
endpoint_attr_at ks = word_at words.Endpoint ks >>= in_round texts_at

unfoldable pub file_attr_at : Along
file_attr_at ks =
    if heads (of_word words.Uuid ∷ []) ks then uuid_attr_at ks
    else if heads (of_word words.Version ∷ []) ks then version_attr_at ks
    else if heads (of_word words.PointerDefault ∷ []) ks then default_attr_at ks
    else endpoint_attr_at ks

unfoldable pub comma_file_attr_at : Along
comma_file_attr_at ks = mark_at marks.Comma ks >>= file_attr_at

unfoldable pub file_attr_list_at : Along
file_attr_list_at ks = file_attr_at ks >>= more_of file_attr

unfoldable pub file_attrs_at : Along
file_attrs_at ks = (open_at brackets.Square ks >>= file_attr_list_at) >>= shut_at brackets.Square

-- ---- parameters

unfoldable pub param_at : Along
param_at ks = (if_attrs_at ks >>= spec_at) >>= dtor_at

unfoldable pub comma_param_at : Along
comma_param_at ks = mark_at marks.Comma ks >>= param_at

abbrev pub params_start : List ℕ
params_start = of_word words.Void ∷ opening brackets.Square ∷ of_word words.Struct ∷ of_word words.Union ∷ of_word words.Enum ∷ (name_classes ++ (of_word words.HandleT ∷ of_word words.ErrorStatusT ∷ base_start))

unfoldable pub void_first_at : Along
void_first_at ks = word_at words.Void ks >>= (λ ls. if heads (of_mark marks.Star ∷ name_classes) ls then (dtor_at ls >>= more_of param) else Ok ls)

unfoldable pub params_at : Along
params_at ks =
    if heads params_start ks then
    (if heads (of_word words.Void ∷ []) ks then void_first_at ks
    else (param_at ks >>= more_of param))
    else Ok ks

-- ---- declarations

unfoldable pub op_rest_at : Along
op_rest_at ks = (name_at ks >>= in_round params_at) >>= mark_at marks.Semicolon

-- do a structure, union or enum and its tag come next?
abbrev pub is_tagged : List Terminal → Bool
is_tagged [] = false
is_tagged (k ∷ ks) = heads (of_word words.Struct ∷ of_word words.Union ∷ of_word words.Enum ∷ []) (k ∷ ks) && heads name_classes ks

unfoldable pub tail_at : Bool → Along
tail_at tagged ks = if tagged && heads (of_mark marks.Semicolon ∷ []) ks then mark_at marks.Semicolon ks else op_rest_at ks

unfoldable pub lone_or_op_at : Along
lone_or_op_at ks = spec_at ks >>= tail_at (is_tagged ks)

unfoldable pub const_decl_at : Along
const_decl_at ks = ((((word_at words.Const ks >>= base_at) >>= name_at) >>= mark_at marks.Equals) >>= signed_at) >>= mark_at marks.Semicolon

unfoldable pub typedef_decl_at : Along
typedef_decl_at ks = (((word_at words.Typedef ks >>= if_attrs_at) >>= spec_at) >>= dtors_at) >>= mark_at marks.Semicolon

unfoldable pub decl_at : Along
decl_at ks =
    if heads (of_word words.Const ∷ []) ks then const_decl_at ks
    else if heads (of_word words.Typedef ∷ []) ks then typedef_decl_at ks
    else (if_attrs_at ks >>= lone_or_op_at)

abbrev pub decl_start : List ℕ
decl_start = of_word words.Const ∷ of_word words.Typedef ∷ opening brackets.Square ∷ spec_start

abbrev pub decls_at : Along
decls_at ks = parse rule (Many decl) ks

unfoldable pub decl_body_at : Along
decl_body_at ks = (open_at brackets.Curly ks >>= decls_at) >>= shut_at brackets.Curly

unfoldable pub file_at : Along
file_at ks = (((file_attrs_at ks >>= word_at words.Interface) >>= name_at) >>= decl_body_at) >>= end_at
