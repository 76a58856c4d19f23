-- The machine along type specs, in the readers' order.
use Rattle.std.specs.Prelude.{ℕ, List, [], ◌∷◌, if◌then◌else◌, ◌++◌}
use Rattle.idl_tokens.specs.Ebnf.{Ebnf}
use Rattle.idl_tokens.specs.Ebnf.Ebnf.{Many}
use Rattle.idl_tokens.specs.Machine.{◌>>=◌, token, parse}
use Rattle.idl_tokens.specs.Checks.{heads}
use Rattle.idl_tokens.specs.declared.marks.Mark.TheVariants as marks
use Rattle.idl_tokens.specs.declared.marks.Bracket.TheVariants as brackets
use Rattle.idl_tree.specs.Combinators.{in_brackets, name_classes}
use Rattle.idl_tree.specs.Grammar.{rule, body, switch_part, attrs, attr, member, arm}
use Rattle.idl_parts.specs.Along.{Along, if_among, if_next, word_at, mark_at, open_at, shut_at, name_at, in_round, more_of, base_at, dtors_at, enum_rest_at, plain_attr_start, plain_attr_at, size_attr_at, switch_is_at, range_attr_at, labels_at}
use Rattle.idl_tokens.specs.Terminals.{of_word, opening}
use Rattle.idl_tokens.specs.declared.words.Word.TheVariants as words

-- what brackets hold goes back to the grammar

unfoldable pub own_word_at : Along
own_word_at ks = token (of_word words.HandleT ∷ of_word words.ErrorStatusT ∷ []) 1 ks

unfoldable pub typed_at : Along
typed_at ks =
    if heads name_classes ks then name_at ks
    else if heads (of_word words.HandleT ∷ of_word words.ErrorStatusT ∷ []) ks then own_word_at ks
    else base_at ks

unfoldable pub plain_at : Along
plain_at ks = if heads (of_word words.Void ∷ []) ks then word_at words.Void ks else typed_at ks

unfoldable pub struct_rest_at : Along
struct_rest_at ks = if heads name_classes ks then (name_at ks >>= if_next (opening brackets.Curly) (parse rule body)) else parse rule body ks

abbrev pub arms_part : Ebnf
arms_part = in_brackets brackets.Curly 15

unfoldable pub union_body_at : Along
union_body_at ks = if_next (of_word words.Switch) (parse rule switch_part) ks >>= parse rule arms_part

unfoldable pub union_rest_at : Along
union_rest_at ks = if_among name_classes name_at ks >>= union_body_at

abbrev pub base_start : List ℕ
base_start = of_word words.Boolean ∷ of_word words.Byte ∷ of_word words.Unsigned ∷ of_word words.Char ∷ of_word words.Small ∷ of_word words.Short ∷ of_word words.Long ∷ of_word words.Hyper ∷ []

abbrev pub spec_start : List ℕ
spec_start = of_word words.Struct ∷ of_word words.Union ∷ of_word words.Enum ∷ of_word words.Void ∷ (name_classes ++ (of_word words.HandleT ∷ of_word words.ErrorStatusT ∷ base_start))

abbrev pub member_start : List ℕ
member_start = opening brackets.Square ∷ spec_start

unfoldable pub spec_at : Along
spec_at ks =
    if heads (of_word words.Struct ∷ []) ks then (word_at words.Struct ks >>= struct_rest_at)
    else if heads (of_word words.Union ∷ []) ks then (word_at words.Union ks >>= union_rest_at)
    else if heads (of_word words.Enum ∷ []) ks then (word_at words.Enum ks >>= enum_rest_at)
    else plain_at ks

unfoldable pub attr_at : Along
attr_at ks =
    if heads plain_attr_start ks then plain_attr_at ks
    else if heads (of_word words.SizeIs ∷ of_word words.MaxIs ∷ of_word words.LengthIs ∷ []) ks then size_attr_at ks
    else if heads (of_word words.SwitchIs ∷ []) ks then switch_is_at ks
    else if heads (of_word words.SwitchType ∷ []) ks then (word_at words.SwitchType ks >>= in_round spec_at)
    else range_attr_at ks

unfoldable pub comma_attr_at : Along
comma_attr_at ks = mark_at marks.Comma ks >>= attr_at

unfoldable pub attr_list_at : Along
attr_list_at ks = attr_at ks >>= more_of attr

unfoldable pub attrs_at : Along
attrs_at ks = (open_at brackets.Square ks >>= attr_list_at) >>= shut_at brackets.Square

abbrev pub if_attrs_at : Along
if_attrs_at = if_next (opening brackets.Square) (parse rule attrs)

unfoldable pub member_at : Along
member_at ks = ((if_attrs_at ks >>= spec_at) >>= dtors_at) >>= mark_at marks.Semicolon

abbrev pub more_members_at : Along
more_members_at ks = parse rule (Many member) ks

unfoldable pub members_at : Along
members_at ks = member_at ks >>= more_members_at

unfoldable pub body_at : Along
body_at ks = (open_at brackets.Curly ks >>= members_at) >>= shut_at brackets.Curly

unfoldable pub switch_type_at : Along
switch_type_at ks = spec_at ks >>= name_at

unfoldable pub switch_at : Along
switch_at ks = (word_at words.Switch ks >>= in_round switch_type_at) >>= if_among name_classes name_at

unfoldable pub arm_at : Along
arm_at ks = labels_at ks >>= (λ ls. if heads member_start ls then member_at ls else mark_at marks.Semicolon ls)

abbrev pub more_arms_at : Along
more_arms_at ks = parse rule (Many arm) ks

unfoldable pub arm_list_at : Along
arm_list_at ks = arm_at ks >>= more_arms_at

unfoldable pub arms_at : Along
arms_at ks = (open_at brackets.Curly ks >>= arm_list_at) >>= shut_at brackets.Curly
