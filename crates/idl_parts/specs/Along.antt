-- The machine along each part, in the readers' order.
use Rattle.std.specs.Prelude.{ℕ, ◌^◌, List, [], ◌∷◌, if◌then◌else◌, Result, Ok, ◌++◌}
use Rattle.idl_tokens.specs.Ebnf.{Terminal, Ebnf}
use Rattle.idl_tokens.specs.Ebnf.Ebnf.{Many, Seq}
use Rattle.idl_tokens.specs.Machine.{Stuck, ◌>>=◌, token, parse}
use Rattle.idl_tokens.specs.Checks.{heads}
use Rattle.idl_tokens.specs.declared.marks.Mark.TheVariants as marks
use Rattle.idl_tokens.specs.declared.marks.Bracket.TheVariants as brackets
use Rattle.idl_tree.specs.Combinators.{a_mark, a_name, name_classes, level_limit}
use Rattle.idl_tree.specs.Grammar.{rule, dtor, label}
use Rattle.idl_tokens.specs.Terminals.{of_word, of_mark, opening, closing, number_class, text_class, uuid_class, end_class, range_class}
use Rattle.idl_tokens.specs.declared.words.Word.TheVariants as words
use Rattle.idl_tokens.specs.declared.words.Word.{Word}
use Rattle.idl_tokens.specs.declared.marks.Mark.{Mark}
use Rattle.idl_tokens.specs.declared.marks.Bracket.{Bracket}

abbrev pub Along : Type 0
Along = List Terminal → Result (List Terminal) Stuck

-- a part that begins with one of these classes, or nothing
abbrev pub if_among : List ℕ → Along → Along
if_among cs f ks = if heads cs ks then f ks else Ok ks

-- a part that begins with this class, or nothing
abbrev pub if_next : ℕ → Along → Along
if_next c f = if_among (c ∷ []) f

-- ---- single tokens

abbrev pub word_at : Word → Along
word_at w = token (of_word w ∷ []) 1

abbrev pub mark_at : Mark → Along
mark_at m = token (of_mark m ∷ []) 1

abbrev pub open_at : Bracket → Along
open_at b = token (opening b ∷ []) level_limit

abbrev pub shut_at : Bracket → Along
shut_at b = token (closing b ∷ []) level_limit

abbrev pub name_at : Along
name_at = token name_classes 1

abbrev pub range_at : Along
range_at = token (range_class ∷ []) 1

abbrev pub number_at : Along
number_at = token (number_class ∷ []) (2 ^ 64)

abbrev pub text_at : Along
text_at = token (text_class ∷ []) 1

abbrev pub uuid_at : Along
uuid_at = token (uuid_class ∷ []) 1

abbrev pub end_at : Along
end_at = token (end_class ∷ []) 1

-- ---- brackets and lists

-- a part in round brackets
abbrev pub in_round : Along → Along
in_round f ks = (open_at brackets.Round ks >>= f) >>= shut_at brackets.Round

-- more of a part, each behind a comma
abbrev pub more_of : Ebnf → Along
more_of g ks = parse rule (Many (Seq (a_mark marks.Comma) g)) ks

-- ---- numbers and base types

unfoldable pub signed_at : Along
signed_at ks = if_next (of_mark marks.Minus) (mark_at marks.Minus) ks >>= number_at

unfoldable pub pk_at : Along
pk_at ks = token (of_word words.Ref ∷ of_word words.Unique ∷ of_word words.Ptr ∷ []) 1 ks

unfoldable pub int_size_at : Along
int_size_at ks = token (of_word words.Small ∷ of_word words.Short ∷ of_word words.Long ∷ of_word words.Hyper ∷ []) 1 ks

unfoldable pub sizeable_at : Along
sizeable_at ks = if heads (of_word words.Char ∷ []) ks then word_at words.Char ks else (int_size_at ks >>= if_next (of_word words.Int) (word_at words.Int))

unfoldable pub base_at : Along
base_at ks =
    if heads (of_word words.Boolean ∷ []) ks then word_at words.Boolean ks
    else if heads (of_word words.Byte ∷ []) ks then word_at words.Byte ks
    else (if_next (of_word words.Unsigned) (word_at words.Unsigned) ks >>= sizeable_at)

-- ---- declarators

unfoldable pub array_size_at : Along
array_size_at ks =
    if heads (number_class ∷ (name_classes ++ (of_mark marks.Star ∷ []))) ks then
    (if heads (number_class ∷ []) ks then number_at ks
    else if heads name_classes ks then name_at ks
    else mark_at marks.Star ks)
    else Ok ks

unfoldable pub array_at : Along
array_at ks = if_next (opening brackets.Square) (λ ls. (open_at brackets.Square ls >>= array_size_at) >>= shut_at brackets.Square) ks

abbrev pub stars_at : Along
stars_at ks = parse rule (Many (a_mark marks.Star)) ks

unfoldable pub dtor_at : Along
dtor_at ks = (stars_at ks >>= name_at) >>= array_at

unfoldable pub comma_dtor_at : Along
comma_dtor_at ks = mark_at marks.Comma ks >>= dtor_at

unfoldable pub dtors_at : Along
dtors_at ks = dtor_at ks >>= more_of dtor

-- ---- names in curly brackets

unfoldable pub comma_name_at : Along
comma_name_at ks = mark_at marks.Comma ks >>= name_at

unfoldable pub names_at : Along
names_at ks = name_at ks >>= more_of a_name

unfoldable pub enum_body_at : Along
enum_body_at ks = (open_at brackets.Curly ks >>= names_at) >>= shut_at brackets.Curly

unfoldable pub enum_rest_at : Along
enum_rest_at ks = if_among name_classes name_at ks >>= enum_body_at

-- ---- sizes and plain attributes

unfoldable pub star_name_at : Along
star_name_at ks = if_next (of_mark marks.Star) (mark_at marks.Star) ks >>= name_at

unfoldable pub size_ref_at : Along
size_ref_at ks = if heads (number_class ∷ []) ks then number_at ks else star_name_at ks

abbrev pub plain_attr_start : List ℕ
plain_attr_start = of_word words.In ∷ of_word words.Out ∷ of_word words.Ref ∷ of_word words.Unique ∷ of_word words.Ptr ∷ of_word words.String ∷ of_word words.Idempotent ∷ of_word words.Maybe ∷ of_word words.ContextHandle ∷ of_word words.ContextHandleSerialize ∷ of_word words.ContextHandleNoserialize ∷ []

unfoldable pub plain_attr_at : Along
plain_attr_at ks = token plain_attr_start 1 ks

unfoldable pub size_attr_at : Along
size_attr_at ks = token (of_word words.SizeIs ∷ of_word words.MaxIs ∷ of_word words.LengthIs ∷ []) 1 ks >>= in_round size_ref_at

unfoldable pub switch_is_at : Along
switch_is_at ks = word_at words.SwitchIs ks >>= in_round star_name_at

unfoldable pub bounds_at : Along
bounds_at ks = (signed_at ks >>= mark_at marks.Comma) >>= signed_at

unfoldable pub range_attr_at : Along
range_attr_at ks = range_at ks >>= in_round bounds_at

-- ---- labels

unfoldable pub case_value_at : Along
case_value_at ks = if heads (of_mark marks.Minus ∷ number_class ∷ []) ks then signed_at ks else name_at ks

unfoldable pub case_label_at : Along
case_label_at ks = (word_at words.Case ks >>= case_value_at) >>= mark_at marks.Colon

unfoldable pub label_at : Along
label_at ks =
    if heads (of_word words.Case ∷ []) ks then case_label_at ks
    else (word_at words.Default ks >>= mark_at marks.Colon)

abbrev pub more_labels_at : Along
more_labels_at ks = parse rule (Many label) ks

unfoldable pub labels_at : Along
labels_at ks = label_at ks >>= more_labels_at
