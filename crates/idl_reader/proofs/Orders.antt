-- The readers' order and the grammar are one.
use Rattle.std.proofs.Common.{◌≡◌, ℕ, Bool, true, false, List, [], ◌∷◌, refl, ◌^◌, ap, sym, ◌∙◌, ◌||◌, eqb, nat_lt}
use Rattle.std.specs.Prelude.{◌&&◌, if◌then◌else◌, Result, Ok, Err}
use Rattle.idl_tokens.specs.Ebnf.{Ebnf, Terminal, has}
use Rattle.idl_tokens.specs.Ebnf.Ebnf.{Seq, Alt, Opt, Many}
use Rattle.idl_tokens.specs.Machine.{null, Stuck, parse, token, sized, ◌>>=◌}
use Rattle.idl_tokens.specs.Checks.{first, heads}
use Rattle.idl_tokens.specs.declared.marks.Mark.TheVariants as marks
use Rattle.idl_tokens.specs.declared.words.Word.TheVariants as words
use Rattle.idl_tree.specs.Combinators.{a_word, a_mark, a_name, a_number, a_text, a_uuid, the_end, name_classes, level_limit}
use Rattle.idl_tree.specs.Grammar.{rule, base, sizeable, dtor, body, struct_rest, union_body, union_rest, enum_body, enum_rest, typed, plain, spec, spec_but_void, attrs, param, param_but_void, more_params, params, op_rest, tagged_or, lone_or_op, const_decl, typedef_decl, decl, version, file_attr, file}
use Rattle.idl_parts.specs.Along.{Along, if_next, in_round, more_of, name_at, signed_at, pk_at, base_at, dtor_at, dtors_at, enum_body_at, enum_rest_at, word_at, mark_at, uuid_at, end_at, text_at}
use Rattle.idl_reader.specs.TypesAlong.{typed_at, plain_at, struct_rest_at, union_body_at, union_rest_at, spec_at, if_attrs_at}
use Rattle.idl_parts.proofs.Orders.{Law, bind_same, law_seq, law_opt, law_alt, law_within, law_one, law_same, law_many, law_more, name_law, signed_law, pk_law, base_law, dtor_law, dtors_law, enum_body_law, enum_rest_law}
use Rattle.idl_reader.proofs.TypesOrders.{tagged_struct_law, union_body_law, struct_rest_law, union_rest_law, typed_law, plain_law, spec_law, attrs_spec_law, if_attrs_law, semicolon_law}
use Rattle.idl_reader.specs.Along.{version_number_at, minor_at, version_at, comma_text_at, texts_at, uuid_attr_at, version_attr_at, default_attr_at, endpoint_attr_at, file_attr_at, comma_file_attr_at, file_attr_list_at, file_attrs_at, param_at, comma_param_at, params_start, void_first_at, params_at, op_rest_at, is_tagged, tail_at, lone_or_op_at, const_decl_at, typedef_decl_at, decl_at, decl_start, decls_at, decl_body_at, file_at}
use Rattle.idl_tokens.specs.Terminals.{of_word, of_mark, opening, closing, number_class, text_class, uuid_class, end_class}
use Rattle.idl_tokens.specs.declared.marks.Bracket.TheVariants as brackets

-- ---- attributes of the interface

version_law : Law version version_at
unfolding version version_at minor_at a_number a_mark
version_law =
    law_seq _ _ version_number_at (if_next (of_mark marks.Dot) minor_at) (law_one (number_class ∷ []) (2 ^ 16))
    (law_opt _ (of_mark marks.Dot ∷ []) minor_at refl (law_seq _ _ (mark_at marks.Dot) version_number_at (law_one (of_mark marks.Dot ∷ []) 1) (law_one (number_class ∷ []) (2 ^ 16))))

text_law : Law a_text text_at
unfolding a_text
text_law = law_one (text_class ∷ []) 1

uuid_law : Law a_uuid uuid_at
unfolding a_uuid
uuid_law = law_one (uuid_class ∷ []) 1

pub more_texts : (ks : List Terminal) → more_of a_text ks ≡ (if heads (of_mark marks.Comma ∷ []) ks then (comma_text_at ks >>= more_of a_text) else Ok ks)
unfolding comma_text_at
more_texts = law_more a_text text_at text_law

uuid_rule : Law (rule 4) uuid_at
unfolding rule
uuid_rule = uuid_law

version_rule : Law (rule 5) version_at
unfolding rule
version_rule = version_law

pk_rule : Law (rule 6) pk_at
unfolding rule
pk_rule = pk_law

texts_rule : Law (rule 7) texts_at
unfolding rule texts_at
texts_rule = law_seq a_text (Many (Seq (a_mark marks.Comma) a_text)) text_at (more_of a_text) text_law (law_same (Many (Seq (a_mark marks.Comma) a_text)))

file_attr_law : Law file_attr file_attr_at
unfolding file_attr file_attr_at uuid_attr_at version_attr_at default_attr_at endpoint_attr_at a_word
file_attr_law =
    law_alt _ _ (of_word words.Uuid ∷ []) uuid_attr_at (λ ks. if heads (of_word words.Version ∷ []) ks then version_attr_at ks else if heads (of_word words.PointerDefault ∷ []) ks then default_attr_at ks else endpoint_attr_at ks) refl refl
    (law_seq _ _ (word_at words.Uuid) (in_round uuid_at) (law_one (of_word words.Uuid ∷ []) 1) (law_within (opening brackets.Round) 4 (closing brackets.Round) level_limit uuid_at uuid_rule))
    (law_alt _ _ (of_word words.Version ∷ []) version_attr_at (λ ks. if heads (of_word words.PointerDefault ∷ []) ks then default_attr_at ks else endpoint_attr_at ks) refl refl
    (law_seq _ _ (word_at words.Version) (in_round version_at) (law_one (of_word words.Version ∷ []) 1) (law_within (opening brackets.Round) 5 (closing brackets.Round) level_limit version_at version_rule))
    (law_alt _ _ (of_word words.PointerDefault ∷ []) default_attr_at endpoint_attr_at refl refl
    (law_seq _ _ (word_at words.PointerDefault) (in_round pk_at) (law_one (of_word words.PointerDefault ∷ []) 1) (law_within (opening brackets.Round) 6 (closing brackets.Round) level_limit pk_at pk_rule))
    (law_seq _ _ (word_at words.Endpoint) (in_round texts_at) (law_one (of_word words.Endpoint ∷ []) 1) (law_within (opening brackets.Round) 7 (closing brackets.Round) level_limit texts_at texts_rule))))

pub more_file_attrs : (ks : List Terminal) → more_of file_attr ks ≡ (if heads (of_mark marks.Comma ∷ []) ks then (comma_file_attr_at ks >>= more_of file_attr) else Ok ks)
unfolding comma_file_attr_at
more_file_attrs = law_more file_attr file_attr_at file_attr_law

file_attr_rule : Law (rule 3) file_attr_list_at
unfolding rule file_attr_list_at
file_attr_rule = law_seq file_attr (Many (Seq (a_mark marks.Comma) file_attr)) file_attr_at (more_of file_attr) file_attr_law (law_same (Many (Seq (a_mark marks.Comma) file_attr)))

-- ---- parameters

param_law : Law param param_at
unfolding param param_at
param_law = law_seq (Seq (Opt attrs) spec) dtor (λ ks. if_attrs_at ks >>= spec_at) dtor_at attrs_spec_law dtor_law

pub more_param_list : (ks : List Terminal) → more_of param ks ≡ (if heads (of_mark marks.Comma ∷ []) ks then (comma_param_at ks >>= more_of param) else Ok ks)
unfolding comma_param_at
more_param_list = law_more param param_at param_law

abbrev spec_but_void_at : Along
spec_but_void_at ks =
    if heads (of_word words.Struct ∷ []) ks then (word_at words.Struct ks >>= struct_rest_at)
    else if heads (of_word words.Union ∷ []) ks then (word_at words.Union ks >>= union_rest_at)
    else if heads (of_word words.Enum ∷ []) ks then (word_at words.Enum ks >>= enum_rest_at)
    else typed_at ks

typed_null : null typed ≡ false
unfolding typed
typed_null = refl

spec_but_void_law : Law spec_but_void spec_but_void_at
unfolding spec_but_void a_word
spec_but_void_law =
    law_alt _ _ (of_word words.Struct ∷ []) (λ ks. word_at words.Struct ks >>= struct_rest_at) (λ ks. if heads (of_word words.Union ∷ []) ks then (word_at words.Union ks >>= union_rest_at) else if heads (of_word words.Enum ∷ []) ks then (word_at words.Enum ks >>= enum_rest_at) else typed_at ks) refl refl
    (law_seq _ struct_rest (word_at words.Struct) struct_rest_at (law_one (of_word words.Struct ∷ []) 1) struct_rest_law)
    (law_alt _ _ (of_word words.Union ∷ []) (λ ks. word_at words.Union ks >>= union_rest_at) (λ ks. if heads (of_word words.Enum ∷ []) ks then (word_at words.Enum ks >>= enum_rest_at) else typed_at ks) refl refl
    (law_seq _ union_rest (word_at words.Union) union_rest_at (law_one (of_word words.Union ∷ []) 1) union_rest_law)
    (law_alt _ typed (of_word words.Enum ∷ []) (λ ks. word_at words.Enum ks >>= enum_rest_at) typed_at refl typed_null
    (law_seq _ enum_rest (word_at words.Enum) enum_rest_at (law_one (of_word words.Enum ∷ []) 1) enum_rest_law)
    typed_law))

-- where no "void" comes next
but_void : (ks : List Terminal) → heads (of_word words.Void ∷ []) ks ≡ false → spec_but_void_at ks ≡ spec_at ks
unfolding spec_at plain_at
but_void ks e =
    ap (λ r. if heads (of_word words.Struct ∷ []) ks then (word_at words.Struct ks >>= struct_rest_at) else if heads (of_word words.Union ∷ []) ks then (word_at words.Union ks >>= union_rest_at) else if heads (of_word words.Enum ∷ []) ks then (word_at words.Enum ks >>= enum_rest_at) else r)
    (sym (ap (λ b. if b then word_at words.Void ks else typed_at ks) e))

first_attrs_spec : first (Seq (Seq attrs spec) dtor) ≡ opening brackets.Square ∷ []
unfolding attrs
first_attrs_spec = refl

null_but_void : null (Seq spec_but_void dtor) ≡ false
unfolding spec_but_void
null_but_void = refl

param_but_void_law : Law param_but_void (λ ks. if heads (opening brackets.Square ∷ []) ks then ((parse rule attrs ks >>= spec_at) >>= dtor_at) else (spec_but_void_at ks >>= dtor_at))
unfolding param_but_void
param_but_void_law =
    law_alt (Seq (Seq attrs spec) dtor) (Seq spec_but_void dtor) (opening brackets.Square ∷ []) (λ ks. (parse rule attrs ks >>= spec_at) >>= dtor_at) (λ ks. spec_but_void_at ks >>= dtor_at) first_attrs_spec null_but_void
    (law_seq (Seq attrs spec) dtor (λ ks. parse rule attrs ks >>= spec_at) dtor_at (law_seq attrs spec (parse rule attrs) spec_at (law_same attrs) spec_law) dtor_law)
    (law_seq spec_but_void dtor spec_but_void_at dtor_at spec_but_void_law dtor_law)

-- brackets of attributes, or none
by_attrs : (b : Bool) (ks : List Terminal) (x v : Result (List Terminal) Stuck) (f g : Along) → v ≡ f ks → (if b then ((x >>= f) >>= g) else (v >>= g)) ≡ (((if b then x else Ok ks) >>= f) >>= g)
by_attrs true ks x v f g e = refl
by_attrs false ks x v f g e = ap (λ r. r >>= g) e

but_void_param : (ks : List Terminal) → heads (of_word words.Void ∷ []) ks ≡ false → parse rule param_but_void ks ≡ param_at ks
unfolding param_at
but_void_param ks e = param_but_void_law ks ∙ by_attrs (heads (opening brackets.Square ∷ []) ks) ks (parse rule attrs ks) (spec_but_void_at ks) spec_at dtor_at (but_void ks e)

else_same : (b : Bool) (x y z : Result (List Terminal) Stuck) → (b ≡ false → y ≡ z) → (if b then x else y) ≡ (if b then x else z)
else_same true x y z e = refl
else_same false x y z e = e refl

dtor_first : first (Seq dtor more_params) ≡ of_mark marks.Star ∷ name_classes
unfolding dtor a_mark a_name
dtor_first = refl

more_params_law : Law more_params (more_of param)
unfolding more_params
more_params_law = law_same (Many (Seq (a_mark marks.Comma) param))

void_first_law : Law (Seq (a_word words.Void) (Opt (Seq dtor more_params))) void_first_at
unfolding void_first_at a_word
void_first_law =
    law_seq _ (Opt (Seq dtor more_params)) (word_at words.Void) (λ ls. if heads (of_mark marks.Star ∷ name_classes) ls then (dtor_at ls >>= more_of param) else Ok ls) (law_one (of_word words.Void ∷ []) 1)
    (law_opt (Seq dtor more_params) (of_mark marks.Star ∷ name_classes) (λ ls. dtor_at ls >>= more_of param) dtor_first (law_seq dtor more_params dtor_at (more_of param) dtor_law more_params_law))

params_first : first (Alt (Seq (a_word words.Void) (Opt (Seq dtor more_params))) (Seq param_but_void more_params)) ≡ params_start
unfolding param_but_void attrs spec_but_void a_word typed a_name base sizeable
params_first = refl

void_only : first (Seq (a_word words.Void) (Opt (Seq dtor more_params))) ≡ of_word words.Void ∷ []
unfolding a_word
void_only = refl

null_params : null (Seq param_but_void more_params) ≡ false
unfolding param_but_void
null_params = refl

params_law : Law params params_at
unfolding params params_at
params_law =
    law_opt (Alt (Seq (a_word words.Void) (Opt (Seq dtor more_params))) (Seq param_but_void more_params)) params_start (λ ks. if heads (of_word words.Void ∷ []) ks then void_first_at ks else (param_at ks >>= more_of param)) params_first
    (λ ks. law_alt (Seq (a_word words.Void) (Opt (Seq dtor more_params))) (Seq param_but_void more_params) (of_word words.Void ∷ []) void_first_at (λ ls. parse rule param_but_void ls >>= more_of param) void_only null_params void_first_law (law_seq param_but_void more_params (parse rule param_but_void) (more_of param) (law_same param_but_void) more_params_law) ks
    ∙ else_same (heads (of_word words.Void ∷ []) ks) (void_first_at ks) (parse rule param_but_void ks >>= more_of param) (param_at ks >>= more_of param) (λ e. ap (λ r. r >>= more_of param) (but_void_param ks e)))

params_rule : Law (rule 13) params_at
unfolding rule
params_rule = params_law

-- ---- declarations

op_rest_law : Law op_rest op_rest_at
unfolding op_rest op_rest_at
op_rest_law = law_seq _ (a_mark marks.Semicolon) (λ ks. name_at ks >>= in_round params_at) (mark_at marks.Semicolon) (law_seq a_name _ name_at (in_round params_at) name_law (law_within (opening brackets.Round) 13 (closing brackets.Round) level_limit params_at params_rule)) semicolon_law

semicolon_first : first (a_mark marks.Semicolon) ≡ of_mark marks.Semicolon ∷ []
unfolding a_mark
semicolon_first = refl

op_rest_null : null op_rest ≡ false
unfolding op_rest a_name
op_rest_null = refl

tail_law : Law (Alt (a_mark marks.Semicolon) op_rest) (tail_at true)
unfolding tail_at
tail_law = law_alt (a_mark marks.Semicolon) op_rest (of_mark marks.Semicolon ∷ []) (mark_at marks.Semicolon) op_rest_at semicolon_first op_rest_null semicolon_law op_rest_law

op_tail : (ks : List Terminal) → op_rest_at ks ≡ tail_at false ks
unfolding tail_at
op_tail ks = refl

-- behind the word: with the tag or without
abbrev behind_word : Along → Along → Along
behind_word a b ls = if heads name_classes ls then (a ls >>= tail_at true) else (b ls >>= tail_at false)

then_op : (b : Along) (ls : List Terminal) → (b ls >>= op_rest_at) ≡ (b ls >>= tail_at false)
then_op b ls = bind_same (b ls) op_rest_at (tail_at false) op_tail

tagged_law : (tagged untagged : Ebnf) (a b : Along) → first tagged ≡ name_classes → first (Seq tagged (Alt (a_mark marks.Semicolon) op_rest)) ≡ name_classes → null (Seq untagged op_rest) ≡ false → Law tagged a → Law untagged b → Law (tagged_or tagged untagged) (behind_word a b)
tagged_law tagged untagged a b f g n p q ks =
    law_alt (Seq tagged (Alt (a_mark marks.Semicolon) op_rest)) (Seq untagged op_rest) name_classes (λ ls. a ls >>= tail_at true) (λ ls. b ls >>= op_rest_at) g n
    (law_seq tagged (Alt (a_mark marks.Semicolon) op_rest) a (tail_at true) p tail_law) (law_seq untagged op_rest b op_rest_at q op_rest_law) ks
    ∙ ap (λ r. if heads name_classes ks then (a ks >>= tail_at true) else r) (then_op b ks)

-- a spec by its tag, and then what may follow it
by_tag : (t : Bool) (x y : Result (List Terminal) Stuck) → (if t then (x >>= tail_at true) else (y >>= tail_at false)) ≡ ((if t then x else y) >>= tail_at t)
by_tag true x y = refl
by_tag false x y = refl

behind_is : (a b s : Along) → ((ls : List Terminal) → s ls ≡ (if heads name_classes ls then a ls else b ls)) → (ls : List Terminal) → behind_word a b ls ≡ (s ls >>= tail_at (heads name_classes ls))
behind_is a b s e ls = by_tag (heads name_classes ls) (a ls) (b ls) ∙ ap (λ r. r >>= tail_at (heads name_classes ls)) (sym (e ls))

word_step : (h i t : Bool) (k : Terminal) (ks : List Terminal) (f s : Along) → (h ≡ true) → f ks ≡ (s ks >>= tail_at t) → ((if h then sized i (Ok ks) (k ∷ ks) else Err (record { odd = false; rest = k ∷ ks })) >>= f) ≡ (((if h then sized i (Ok ks) (k ∷ ks) else Err (record { odd = false; rest = k ∷ ks })) >>= s) >>= tail_at t)
word_step true true t k ks f s h e = e
word_step true false t k ks f s h e = refl
word_step false i t k ks f s h e = cc

-- behind a word that may have a tag
word_law : (c : ℕ) (ks : List Terminal) (a b s : Along) → (heads (c ∷ []) ks ≡ true) → ((k : Terminal) (ls : List Terminal) → ks ≡ k ∷ ls → is_tagged ks ≡ heads name_classes ls) → ((ls : List Terminal) → s ls ≡ (if heads name_classes ls then a ls else b ls)) → (token (c ∷ []) 1 ks >>= behind_word a b) ≡ ((token (c ∷ []) 1 ks >>= s) >>= tail_at (is_tagged ks))
word_law c [] a b s h t e = cc
word_law c (k ∷ ks) a b s h t e =
    word_step (has k.class (c ∷ [])) (nat_lt k.size 1) (is_tagged (k ∷ ks)) k ks (behind_word a b) s h (behind_is a b s e ks ∙ ap (λ x. s ks >>= tail_at x) (sym (t k ks refl)))

and_left : (a b : Bool) → a ≡ true → (a && b) ≡ b
and_left true b e = refl
and_left false b e = cc

tagged_if : (ks : List Terminal) → heads (of_word words.Struct ∷ of_word words.Union ∷ of_word words.Enum ∷ []) ks ≡ true → (k : Terminal) (ls : List Terminal) → ks ≡ k ∷ ls → is_tagged ks ≡ heads name_classes ls
tagged_if [] h k ls e = cc
tagged_if (j ∷ js) h k ls e = and_left (heads (of_word words.Struct ∷ of_word words.Union ∷ of_word words.Enum ∷ []) (j ∷ js)) (heads name_classes js) h ∙ ap (λ x. heads name_classes x) same
  where
    same : js ≡ ls
    same = cc

untagged_if : (ks : List Terminal) → heads (of_word words.Struct ∷ of_word words.Union ∷ of_word words.Enum ∷ []) ks ≡ false → is_tagged ks ≡ false
untagged_if [] h = refl
untagged_if (j ∷ js) h = ap (λ x. x && heads name_classes js) h

or_first : (x y z : Bool) → x ≡ true → (x || (y || (z || false))) ≡ true
or_first true y z e = refl
or_first false y z e = cc

or_second : (x y z : Bool) → y ≡ true → (x || (y || (z || false))) ≡ true
or_second true y z e = refl
or_second false true z e = refl
or_second false false z e = cc

or_third : (x y z : Bool) → z ≡ true → (x || (y || (z || false))) ≡ true
or_third true y z e = refl
or_third false true z e = refl
or_third false false true e = refl
or_third false false false e = cc

or_none : (x y z : Bool) → x ≡ false → y ≡ false → z ≡ false → (x || (y || (z || false))) ≡ false
or_none false false false a b c = refl
or_none true y z a b c = cc
or_none false true z a b c = cc
or_none false false true a b c = cc

-- one class among three
or_false : (b : Bool) → (b || false) ≡ b
or_false true = refl
or_false false = refl

three : (ks : List Terminal) → heads (of_word words.Struct ∷ of_word words.Union ∷ of_word words.Enum ∷ []) ks ≡ (heads (of_word words.Struct ∷ []) ks || (heads (of_word words.Union ∷ []) ks || (heads (of_word words.Enum ∷ []) ks || false)))
three [] = refl
three (k ∷ ks) = ap (λ x. x || (eqb k.class (of_word words.Union) || (eqb k.class (of_word words.Enum) || false))) (sym (or_false (eqb k.class (of_word words.Struct)))) ∙ (ap (λ x. heads (of_word words.Struct ∷ []) (k ∷ ks) || (x || (eqb k.class (of_word words.Enum) || false))) (sym (or_false (eqb k.class (of_word words.Union)))) ∙ ap (λ x. heads (of_word words.Struct ∷ []) (k ∷ ks) || (heads (of_word words.Union ∷ []) (k ∷ ks) || (x || false))) (sym (or_false (eqb k.class (of_word words.Enum)))))

struct_is : (ls : List Terminal) → struct_rest_at ls ≡ (if heads name_classes ls then (name_at ls >>= if_next (opening brackets.Curly) (parse rule body)) else parse rule body ls)
unfolding struct_rest_at
struct_is ls = refl

name_or : (b : Bool) (x : Result (List Terminal) Stuck) (ls : List Terminal) (f : Along) → ((if b then x else Ok ls) >>= f) ≡ (if b then (x >>= f) else f ls)
name_or true x ls f = refl
name_or false x ls f = refl

union_is : (ls : List Terminal) → union_rest_at ls ≡ (if heads name_classes ls then (name_at ls >>= union_body_at) else union_body_at ls)
unfolding union_rest_at
union_is ls = name_or (heads name_classes ls) (name_at ls) ls union_body_at

enum_is : (ls : List Terminal) → enum_rest_at ls ≡ (if heads name_classes ls then (name_at ls >>= enum_body_at) else enum_body_at ls)
unfolding enum_rest_at
enum_is ls = name_or (heads name_classes ls) (name_at ls) ls enum_body_at

-- the four ways, by what comes next
four : (x y z : Bool) (ks : List Terminal) (a b c d a' b' c' d' : Result (List Terminal) Stuck) (t : Along)
    → (x ≡ true → a ≡ (a' >>= t)) → (y ≡ true → b ≡ (b' >>= t)) → (z ≡ true → c ≡ (c' >>= t)) → (x ≡ false → y ≡ false → z ≡ false → d ≡ (d' >>= t))
    → (if x then a else if y then b else if z then c else d) ≡ ((if x then a' else if y then b' else if z then c' else d') >>= t)
four true y z ks a b c d a' b' c' d' t p q r s = p refl
four false true z ks a b c d a' b' c' d' t p q r s = q refl
four false false true ks a b c d a' b' c' d' t p q r s = r refl
four false false false ks a b c d a' b' c' d' t p q r s = s refl refl refl

struct_words : (ks : List Terminal) → parse rule (Seq (a_word words.Struct) (tagged_or (Seq a_name (Opt body)) body)) ks ≡ (word_at words.Struct ks >>= behind_word (λ ls. name_at ls >>= if_next (opening brackets.Curly) (parse rule body)) (parse rule body))
unfolding a_word a_name body
struct_words = law_seq _ _ (word_at words.Struct) (behind_word (λ ls. name_at ls >>= if_next (opening brackets.Curly) (parse rule body)) (parse rule body)) (law_one (of_word words.Struct ∷ []) 1) (tagged_law _ _ (λ ls. name_at ls >>= if_next (opening brackets.Curly) (parse rule body)) (parse rule body) refl refl refl tagged_struct_law (law_same body))

union_words : (ks : List Terminal) → parse rule (Seq (a_word words.Union) (tagged_or (Seq a_name union_body) union_body)) ks ≡ (word_at words.Union ks >>= behind_word (λ ls. name_at ls >>= union_body_at) union_body_at)
unfolding a_word a_name union_body
union_words = law_seq _ _ (word_at words.Union) (behind_word (λ ls. name_at ls >>= union_body_at) union_body_at) (law_one (of_word words.Union ∷ []) 1) (tagged_law _ _ (λ ls. name_at ls >>= union_body_at) union_body_at refl refl refl (law_seq a_name union_body name_at union_body_at name_law union_body_law) union_body_law)

enum_words : (ks : List Terminal) → parse rule (Seq (a_word words.Enum) (tagged_or (Seq a_name enum_body) enum_body)) ks ≡ (word_at words.Enum ks >>= behind_word (λ ls. name_at ls >>= enum_body_at) enum_body_at)
unfolding a_word a_name enum_body
enum_words = law_seq _ _ (word_at words.Enum) (behind_word (λ ls. name_at ls >>= enum_body_at) enum_body_at) (law_one (of_word words.Enum ∷ []) 1) (tagged_law _ _ (λ ls. name_at ls >>= enum_body_at) enum_body_at refl refl refl (law_seq a_name enum_body name_at enum_body_at name_law enum_body_law) enum_body_law)

plain_op_law : Law (Seq plain op_rest) (λ ks. plain_at ks >>= op_rest_at)
plain_op_law = law_seq plain op_rest plain_at op_rest_at plain_law op_rest_law

first_struct : (g : Ebnf) → first (Seq (a_word words.Struct) g) ≡ of_word words.Struct ∷ []
unfolding a_word
first_struct g = refl

first_union : (g : Ebnf) → first (Seq (a_word words.Union) g) ≡ of_word words.Union ∷ []
unfolding a_word
first_union g = refl

first_enum : (g : Ebnf) → first (Seq (a_word words.Enum) g) ≡ of_word words.Enum ∷ []
unfolding a_word
first_enum g = refl

null_word : (g h : Ebnf) → null (Alt g h) ≡ false
null_word g h = refl

null_plain_op : null (Seq plain op_rest) ≡ false
unfolding plain
null_plain_op = refl

by_words : Law lone_or_op (λ ks. if heads (of_word words.Struct ∷ []) ks then parse rule (Seq (a_word words.Struct) (tagged_or (Seq a_name (Opt body)) body)) ks else if heads (of_word words.Union ∷ []) ks then parse rule (Seq (a_word words.Union) (tagged_or (Seq a_name union_body) union_body)) ks else if heads (of_word words.Enum ∷ []) ks then parse rule (Seq (a_word words.Enum) (tagged_or (Seq a_name enum_body) enum_body)) ks else (plain_at ks >>= op_rest_at))
unfolding lone_or_op
by_words =
    law_alt (Seq (a_word words.Struct) (tagged_or (Seq a_name (Opt body)) body)) _ (of_word words.Struct ∷ []) _ _ (first_struct (tagged_or (Seq a_name (Opt body)) body)) refl (law_same _)
    (law_alt (Seq (a_word words.Union) (tagged_or (Seq a_name union_body) union_body)) _ (of_word words.Union ∷ []) _ _ (first_union (tagged_or (Seq a_name union_body) union_body)) refl (law_same _)
    (law_alt (Seq (a_word words.Enum) (tagged_or (Seq a_name enum_body) enum_body)) (Seq plain op_rest) (of_word words.Enum ∷ []) _ (λ ks. plain_at ks >>= op_rest_at) (first_enum (tagged_or (Seq a_name enum_body) enum_body)) null_plain_op (law_same _) plain_op_law))

spec_four : (ks : List Terminal) → spec_at ks ≡ (if heads (of_word words.Struct ∷ []) ks then (word_at words.Struct ks >>= struct_rest_at) else if heads (of_word words.Union ∷ []) ks then (word_at words.Union ks >>= union_rest_at) else if heads (of_word words.Enum ∷ []) ks then (word_at words.Enum ks >>= enum_rest_at) else plain_at ks)
unfolding spec_at
spec_four ks = refl

tagged_36 : (ks : List Terminal) → heads (of_word words.Struct ∷ []) ks ≡ true → heads (of_word words.Struct ∷ of_word words.Union ∷ of_word words.Enum ∷ []) ks ≡ true
tagged_36 ks e = three ks ∙ or_first (heads (of_word words.Struct ∷ []) ks) (heads (of_word words.Union ∷ []) ks) (heads (of_word words.Enum ∷ []) ks) e

tagged_37 : (ks : List Terminal) → heads (of_word words.Union ∷ []) ks ≡ true → heads (of_word words.Struct ∷ of_word words.Union ∷ of_word words.Enum ∷ []) ks ≡ true
tagged_37 ks e = three ks ∙ or_second (heads (of_word words.Struct ∷ []) ks) (heads (of_word words.Union ∷ []) ks) (heads (of_word words.Enum ∷ []) ks) e

tagged_39 : (ks : List Terminal) → heads (of_word words.Enum ∷ []) ks ≡ true → heads (of_word words.Struct ∷ of_word words.Union ∷ of_word words.Enum ∷ []) ks ≡ true
tagged_39 ks e = three ks ∙ or_third (heads (of_word words.Struct ∷ []) ks) (heads (of_word words.Union ∷ []) ks) (heads (of_word words.Enum ∷ []) ks) e

plain_tail : (ks : List Terminal) → heads (of_word words.Struct ∷ []) ks ≡ false → heads (of_word words.Union ∷ []) ks ≡ false → heads (of_word words.Enum ∷ []) ks ≡ false → (plain_at ks >>= op_rest_at) ≡ (plain_at ks >>= tail_at (is_tagged ks))
plain_tail ks x y z =
    then_op plain_at ks ∙ ap (λ b. plain_at ks >>= tail_at b) (sym (untagged_if ks (three ks ∙ or_none (heads (of_word words.Struct ∷ []) ks) (heads (of_word words.Union ∷ []) ks) (heads (of_word words.Enum ∷ []) ks) x y z)))

lone_or_op_law : Law lone_or_op lone_or_op_at
unfolding lone_or_op_at
lone_or_op_law ks =
    by_words ks
    ∙ (four (heads (of_word words.Struct ∷ []) ks) (heads (of_word words.Union ∷ []) ks) (heads (of_word words.Enum ∷ []) ks) ks _ _ _ (plain_at ks >>= op_rest_at) (word_at words.Struct ks >>= struct_rest_at) (word_at words.Union ks >>= union_rest_at) (word_at words.Enum ks >>= enum_rest_at) (plain_at ks) (tail_at (is_tagged ks))
    (λ h. struct_words ks ∙ word_law (of_word words.Struct) ks (λ ls. name_at ls >>= if_next (opening brackets.Curly) (parse rule body)) (parse rule body) struct_rest_at h (tagged_if ks (tagged_36 ks h)) struct_is)
    (λ h. union_words ks ∙ word_law (of_word words.Union) ks (λ ls. name_at ls >>= union_body_at) union_body_at union_rest_at h (tagged_if ks (tagged_37 ks h)) union_is)
    (λ h. enum_words ks ∙ word_law (of_word words.Enum) ks (λ ls. name_at ls >>= enum_body_at) enum_body_at enum_rest_at h (tagged_if ks (tagged_39 ks h)) enum_is)
    (plain_tail ks)
    ∙ ap (λ r. r >>= tail_at (is_tagged ks)) (sym (spec_four ks)))

const_law : Law const_decl const_decl_at
unfolding const_decl const_decl_at a_word a_mark
const_law =
    law_seq _ _ (λ ks. (((word_at words.Const ks >>= base_at) >>= name_at) >>= mark_at marks.Equals) >>= signed_at) (mark_at marks.Semicolon)
    (law_seq _ _ (λ ks. ((word_at words.Const ks >>= base_at) >>= name_at) >>= mark_at marks.Equals) signed_at
    (law_seq _ _ (λ ks. (word_at words.Const ks >>= base_at) >>= name_at) (mark_at marks.Equals)
    (law_seq _ _ (λ ks. word_at words.Const ks >>= base_at) name_at (law_seq _ _ (word_at words.Const) base_at (law_one (of_word words.Const ∷ []) 1) base_law) name_law)
    (law_one (of_mark marks.Equals ∷ []) 1)) signed_law)
    (law_one (of_mark marks.Semicolon ∷ []) 1)

typedef_law : Law typedef_decl typedef_decl_at
unfolding typedef_decl typedef_decl_at a_word a_mark
typedef_law =
    law_seq _ _ (λ ks. ((word_at words.Typedef ks >>= if_attrs_at) >>= spec_at) >>= dtors_at) (mark_at marks.Semicolon)
    (law_seq _ _ (λ ks. (word_at words.Typedef ks >>= if_attrs_at) >>= spec_at) dtors_at
    (law_seq _ _ (λ ks. word_at words.Typedef ks >>= if_attrs_at) spec_at (law_seq _ _ (word_at words.Typedef) if_attrs_at (law_one (of_word words.Typedef ∷ []) 1) if_attrs_law) spec_law) dtors_law)
    (law_one (of_mark marks.Semicolon ∷ []) 1)

const_first : first const_decl ≡ of_word words.Const ∷ []
unfolding const_decl a_word
const_first = refl

typedef_first : first typedef_decl ≡ of_word words.Typedef ∷ []
unfolding typedef_decl a_word
typedef_first = refl

lone_null : null (Seq (Opt attrs) lone_or_op) ≡ false
unfolding lone_or_op
lone_null = refl

decl_law : Law decl decl_at
unfolding decl decl_at
decl_law =
    law_alt const_decl (Alt typedef_decl (Seq (Opt attrs) lone_or_op)) (of_word words.Const ∷ []) const_decl_at (λ ks. if heads (of_word words.Typedef ∷ []) ks then typedef_decl_at ks else (if_attrs_at ks >>= lone_or_op_at)) const_first refl const_law
    (law_alt typedef_decl (Seq (Opt attrs) lone_or_op) (of_word words.Typedef ∷ []) typedef_decl_at (λ ks. if_attrs_at ks >>= lone_or_op_at) typedef_first lone_null typedef_law
    (law_seq (Opt attrs) lone_or_op if_attrs_at lone_or_op_at if_attrs_law lone_or_op_law))

decl_first : first decl ≡ decl_start
unfolding decl const_decl typedef_decl attrs lone_or_op a_word plain typed a_name base sizeable
decl_first = refl

pub more_decls : (ks : List Terminal) → decls_at ks ≡ (if heads decl_start ks then (decl_at ks >>= decls_at) else Ok ks)
more_decls = law_many decl decl_start decl_at decl_first decl_law

decls_rule : Law (rule 8) decls_at
unfolding rule
decls_rule = law_same (Many decl)

pub file_law : (ks : List Terminal) → parse rule file ks ≡ file_at ks
unfolding file file_at file_attrs_at decl_body_at a_word the_end
file_law =
    law_seq _ _ (λ ks. ((file_attrs_at ks >>= word_at words.Interface) >>= name_at) >>= decl_body_at) end_at
    (law_seq _ _ (λ ks. (file_attrs_at ks >>= word_at words.Interface) >>= name_at) decl_body_at
    (law_seq _ _ (λ ks. file_attrs_at ks >>= word_at words.Interface) name_at
    (law_seq _ _ file_attrs_at (word_at words.Interface) (law_within (opening brackets.Square) 3 (closing brackets.Square) level_limit file_attr_list_at file_attr_rule) (law_one (of_word words.Interface ∷ []) 1)) name_law)
    (law_within (opening brackets.Curly) 8 (closing brackets.Curly) level_limit decls_at decls_rule))
    (law_one (end_class ∷ []) 1)
