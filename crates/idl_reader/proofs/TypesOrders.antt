-- The readers' order and the grammar are one.
use Rattle.std.proofs.Common.{◌≡◌, ℕ, false, List, [], ◌∷◌, refl}
use Rattle.std.specs.Prelude.{if◌then◌else◌, Ok}
use Rattle.idl_tokens.specs.Ebnf.{Terminal}
use Rattle.idl_tokens.specs.Ebnf.Ebnf.{Seq, Alt, Opt, Many}
use Rattle.idl_tokens.specs.Machine.{null, parse, token, ◌>>=◌}
use Rattle.idl_tokens.specs.Checks.{first, heads}
use Rattle.idl_tokens.specs.declared.marks.Mark.TheVariants as marks
use Rattle.idl_tokens.specs.declared.marks.Bracket.TheVariants as brackets
use Rattle.idl_tree.specs.Combinators.{a_word, a_mark, a_name, a_range, name_classes, level_limit}
use Rattle.idl_tree.specs.Grammar.{rule, sizeable, base, dtors, body, struct_rest, switch_part, union_body, union_rest, enum_rest, typed, plain, spec, attr, attrs, member, members, label, arm, arms}
use Rattle.idl_parts.proofs.Orders.{Law, law_seq, law_opt, law_alt, law_within, law_one, law_same, law_many, law_more, name_law, base_law, dtors_law, if_name_law, enum_rest_law, ref_rule, star_rule, bounds_rule, labels_law}
use Rattle.idl_parts.specs.Along.{Along, if_next, in_round, more_of, name_at, base_at, dtors_at, enum_rest_at, star_name_at, size_ref_at, plain_attr_start, plain_attr_at, size_attr_at, switch_is_at, range_attr_at, range_at, bounds_at, labels_at, if_among, word_at, mark_at}
use Rattle.idl_reader.specs.TypesAlong.{own_word_at, typed_at, plain_at, struct_rest_at, arms_part, union_body_at, union_rest_at, spec_start, member_start, spec_at, attr_at, comma_attr_at, attr_list_at, attrs_at, if_attrs_at, member_at, more_members_at, members_at, body_at, switch_type_at, switch_at, arm_at, more_arms_at, arm_list_at, arms_at}
use Rattle.idl_tokens.specs.Terminals.{of_word, of_mark, opening, closing, range_class}
use Rattle.idl_tokens.specs.declared.words.Word.TheVariants as words

-- ---- specs

base_null : null base ≡ false
unfolding base a_word sizeable
base_null = refl

pub typed_law : Law typed typed_at
unfolding typed typed_at own_word_at a_name
typed_law =
    law_alt _ _ name_classes name_at (λ ks. if heads (of_word words.HandleT ∷ of_word words.ErrorStatusT ∷ []) ks then token (of_word words.HandleT ∷ of_word words.ErrorStatusT ∷ []) 1 ks else base_at ks) refl refl (law_one name_classes 1)
    (law_alt _ base (of_word words.HandleT ∷ of_word words.ErrorStatusT ∷ []) (token (of_word words.HandleT ∷ of_word words.ErrorStatusT ∷ []) 1) base_at refl base_null (law_one (of_word words.HandleT ∷ of_word words.ErrorStatusT ∷ []) 1) base_law)

typed_null : null typed ≡ false
unfolding typed
typed_null = refl

pub plain_law : Law plain plain_at
unfolding plain plain_at a_word
plain_law = law_alt _ typed (of_word words.Void ∷ []) (word_at words.Void) typed_at refl typed_null (law_one (of_word words.Void ∷ []) 1) typed_law

struct_first : first (Seq a_name (Opt body)) ≡ name_classes
unfolding a_name
struct_first = refl

body_first : first body ≡ opening brackets.Curly ∷ []
unfolding body
body_first = refl

body_null : null body ≡ false
unfolding body
body_null = refl

pub tagged_struct_law : Law (Seq a_name (Opt body)) (λ ks. name_at ks >>= if_next (opening brackets.Curly) (parse rule body))
tagged_struct_law = law_seq a_name (Opt body) name_at (if_next (opening brackets.Curly) (parse rule body)) name_law (law_opt body (opening brackets.Curly ∷ []) (parse rule body) body_first (law_same body))

pub struct_rest_law : Law struct_rest struct_rest_at
unfolding struct_rest struct_rest_at
struct_rest_law = law_alt (Seq a_name (Opt body)) body name_classes (λ ks. name_at ks >>= if_next (opening brackets.Curly) (parse rule body)) (parse rule body) struct_first body_null tagged_struct_law (law_same body)

switch_first : first switch_part ≡ of_word words.Switch ∷ []
unfolding switch_part a_word
switch_first = refl

pub union_body_law : Law union_body union_body_at
unfolding union_body union_body_at
union_body_law = law_seq (Opt switch_part) arms_part (if_next (of_word words.Switch) (parse rule switch_part)) (parse rule arms_part) (law_opt switch_part (of_word words.Switch ∷ []) (parse rule switch_part) switch_first (law_same switch_part)) (law_same arms_part)

pub union_rest_law : Law union_rest union_rest_at
unfolding union_rest union_rest_at
union_rest_law = law_seq (Opt a_name) union_body (if_among name_classes name_at) union_body_at if_name_law union_body_law

plain_null : null plain ≡ false
unfolding plain
plain_null = refl

pub spec_law : Law spec spec_at
unfolding spec spec_at a_word
spec_law =
    law_alt _ _ (of_word words.Struct ∷ []) (λ ks. word_at words.Struct ks >>= struct_rest_at) (λ ks. if heads (of_word words.Union ∷ []) ks then (word_at words.Union ks >>= union_rest_at) else if heads (of_word words.Enum ∷ []) ks then (word_at words.Enum ks >>= enum_rest_at) else plain_at ks) refl refl
    (law_seq _ struct_rest (word_at words.Struct) struct_rest_at (law_one (of_word words.Struct ∷ []) 1) struct_rest_law)
    (law_alt _ _ (of_word words.Union ∷ []) (λ ks. word_at words.Union ks >>= union_rest_at) (λ ks. if heads (of_word words.Enum ∷ []) ks then (word_at words.Enum ks >>= enum_rest_at) else plain_at ks) refl refl
    (law_seq _ union_rest (word_at words.Union) union_rest_at (law_one (of_word words.Union ∷ []) 1) union_rest_law)
    (law_alt _ plain (of_word words.Enum ∷ []) (λ ks. word_at words.Enum ks >>= enum_rest_at) plain_at refl plain_null
    (law_seq _ enum_rest (word_at words.Enum) enum_rest_at (law_one (of_word words.Enum ∷ []) 1) enum_rest_law)
    plain_law))

pub spec_first : first spec ≡ spec_start
unfolding spec a_word plain typed a_name base sizeable
spec_first = refl

spec_rule : Law (rule 12) spec_at
unfolding rule
spec_rule = spec_law

-- ---- attributes

abbrev size_words : List ℕ
size_words = of_word words.SizeIs ∷ of_word words.MaxIs ∷ of_word words.LengthIs ∷ []

-- from switch_type on, from switch_is on, and from the sizes on
abbrev from_type : Along
from_type ks = if heads (of_word words.SwitchType ∷ []) ks then (word_at words.SwitchType ks >>= in_round spec_at) else (range_at ks >>= in_round bounds_at)

abbrev from_switch : Along
from_switch ks = if heads (of_word words.SwitchIs ∷ []) ks then (word_at words.SwitchIs ks >>= in_round star_name_at) else from_type ks

abbrev from_size : Along
from_size ks = if heads size_words ks then (token size_words 1 ks >>= in_round size_ref_at) else from_switch ks

pub attr_law : Law attr attr_at
unfolding attr attr_at plain_attr_at size_attr_at switch_is_at range_attr_at a_word a_range
attr_law =
    law_alt _ _ plain_attr_start (token plain_attr_start 1) from_size refl refl (law_one plain_attr_start 1)
    (law_alt _ _ size_words (λ ks. token size_words 1 ks >>= in_round size_ref_at) from_switch refl refl
    (law_seq _ _ (token size_words 1) (in_round size_ref_at) (law_one size_words 1) (law_within (opening brackets.Round) 10 (closing brackets.Round) level_limit size_ref_at ref_rule))
    (law_alt _ _ (of_word words.SwitchIs ∷ []) (λ ks. word_at words.SwitchIs ks >>= in_round star_name_at) from_type refl refl
    (law_seq _ _ (word_at words.SwitchIs) (in_round star_name_at) (law_one (of_word words.SwitchIs ∷ []) 1) (law_within (opening brackets.Round) 11 (closing brackets.Round) level_limit star_name_at star_rule))
    (law_alt _ _ (of_word words.SwitchType ∷ []) (λ ks. word_at words.SwitchType ks >>= in_round spec_at) (λ ks. range_at ks >>= in_round bounds_at) refl refl
    (law_seq _ _ (word_at words.SwitchType) (in_round spec_at) (law_one (of_word words.SwitchType ∷ []) 1) (law_within (opening brackets.Round) 12 (closing brackets.Round) level_limit spec_at spec_rule))
    (law_seq _ _ range_at (in_round bounds_at) (law_one (range_class ∷ []) 1) (law_within (opening brackets.Round) 17 (closing brackets.Round) level_limit bounds_at bounds_rule)))))

pub more_attrs : (ks : List Terminal) → more_of attr ks ≡ (if heads (of_mark marks.Comma ∷ []) ks then (comma_attr_at ks >>= more_of attr) else Ok ks)
unfolding comma_attr_at
more_attrs = law_more attr attr_at attr_law

attr_rule : Law (rule 9) attr_list_at
unfolding rule attr_list_at
attr_rule = law_seq attr (Many (Seq (a_mark marks.Comma) attr)) attr_at (more_of attr) attr_law (law_same (Many (Seq (a_mark marks.Comma) attr)))

pub attrs_law : (ks : List Terminal) → parse rule attrs ks ≡ attrs_at ks
unfolding attrs attrs_at
attrs_law = law_within (opening brackets.Square) 9 (closing brackets.Square) level_limit attr_list_at attr_rule

attrs_first : first attrs ≡ opening brackets.Square ∷ []
unfolding attrs
attrs_first = refl

pub if_attrs_law : Law (Opt attrs) if_attrs_at
if_attrs_law = law_opt attrs (opening brackets.Square ∷ []) (parse rule attrs) attrs_first (law_same attrs)

-- ---- members and arms

pub attrs_spec_law : Law (Seq (Opt attrs) spec) (λ ks. if_attrs_at ks >>= spec_at)
attrs_spec_law = law_seq (Opt attrs) spec if_attrs_at spec_at if_attrs_law spec_law

pub semicolon_law : Law (a_mark marks.Semicolon) (mark_at marks.Semicolon)
unfolding a_mark
semicolon_law = law_one (of_mark marks.Semicolon ∷ []) 1

pub member_law : Law member member_at
unfolding member member_at
member_law =
    law_seq (Seq (Seq (Opt attrs) spec) dtors) (a_mark marks.Semicolon) (λ ks. (if_attrs_at ks >>= spec_at) >>= dtors_at) (mark_at marks.Semicolon)
    (law_seq (Seq (Opt attrs) spec) dtors (λ ks. if_attrs_at ks >>= spec_at) dtors_at attrs_spec_law dtors_law) semicolon_law

member_first : first member ≡ member_start
unfolding member attrs spec a_word plain typed a_name base sizeable
member_first = refl

pub more_members : (ks : List Terminal) → more_members_at ks ≡ (if heads member_start ks then (member_at ks >>= more_members_at) else Ok ks)
more_members = law_many member member_start member_at member_first member_law

members_rule : Law (rule 2) members_at
unfolding rule members members_at
members_rule = law_seq member (Many member) member_at more_members_at member_law (law_same (Many member))

pub body_law : (ks : List Terminal) → parse rule body ks ≡ body_at ks
unfolding body body_at
body_law = law_within (opening brackets.Curly) 2 (closing brackets.Curly) level_limit members_at members_rule

switch_rule : Law (rule 14) switch_type_at
unfolding rule switch_type_at
switch_rule = law_seq spec a_name spec_at name_at spec_law name_law

pub switch_law : (ks : List Terminal) → parse rule switch_part ks ≡ switch_at ks
unfolding switch_part switch_at a_word
switch_law =
    law_seq _ (Opt a_name) (λ ks. word_at words.Switch ks >>= in_round switch_type_at) (if_among name_classes name_at)
    (law_seq _ _ (word_at words.Switch) (in_round switch_type_at) (law_one (of_word words.Switch ∷ []) 1) (law_within (opening brackets.Round) 14 (closing brackets.Round) level_limit switch_type_at switch_rule)) if_name_law

semicolon_null : null (a_mark marks.Semicolon) ≡ false
unfolding a_mark
semicolon_null = refl

pub arm_law : Law arm arm_at
unfolding arm arm_at
arm_law =
    law_seq (Seq label (Many label)) (Alt member (a_mark marks.Semicolon)) labels_at (λ ls. if heads member_start ls then member_at ls else mark_at marks.Semicolon ls) labels_law
    (law_alt member (a_mark marks.Semicolon) member_start member_at (mark_at marks.Semicolon) member_first semicolon_null member_law semicolon_law)

arm_first : first arm ≡ of_word words.Case ∷ of_word words.Default ∷ []
unfolding arm label a_word
arm_first = refl

pub more_arms : (ks : List Terminal) → more_arms_at ks ≡ (if heads (of_word words.Case ∷ of_word words.Default ∷ []) ks then (arm_at ks >>= more_arms_at) else Ok ks)
more_arms = law_many arm (of_word words.Case ∷ of_word words.Default ∷ []) arm_at arm_first arm_law

arm_rule : Law (rule 15) arm_list_at
unfolding rule arms arm_list_at
arm_rule = law_seq arm (Many arm) arm_at more_arms_at arm_law (law_same (Many arm))

pub arms_law : (ks : List Terminal) → parse rule arms_part ks ≡ arms_at ks
unfolding arms_at
arms_law = law_within (opening brackets.Curly) 15 (closing brackets.Curly) level_limit arm_list_at arm_rule
