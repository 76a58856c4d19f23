-- The readers' order and the grammar are one.
use Rattle.std.proofs.Common.{◌≡◌, ℕ, Bool, true, false, List, [], ◌∷◌, refl, ◌^◌, ap, sym, ◌∙◌}
use Rattle.std.specs.Prelude.{if◌then◌else◌, Result, Ok, Err, ◌++◌}
use Rattle.idl_tokens.specs.Ebnf.{Ebnf, Terminal}
use Rattle.idl_tokens.specs.Ebnf.Ebnf.{One, Seq, Alt, Opt, Many, Within}
use Rattle.idl_tokens.specs.Machine.{null, Stuck, parse, token, ◌>>=◌}
use Rattle.idl_tokens.specs.Checks.{first, heads}
use Rattle.idl_tokens.proofs.Equations.{parse_one, parse_seq, parse_opt, parse_alt, parse_many, parse_within}
use Rattle.idl_tokens.proofs.Starts.{starts_first}
use Rattle.idl_tokens.specs.declared.marks.Mark.TheVariants as marks
use Rattle.idl_tokens.specs.declared.marks.Bracket.TheVariants as brackets
use Rattle.idl_tree.specs.Combinators.{a_word, a_mark, a_name, a_number, in_brackets, name_classes, level_limit}
use Rattle.idl_tree.specs.Grammar.{rule, pk, signed, bounds, sizeable, base, array_size, dtor, dtors, enum_body, enum_rest, plain, star_name, size_ref, label}
use Rattle.idl_parts.specs.Along.{Along, if_next, more_of, name_at, number_at, signed_at, pk_at, int_size_at, sizeable_at, base_at, array_size_at, array_at, stars_at, dtor_at, comma_dtor_at, dtors_at, comma_name_at, names_at, enum_body_at, enum_rest_at, star_name_at, size_ref_at, bounds_at, case_value_at, case_label_at, label_at, more_labels_at, labels_at, if_among, word_at, mark_at, open_at, shut_at}
use Rattle.idl_tokens.specs.Terminals.{of_word, of_mark, opening, closing, number_class}
use Rattle.idl_tokens.specs.declared.words.Word.TheVariants as words

abbrev pub Law : Ebnf → Along → Type 0
Law g f = (ks : List Terminal) → parse rule g ks ≡ f ks

pub bind_same : (x : Result (List Terminal) Stuck) (f g : Along) → ((ks : List Terminal) → f ks ≡ g ks) → (x >>= f) ≡ (x >>= g)
bind_same (Ok ks) f g e = e ks
bind_same (Err y) f g e = refl

pub law_seq : (a b : Ebnf) (f g : Along) → Law a f → Law b g → Law (Seq a b) (λ ks. f ks >>= g)
law_seq a b f g p q ks = parse_seq rule a b ks ∙ (ap (λ r. r >>= parse rule b) (p ks) ∙ bind_same (f ks) (parse rule b) g q)

pub law_opt : (a : Ebnf) (cs : List ℕ) (f : Along) → first a ≡ cs → Law a f → Law (Opt a) (λ ks. if heads cs ks then f ks else Ok ks)
law_opt a cs f is p ks =
    parse_opt rule a ks ∙ (ap (λ b. if b then parse rule a ks else Ok ks) (starts_first rule a ks ∙ ap (λ x. heads x ks) is) ∙ ap (λ r. if heads cs ks then r else Ok ks) (p ks))

pub law_alt : (a b : Ebnf) (cs : List ℕ) (f g : Along) → first a ≡ cs → null b ≡ false → Law a f → Law b g → Law (Alt a b) (λ ks. if heads cs ks then f ks else g ks)
law_alt a b cs f g is n p q ks =
    parse_alt rule a b ks n ∙ (ap (λ x. if x then parse rule a ks else parse rule b ks) (starts_first rule a ks ∙ ap (λ x. heads x ks) is)
    ∙ (ap (λ r. if heads cs ks then r else parse rule b ks) (p ks) ∙ ap (λ r. if heads cs ks then f ks else r) (q ks)))

pub law_within : (o r c m : ℕ) (f : Along) → Law (rule r) f → Law (Within o r c m) (λ ks. (token (o ∷ []) m ks >>= f) >>= token (c ∷ []) m)
law_within o r c m f p ks = parse_within rule o r c m ks ∙ ap (λ x. x >>= token (c ∷ []) m) (bind_same (token (o ∷ []) m ks) (parse rule (rule r)) f p)

pub law_one : (cs : List ℕ) (m : ℕ) → Law (One cs m) (token cs m)
law_one cs m ks = parse_one rule cs m ks

-- the grammar itself
pub law_same : (g : Ebnf) → Law g (parse rule g)
law_same g ks = refl

pub law_many : (g : Ebnf) (cs : List ℕ) (f : Along) → first g ≡ cs → Law g f → Law (Many g) (λ ks. if heads cs ks then (f ks >>= parse rule (Many g)) else Ok ks)
law_many g cs f is law ks =
    parse_many rule g ks
    ∙ (ap (λ b. if b then (parse rule g ks >>= parse rule (Many g)) else Ok ks) (starts_first rule g ks ∙ ap (λ x. heads x ks) is)
    ∙ ap (λ r. if heads cs ks then (r >>= parse rule (Many g)) else Ok ks) (law ks))

comma_first : (g : Ebnf) → first (Seq (a_mark marks.Comma) g) ≡ of_mark marks.Comma ∷ []
unfolding a_mark
comma_first g = refl

pub comma_law : (g : Ebnf) (f : Along) → Law g f → Law (Seq (a_mark marks.Comma) g) (λ ks. mark_at marks.Comma ks >>= f)
unfolding a_mark
comma_law g f law = law_seq (a_mark marks.Comma) g (mark_at marks.Comma) f (law_one (of_mark marks.Comma ∷ []) 1) law

-- more of a part behind commas
pub law_more : (g : Ebnf) (f : Along) → Law g f → (ks : List Terminal) → more_of g ks ≡ (if heads (of_mark marks.Comma ∷ []) ks then ((mark_at marks.Comma ks >>= f) >>= more_of g) else Ok ks)
law_more g f law = law_many (Seq (a_mark marks.Comma) g) (of_mark marks.Comma ∷ []) (λ ks. mark_at marks.Comma ks >>= f) (comma_first g) (comma_law g f law)

-- ---- numbers and base types

pub name_law : Law a_name name_at
unfolding a_name
name_law = law_one name_classes 1

pub signed_law : Law signed signed_at
unfolding signed signed_at a_mark a_number
signed_law = law_seq _ _ (if_next (of_mark marks.Minus) (mark_at marks.Minus)) number_at (law_opt _ (of_mark marks.Minus ∷ []) (mark_at marks.Minus) refl (law_one (of_mark marks.Minus ∷ []) 1)) (law_one (number_class ∷ []) (2 ^ 64))

pub pk_law : Law pk pk_at
unfolding pk pk_at
pk_law = law_one (of_word words.Ref ∷ of_word words.Unique ∷ of_word words.Ptr ∷ []) 1

pub sizeable_law : Law sizeable sizeable_at
unfolding sizeable sizeable_at int_size_at a_word
sizeable_law =
    law_alt _ _ (of_word words.Char ∷ []) (word_at words.Char) (λ ks. token (of_word words.Small ∷ of_word words.Short ∷ of_word words.Long ∷ of_word words.Hyper ∷ []) 1 ks >>= if_next (of_word words.Int) (word_at words.Int)) refl refl (law_one (of_word words.Char ∷ []) 1)
    (law_seq _ _ (token (of_word words.Small ∷ of_word words.Short ∷ of_word words.Long ∷ of_word words.Hyper ∷ []) 1) (if_next (of_word words.Int) (word_at words.Int)) (law_one (of_word words.Small ∷ of_word words.Short ∷ of_word words.Long ∷ of_word words.Hyper ∷ []) 1) (law_opt _ (of_word words.Int ∷ []) (word_at words.Int) refl (law_one (of_word words.Int ∷ []) 1)))

null_sizeable : null sizeable ≡ false
unfolding sizeable a_word
null_sizeable = refl

then_or : (b : Bool) (x y : Result (List Terminal) Stuck) (f : Along) (z : Result (List Terminal) Stuck) → (y >>= f) ≡ z → (if b then (x >>= f) else z) ≡ ((if b then x else y) >>= f)
then_or true x y f z e = refl
then_or false x y f z e = sym e

pub base_law : Law base base_at
unfolding base base_at a_word
base_law ks =
    law_alt _ _ (of_word words.Boolean ∷ []) (word_at words.Boolean) (λ ls. if heads (of_word words.Byte ∷ []) ls then word_at words.Byte ls else (if heads (of_word words.Unsigned ∷ []) ls then (word_at words.Unsigned ls >>= sizeable_at) else sizeable_at ls)) refl refl (law_one (of_word words.Boolean ∷ []) 1)
    (law_alt _ _ (of_word words.Byte ∷ []) (word_at words.Byte) (λ ls. if heads (of_word words.Unsigned ∷ []) ls then (word_at words.Unsigned ls >>= sizeable_at) else sizeable_at ls) refl refl (law_one (of_word words.Byte ∷ []) 1)
    (law_alt _ sizeable (of_word words.Unsigned ∷ []) (λ ls. word_at words.Unsigned ls >>= sizeable_at) sizeable_at refl null_sizeable (law_seq _ sizeable (word_at words.Unsigned) sizeable_at (law_one (of_word words.Unsigned ∷ []) 1) sizeable_law) sizeable_law)) ks
    ∙ ap (λ r. if heads (of_word words.Boolean ∷ []) ks then word_at words.Boolean ks else if heads (of_word words.Byte ∷ []) ks then word_at words.Byte ks else r) (then_or (heads (of_word words.Unsigned ∷ []) ks) (word_at words.Unsigned ks) (Ok ks) sizeable_at (sizeable_at ks) refl)

-- ---- declarators

pub array_size_law : Law array_size array_size_at
unfolding array_size array_size_at a_number a_name a_mark
array_size_law = law_opt _ (number_class ∷ (name_classes ++ (of_mark marks.Star ∷ []))) _ refl (law_alt _ _ (number_class ∷ []) number_at _ refl refl (law_one (number_class ∷ []) (2 ^ 64)) (law_alt _ _ name_classes name_at (mark_at marks.Star) refl refl (law_one name_classes 1) (law_one (of_mark marks.Star ∷ []) 1)))

size_rule : Law (rule 1) array_size_at
unfolding rule
size_rule = array_size_law

pub array_law : Law (Opt (in_brackets brackets.Square 1)) array_at
unfolding array_at
array_law = law_opt (in_brackets brackets.Square 1) (opening brackets.Square ∷ []) (λ ks. (open_at brackets.Square ks >>= array_size_at) >>= shut_at brackets.Square) refl (law_within (opening brackets.Square) 1 (closing brackets.Square) level_limit array_size_at size_rule)

star_first : first (a_mark marks.Star) ≡ of_mark marks.Star ∷ []
unfolding a_mark
star_first = refl

pub star_law : Law (a_mark marks.Star) (mark_at marks.Star)
unfolding a_mark
star_law = law_one (of_mark marks.Star ∷ []) 1

pub more_stars : (ks : List Terminal) → stars_at ks ≡ (if heads (of_mark marks.Star ∷ []) ks then (mark_at marks.Star ks >>= stars_at) else Ok ks)
more_stars = law_many (a_mark marks.Star) (of_mark marks.Star ∷ []) (mark_at marks.Star) star_first star_law

pub dtor_law : Law dtor dtor_at
unfolding dtor dtor_at
dtor_law = law_seq (Seq (Many (a_mark marks.Star)) a_name) (Opt (in_brackets brackets.Square 1)) (λ ks. stars_at ks >>= name_at) array_at (law_seq (Many (a_mark marks.Star)) a_name stars_at name_at (law_same (Many (a_mark marks.Star))) name_law) array_law

pub more_dtors : (ks : List Terminal) → more_of dtor ks ≡ (if heads (of_mark marks.Comma ∷ []) ks then (comma_dtor_at ks >>= more_of dtor) else Ok ks)
unfolding comma_dtor_at
more_dtors = law_more dtor dtor_at dtor_law

pub dtors_law : Law dtors dtors_at
unfolding dtors dtors_at
dtors_law = law_seq dtor (Many (Seq (a_mark marks.Comma) dtor)) dtor_at (more_of dtor) dtor_law (law_same (Many (Seq (a_mark marks.Comma) dtor)))

-- ---- names in curly brackets

pub more_names : (ks : List Terminal) → more_of a_name ks ≡ (if heads (of_mark marks.Comma ∷ []) ks then (comma_name_at ks >>= more_of a_name) else Ok ks)
unfolding comma_name_at
more_names = law_more a_name name_at name_law

names_rule : Law (rule 16) names_at
unfolding rule names_at
names_rule = law_seq a_name (Many (Seq (a_mark marks.Comma) a_name)) name_at (more_of a_name) name_law (law_same (Many (Seq (a_mark marks.Comma) a_name)))

pub enum_body_law : Law enum_body enum_body_at
unfolding enum_body enum_body_at
enum_body_law = law_within (opening brackets.Curly) 16 (closing brackets.Curly) level_limit names_at names_rule

name_first : first a_name ≡ name_classes
unfolding a_name
name_first = refl

pub if_name_law : Law (Opt a_name) (if_among name_classes name_at)
if_name_law = law_opt a_name name_classes name_at name_first name_law

pub enum_rest_law : Law enum_rest enum_rest_at
unfolding enum_rest enum_rest_at
enum_rest_law = law_seq (Opt a_name) enum_body (if_among name_classes name_at) enum_body_at if_name_law enum_body_law

-- ---- sizes and plain attributes

pub star_name_law : Law star_name star_name_at
unfolding star_name star_name_at
star_name_law = law_seq (Opt (a_mark marks.Star)) a_name (if_next (of_mark marks.Star) (mark_at marks.Star)) name_at (law_opt (a_mark marks.Star) (of_mark marks.Star ∷ []) (mark_at marks.Star) star_first star_law) name_law

null_star_name : null star_name ≡ false
unfolding star_name a_name
null_star_name = refl

pub size_ref_law : Law size_ref size_ref_at
unfolding size_ref size_ref_at a_number
size_ref_law = law_alt _ star_name (number_class ∷ []) number_at star_name_at refl null_star_name (law_one (number_class ∷ []) (2 ^ 64)) star_name_law

pub ref_rule : Law (rule 10) size_ref_at
unfolding rule
ref_rule = size_ref_law

pub star_rule : Law (rule 11) star_name_at
unfolding rule
star_rule = star_name_law

bounds_law : Law bounds bounds_at
unfolding bounds bounds_at a_mark
bounds_law = law_seq _ signed (λ ks. signed_at ks >>= mark_at marks.Comma) signed_at (law_seq signed _ signed_at (mark_at marks.Comma) signed_law (law_one (of_mark marks.Comma ∷ []) 1)) signed_law

pub bounds_rule : Law (rule 17) bounds_at
unfolding rule
bounds_rule = bounds_law

-- ---- labels

signed_first : first signed ≡ of_mark marks.Minus ∷ number_class ∷ []
unfolding signed a_mark a_number
signed_first = refl

null_name : null a_name ≡ false
unfolding a_name
null_name = refl

pub case_value_law : Law (Alt signed a_name) case_value_at
unfolding case_value_at
case_value_law = law_alt signed a_name (of_mark marks.Minus ∷ number_class ∷ []) signed_at name_at signed_first null_name signed_law name_law

pub label_law : Law label label_at
unfolding label label_at case_label_at a_word a_mark
label_law =
    law_alt _ _ (of_word words.Case ∷ []) (λ ks. (word_at words.Case ks >>= case_value_at) >>= mark_at marks.Colon) (λ ks. word_at words.Default ks >>= mark_at marks.Colon) refl refl
    (law_seq _ _ (λ ks. word_at words.Case ks >>= case_value_at) (mark_at marks.Colon) (law_seq _ _ (word_at words.Case) case_value_at (law_one (of_word words.Case ∷ []) 1) case_value_law) (law_one (of_mark marks.Colon ∷ []) 1))
    (law_seq _ _ (word_at words.Default) (mark_at marks.Colon) (law_one (of_word words.Default ∷ []) 1) (law_one (of_mark marks.Colon ∷ []) 1))

label_first : first label ≡ of_word words.Case ∷ of_word words.Default ∷ []
unfolding label a_word
label_first = refl

pub more_labels : (ks : List Terminal) → more_labels_at ks ≡ (if heads (of_word words.Case ∷ of_word words.Default ∷ []) ks then (label_at ks >>= more_labels_at) else Ok ks)
more_labels = law_many label (of_word words.Case ∷ of_word words.Default ∷ []) label_at label_first label_law

pub labels_law : Law (Seq label (Many label)) labels_at
unfolding labels_at
labels_law = law_seq label (Many label) label_at more_labels_at label_law (law_same (Many label))
