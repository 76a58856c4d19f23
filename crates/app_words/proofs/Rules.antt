-- The rules of a command as it is built, and searches among them.
use Rattle.std.proofs.Common.{◌≡◌, ◌∙◌, ◌+◌, ◌≤◌, ◌<◌, ◌||◌, ◌==◌, Bool, true, false, true≢false, ℕ, suc, List, [], ◌∷◌, ◌++◌, length, map, min, refl, sym, ap, arith, Option, Some, None, cond, inl, inr, ◌⊎◌}
use Rattle.std.specs.Str.{bytes_eq}
use Rattle.std.proofs.lemmas.Bool.{cases_Bool}
use Rattle.std.proofs.lemmas.Bool.Decides.{nat_tests}
use Rattle.clap.specs.Lexer.{usize_max}
use Rattle.clap.specs.Simple.{Shape, built_leaf, filled_from, index_after, inherited}
use Rattle.clap.specs.Walk.{Rule, Text, arg_by_id, arg_by_index, arg_by_long, arg_by_short}
use Rattle.clap.specs.declared.builder.action.ArgAction.TheVariants.{Set}
use Rattle.clap.specs.declared.builder.value_parser.ValueParser.TheVariants as parser
use Rattle.app_words.specs.Usage.{Command, operand_rule, option_rule, program, told}
use Rattle.app_words.proofs.Uses.{Options, knows, one_text, same_text}

-- a rule as it is built: the argument has one value, which is any text
abbrev pub built : Text → Option Text → Option ℕ → Bool → Rule
built id long index required = record {
  id = id;
  long = long;
  aliases = [];
  short = None;
  short_aliases = [];
  index = index;
  action = Some Set;
  range = Some (record { start_inclusive = 1; end_inclusive = 1 });
  value_names = 0;
  defaults = [];
  missing = [];
  trailing_var_arg = false;
  parser = Some parser.String;
  ignore_case = false;
  required = required;
  is_simple = true;
  is_free = true;
}

abbrev pub operands_from : ℕ → List Text → List Rule
operands_from place [] = []
operands_from place (id ∷ ids) = built id None (Some place) true ∷ operands_from (suc place) ids

abbrev pub options : Options → List Rule
options [] = []
options (o ∷ os) = built o.0 (Some o.0) None o.1 ∷ options os

abbrev pub rules_of : Command → List Rule
rules_of c = operands_from 1 c.operands ++ options c.options

-- ---- the command as it is built

abbrev pub leaf : Command → Shape
leaf c = record (told c) {
  rules = rules_of c;
  no_binary_name = true;
  disable_help_flag = true;
  disable_help_subcommand = true;
  is_built = true;
}

options_filled : (place : ℕ) (os : Options) → filled_from place (map option_rule os) ≡ options os
options_filled place [] = refl
options_filled place (o ∷ os) = ap (λ rs. built o.0 (Some o.0) None o.1 ∷ rs) (options_filled place os)

next_place : (place : ℕ) (id : Text) → suc place < usize_max → index_after place (operand_rule id) ≡ suc place
next_place place id small = let least : min (place + 1) usize_max ≡ suc place = omega arith in least

all_filled : (place : ℕ) (ids : List Text) (os : Options) → place + length ids < usize_max → filled_from place (map operand_rule ids ++ map option_rule os) ≡ operands_from place ids ++ options os
all_filled place [] os small = options_filled place os
all_filled place (id ∷ ids) os small =
    ap (λ p. built id None (Some place) true ∷ filled_from p (map operand_rule ids ++ map option_rule os)) (next_place place id (omega arith))
    ∙ ap (λ rs. built id None (Some place) true ∷ rs) (all_filled (suc place) ids os (omega arith))

pub built_is : (c : Command) → length c.operands < 1000 → built_leaf (inherited program.top (told c)) ≡ leaf c
built_is c small = ap (λ rs. record (leaf c) { rules = rs }) (all_filled 1 c.operands c.options (omega arith))

-- ---- by a place

no_place : (os : Options) (place : ℕ) → arg_by_index (options os) place ≡ None
no_place [] place = refl
no_place (o ∷ os) place = no_place os place

pub at_place : (from place : ℕ) (done left : List Text) (id : Text) (os : Options) → place ≡ from + length done
    → arg_by_index (operands_from from (done ++ id ∷ left) ++ options os) place ≡ Some (built id None (Some place) true)
at_place from place [] left id os e =
    let same : from ≡ place = omega (arith, e) in
    let hit : (from == place) ≡ true = grind (arith, nat_tests) in
    ap (λ b. cond b (Some (built id None (Some from) true)) (arg_by_index (operands_from (suc from) left ++ options os) place)) hit ∙ ap (λ n. Some (built id None (Some n) true)) same
at_place from place (d ∷ ds) left id os e =
    let miss : (from == place) ≡ false = grind (arith, nat_tests) in
    ap (λ b. cond b (Some (built d None (Some from) true)) (arg_by_index (operands_from (suc from) (ds ++ id ∷ left) ++ options os) place)) miss
    ∙ at_place (suc from) place ds left id os (omega (arith, e))

pub past_places : (from place : ℕ) (ids : List Text) (os : Options) → from + length ids ≤ place → arg_by_index (operands_from from ids ++ options os) place ≡ None
past_places from place [] os low = no_place os place
past_places from place (id ∷ ids) os low =
    let miss : (from == place) ≡ false = grind (arith, nat_tests) in
    ap (λ b. cond b (Some (built id None (Some from) true)) (arg_by_index (operands_from (suc from) ids ++ options os) place)) miss ∙ past_places (suc from) place ids os (omega arith)

-- ---- by an id

-- a rule has this id
pub record HasRule (rs : List Rule) (id : Text) : Type 0 where
  pub long : Option Text
  pub index : Option ℕ
  pub required : Bool
  pub is : arg_by_id rs id ≡ Some (built id long index required)

first_rule : (id name : Text) (long : Option Text) (index : Option ℕ) (required : Bool) (rs : List Rule) → bytes_eq name id ≡ true → HasRule (built name long index required ∷ rs) id
first_rule id name long index required rs e = record {
  long = long;
  index = index;
  required = required;
  is = ap (λ b. cond b (Some (built name long index required)) (arg_by_id rs id)) e ∙ ap (λ n. Some (built n long index required)) (same_text name id e);
}

later_rule : (id name : Text) (long : Option Text) (index : Option ℕ) (required : Bool) (rs : List Rule) → bytes_eq name id ≡ false → HasRule rs id → HasRule (built name long index required ∷ rs) id
later_rule id name long index required rs e h = record {
  long = h.long;
  index = h.index;
  required = h.required;
  is = ap (λ b. cond b (Some (built name long index required)) (arg_by_id rs id)) e ∙ h.is;
}

one_rule : (id name : Text) (long : Option Text) (index : Option ℕ) (required : Bool) (rs : List Rule) → (bytes_eq name id ≡ false → HasRule rs id) → HasRule (built name long index required ∷ rs) id
one_rule id name long index required rs later = by (cases_Bool (bytes_eq name id))
  where
    by : (bytes_eq name id ≡ true) ⊎ (bytes_eq name id ≡ false) → HasRule (built name long index required ∷ rs) id
    by (inl e) = first_rule id name long index required rs e
    by (inr e) = later_rule id name long index required rs e (later e)

option_rule_of : (name : Text) (os : Options) → knows os name ≡ true → HasRule (options os) name
option_rule_of name [] k = absurd (true≢false (sym k))
option_rule_of name (o ∷ os) k = one_rule name o.0 (Some o.0) None o.1 (options os) (λ e. option_rule_of name os (sym (ap (λ b. b || knows os name) e) ∙ k))

pub has_option : (from : ℕ) (ids : List Text) (name : Text) (os : Options) → knows os name ≡ true → HasRule (operands_from from ids ++ options os) name
has_option from [] name os k = option_rule_of name os k
has_option from (id ∷ ids) name os k = one_rule name id None (Some from) true (operands_from (suc from) ids ++ options os) (λ e. has_option (suc from) ids name os k)

pub has_operand : (from : ℕ) (done left : List Text) (id : Text) (os : Options) → HasRule (operands_from from (done ++ id ∷ left) ++ options os) id
has_operand from [] left id os = one_rule id id None (Some from) true (operands_from (suc from) left ++ options os) (λ e. absurd (true≢false (sym (one_text id id refl) ∙ e)))
has_operand from (d ∷ ds) left id os = one_rule id d None (Some from) true (operands_from (suc from) (ds ++ id ∷ left) ++ options os) (λ e. has_operand (suc from) ds left id os)

-- ---- by a name

-- an option has this name
pub record HasLong (rs : List Rule) (name : Text) : Type 0 where
  pub required : Bool
  pub is : arg_by_long rs name ≡ Some (built name (Some name) None required)

abbrev tested : Text → Text × Bool → Bool
tested name o = bytes_eq o.0 name || false

test_is : (name : Text) (o : Text × Bool) (b : Bool) → bytes_eq o.0 name ≡ b → tested name o ≡ b
test_is name o true e = ap (λ x. x || false) e
test_is name o false e = ap (λ x. x || false) e

abbrev search_in : Text → Text × Bool → Options → Bool → Option Rule
search_in name o os b = cond b (Some (built o.0 (Some o.0) None o.1)) (arg_by_long (options os) name)

pub long_rule : (name : Text) (os : Options) → knows os name ≡ true → HasLong (options os) name
long_rule name [] k = absurd (true≢false (sym k))
long_rule name (o ∷ os) k = by (cases_Bool (bytes_eq o.0 name)) (long_rule name os)
  where
    by : (bytes_eq o.0 name ≡ true) ⊎ (bytes_eq o.0 name ≡ false) → (knows os name ≡ true → HasLong (options os) name) → HasLong (options (o ∷ os)) name
    by (inl e) later = record { required = o.1; is = ap (search_in name o os) (test_is name o true e) ∙ ap (λ n. Some (built n (Some n) None o.1)) (same_text o.0 name e) }
    by (inr e) later =
        let h = later (sym (ap (λ b. b || knows os name) e) ∙ k) in
        record { required = h.required; is = ap (search_in name o os) (test_is name o false e) ∙ h.is }

pub has_long : (from : ℕ) (ids : List Text) (name : Text) (os : Options) → knows os name ≡ true → HasLong (operands_from from ids ++ options os) name
has_long from [] name os k = long_rule name os k
has_long from (id ∷ ids) name os k = let h = has_long (suc from) ids name os k in record { required = h.required; is = h.is }

no_long_rule : (name : Text) (os : Options) → knows os name ≡ false → arg_by_long (options os) name ≡ None
no_long_rule name [] k = refl
no_long_rule name (o ∷ os) k = by (cases_Bool (bytes_eq o.0 name)) (no_long_rule name os)
  where
    by : (bytes_eq o.0 name ≡ true) ⊎ (bytes_eq o.0 name ≡ false) → (knows os name ≡ false → arg_by_long (options os) name ≡ None) → arg_by_long (options (o ∷ os)) name ≡ None
    by (inl e) later = absurd (true≢false (sym (ap (λ b. b || knows os name) e) ∙ k))
    by (inr e) later = ap (search_in name o os) (test_is name o false e) ∙ later (sym (ap (λ b. b || knows os name) e) ∙ k)

pub no_long : (from : ℕ) (ids : List Text) (name : Text) (os : Options) → knows os name ≡ false → arg_by_long (operands_from from ids ++ options os) name ≡ None
no_long from [] name os k = no_long_rule name os k
no_long from (id ∷ ids) name os k = no_long (suc from) ids name os k

-- no rule has a short name
pub no_short : (from : ℕ) (ids : List Text) (x : ℕ) (os : Options) → arg_by_short (operands_from from ids ++ options os) x ≡ None
no_short from [] x [] = refl
no_short from [] x (o ∷ os) = no_short from [] x os
no_short from (id ∷ ids) x os = no_short (suc from) ids x os
