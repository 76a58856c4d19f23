-- What `clap` asks after the last word: that nothing is lacking.
use Rattle.std.proofs.Common.{◌≡◌, ◌∙◌, ◌&&◌, ◌||◌, Bool, true, false, true≢false, ℕ, suc, List, [], ◌∷◌, ◌++◌, refl, sym, ap, ap₂, Option, Some, None, cond, fold, is_some, not}
use Rattle.std.specs.List.{AllByRecursion, list_any}
use Rattle.clap.specs.Kinds.{Kinds, or_else}
use Rattle.clap.specs.Faults.{check_fault, default_fault, defaults_fault}
use Rattle.clap.specs.Takes.{is_given}
use Rattle.clap.specs.Walk.{Row, Rule, Text, finished, has_row, settled_rows, with_default}
use Rattle.clap.specs.declared.error.kind.ErrorKind.TheVariants.{MissingRequiredArgument}
use Rattle.app_words.specs.Usage.{Command}
use Rattle.app_words.proofs.Rules.{built, leaf, operands_from, options, rules_of}
use Rattle.app_words.proofs.Rows.{given_is, no_default, rows_of}
use Rattle.app_words.proofs.Steps.{Usable}
use Rattle.app_words.proofs.Uses.{Options, Uses, value_of}
use Rattle.app_words.proofs.Walks.{faults_after, held}

-- ---- there are no defaults

one_default : (id : Text) (long : Option Text) (index : Option ℕ) (required : Bool) (rows : List Row) (rest : List Rule) → defaults_fault rows rest ≡ [] → defaults_fault rows (built id long index required ∷ rest) ≡ []
unfolding defaults_fault
one_default id long index required rows rest e =
    ap (λ rs. or_else (default_fault rows (built id long index required)) (defaults_fault rs rest)) (no_default id long index required rows)
    ∙ by (has_row id rows)
  where
    by : (b : Bool) → or_else (cond (b || true) [] []) (defaults_fault rows rest) ≡ []
    by true = e
    by false = e

no_options_default : (rows : List Row) (os : Options) → defaults_fault rows (options os) ≡ []
unfolding defaults_fault
no_options_default rows [] = refl
no_options_default rows (o ∷ os) = one_default o.0 (Some o.0) None o.1 rows (options os) (no_options_default rows os)

no_defaults : (rows : List Row) (from : ℕ) (ids : List Text) (os : Options) → defaults_fault rows (operands_from from ids ++ options os) ≡ []
no_defaults rows from [] os = no_options_default rows os
no_defaults rows from (id ∷ ids) os = one_default id None (Some from) true rows (operands_from (suc from) ids ++ options os) (no_defaults rows (suc from) ids os)

options_folded : (rows : List Row) (os : Options) → fold with_default rows (options os) ≡ rows
options_folded rows [] = refl
options_folded rows (o ∷ os) = ap (λ rs. fold with_default rs (options os)) (no_default o.0 (Some o.0) None o.1 rows) ∙ options_folded rows os

all_folded : (rows : List Row) (from : ℕ) (ids : List Text) (os : Options) → fold with_default rows (operands_from from ids ++ options os) ≡ rows
all_folded rows from [] os = options_folded rows os
all_folded rows from (id ∷ ids) os =
    ap (λ rs. fold with_default rs (operands_from (suc from) ids ++ options os)) (no_default id None (Some from) true rows) ∙ all_folded rows (suc from) ids os

-- ---- what is lacking

abbrev pub options_lack : Options → Uses → Bool
options_lack [] us = false
options_lack (o ∷ os) us = (o.1 && not (is_some (value_of o.0 us))) || options_lack os us

abbrev pub lacks : List Text → Options → Uses → Bool
lacks [] os us = options_lack os us
lacks (id ∷ ids) os us = not (is_some (value_of id us)) || lacks ids os us

abbrev is_lacking : List Row → Rule → Bool
is_lacking rows a = a.required && not (is_given a.id rows)

options_lacking : (us : Uses) (os : Options) → list_any (is_lacking (rows_of us)) (options os) ≡ options_lack os us
options_lacking us [] = refl
options_lacking us (o ∷ os) = ap₂ (λ g l. (o.1 && not g) || l) (given_is o.0 us) (options_lacking us os)

all_lacking : (us : Uses) (from : ℕ) (ids : List Text) (os : Options) → list_any (is_lacking (rows_of us)) (operands_from from ids ++ options os) ≡ lacks ids os us
all_lacking us from [] os = options_lacking us os
all_lacking us from (id ∷ ids) os = ap₂ (λ g l. not g || l) (given_is id us) (all_lacking us (suc from) ids os)

abbrev pub missing : Bool → Kinds
missing b = cond b (MissingRequiredArgument ∷ []) []

module _ (c : Command) where
  pub finished_is : (rows : List Row) (pending : Option (Text × List Text)) (us : Uses) → Usable c rows pending us → finished (rules_of c) (held rows pending) ≡ rows_of us
  finished_is rows pending us u = all_folded (settled_rows (rules_of c) pending rows) 1 c.operands c.options ∙ u.rows_are

  checked : (us : Uses) → check_fault (leaf c) (rows_of us) false ≡ missing (lacks c.operands c.options us)
  checked us = ap missing (all_lacking us 1 c.operands c.options)

  pub after_is : (rows : List Row) (pending : Option (Text × List Text)) (us : Uses) → Usable c rows pending us → faults_after (leaf c) (held rows pending) ≡ missing (lacks c.operands c.options us)
  after_is rows pending us u =
      ap₂ or_else u.settles
      (ap₂ or_else (no_defaults (settled_rows (rules_of c) pending rows) 1 c.operands c.options)
      (ap (λ rs. check_fault (leaf c) rs false) (finished_is rows pending us u) ∙ checked us))

-- ---- nothing is

abbrev pub AreGiven : List Text → Uses → Type 0
AreGiven ids us = AllByRecursion (λ id. is_some (value_of id us) ≡ true) ids

abbrev pub AreRequired : Options → Uses → Type 0
AreRequired os us = AllByRecursion (λ o. o.1 ≡ true → is_some (value_of o.0 us) ≡ true) os

first_false : (a b : Bool) → (a || b) ≡ false → a ≡ false
first_false true b e = e
first_false false b e = refl

second_false : (a b : Bool) → (a || b) ≡ false → b ≡ false
second_false true b e = absurd (true≢false e)
second_false false b e = e

not_false : (b : Bool) → not b ≡ false → b ≡ true
not_false true e = refl
not_false false e = absurd (true≢false e)

guarded : (a b : Bool) → (a && not b) ≡ false → a ≡ true → b ≡ true
guarded true b e t = not_false b e
guarded false b e t = absurd (true≢false (sym t))

pub required : (os : Options) (us : Uses) → options_lack os us ≡ false → AreRequired os us
required [] us e = tt
required (o ∷ os) us e =
    let first = o.1 && not (is_some (value_of o.0 us)) in
    (guarded o.1 (is_some (value_of o.0 us)) (first_false first (options_lack os us) e), required os us (second_false first (options_lack os us) e))

pub given : (ids : List Text) (os : Options) (us : Uses) → lacks ids os us ≡ false → AreGiven ids us × AreRequired os us
given [] os us e = (tt, required os us e)
given (id ∷ ids) os us e =
    let first = not (is_some (value_of id us)) in
    let more = given ids os us (second_false first (lacks ids os us) e) in
    ((not_false (is_some (value_of id us)) (first_false first (lacks ids os us) e), more.0), more.1)

both_false : (a b : Bool) → a ≡ false → b ≡ false → (a || b) ≡ false
both_false true b e f = e
both_false false b e f = f

unguarded : (a b : Bool) → (a ≡ true → b ≡ true) → (a && not b) ≡ false
unguarded true b h = ap not (h refl)
unguarded false b h = refl

none_lacks : (os : Options) (us : Uses) → AreRequired os us → options_lack os us ≡ false
none_lacks [] us h = refl
none_lacks (o ∷ os) us h = both_false (o.1 && not (is_some (value_of o.0 us))) (options_lack os us) (unguarded o.1 (is_some (value_of o.0 us)) h.0) (none_lacks os us h.1)

pub nothing_lacks : (ids : List Text) (os : Options) (us : Uses) → AreGiven ids us → AreRequired os us → lacks ids os us ≡ false
nothing_lacks [] os us g h = none_lacks os us h
nothing_lacks (id ∷ ids) os us g h = both_false (not (is_some (value_of id us))) (lacks ids os us) (ap not g.0) (nothing_lacks ids os us g.1 h)
