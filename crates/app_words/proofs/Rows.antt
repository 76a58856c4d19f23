-- The rows of what was used, and what is used once more.
use Rattle.std.proofs.Common.{◌≡◌, ◌∙◌, ◌||◌, Bool, true, false, ℕ, List, [], ◌∷◌, ◌++◌, map, refl, sym, ap, Option, Some, None, cond, is_some, inl, inr, ◌⊎◌}
use Rattle.std.specs.Prelude.{option_and_then, slice_get}
use Rattle.std.specs.List.{find}
use Rattle.std.specs.Option.{option_map_or}
use Rattle.std.specs.Str.{bytes_eq}
use Rattle.std.proofs.lemmas.Bool.{cases_Bool}
use Rattle.std.proofs.lemmas.List.{map-append}
use Rattle.clap.specs.Facts.{explicit_source}
use Rattle.clap.specs.Takes.{is_given}
use Rattle.clap.specs.Walk.{Row, Text, at_row, first_of, has_row, more_values, used, with_default}
use Rattle.clap.specs.declared.builder.value_parser.Reading.TheVariants.{AsWritten}
use Rattle.clap.specs.declared.parser.matches.ValueSource.TheVariants.{CommandLine}
use Rattle.app_words.proofs.Rules.{built}
use Rattle.app_words.proofs.Uses.{Uses, value_of}

abbrev pub row : Text × Text → Row
row p = record { id = p.0; values = p.1 ∷ []; count = None; source = Some CommandLine; reading = AsWritten }

abbrev pub rows_of : Uses → List Row
rows_of us = map row us

-- ---- what the rows have of an id

pub first_is : (id : Text) (us : Uses) → first_of id (rows_of us) ≡ value_of id us
first_is id [] = refl
first_is id (p ∷ ps) = by (bytes_eq p.0 id) (first_is id ps)
  where
    by : (b : Bool) → first_of id (rows_of ps) ≡ value_of id ps
        → option_and_then (λ (r : Row). slice_get r.values 0) (cond b (Some (row p)) (find (λ r. bytes_eq r.id id) (rows_of ps))) ≡ cond b (Some p.1) (value_of id ps)
    by true e = refl
    by false e = e

pub is_there : (id : Text) (us : Uses) → has_row id (rows_of us) ≡ is_some (value_of id us)
is_there id [] = refl
is_there id (p ∷ ps) = by (bytes_eq p.0 id) (is_there id ps)
  where
    by : (b : Bool) → has_row id (rows_of ps) ≡ is_some (value_of id ps) → (b || has_row id (rows_of ps)) ≡ is_some (cond b (Some p.1) (value_of id ps))
    by true e = refl
    by false e = e

pub given_is : (id : Text) (us : Uses) → is_given id (rows_of us) ≡ is_some (value_of id us)
given_is id [] = refl
given_is id (p ∷ ps) = by (bytes_eq p.0 id) (given_is id ps)
  where
    by : (b : Bool) → is_given id (rows_of ps) ≡ is_some (value_of id ps)
        → option_map_or (λ (r : Row). explicit_source r.source) (cond b (Some (row p)) (find (λ r. bytes_eq r.id id) (rows_of ps))) false ≡ is_some (cond b (Some p.1) (value_of id ps))
    by true e = refl
    by false e = e

-- ---- one use more

no_value : (a : Text) → Some a ≡ None → ⊥
no_value a e = absurd (cc)

past : (id : Text) (change : Row → List Row) (missing : List Row) (us : Uses) → value_of id us ≡ None → at_row id change missing (rows_of us) ≡ rows_of us ++ missing
past id change missing [] e = refl
past id change missing (p ∷ ps) e = by (cases_Bool (bytes_eq p.0 id)) (past id change missing ps)
  where
    by : (bytes_eq p.0 id ≡ true) ⊎ (bytes_eq p.0 id ≡ false) → (value_of id ps ≡ None → at_row id change missing (rows_of ps) ≡ rows_of ps ++ missing) → at_row id change missing (rows_of (p ∷ ps)) ≡ rows_of (p ∷ ps) ++ missing
    by (inl t) later = absurd (no_value p.1 (sym (ap (λ b. cond b (Some p.1) (value_of id ps)) t) ∙ e))
    by (inr f) later =
        ap (λ b. cond b (change (row p) ++ rows_of ps) (row p ∷ at_row id change missing (rows_of ps))) f
        ∙ ap (λ rs. row p ∷ rs) (later (sym (ap (λ b. cond b (Some p.1) (value_of id ps)) f) ∙ e))

append_nothing : (rs : List Row) → rs ++ [] ≡ rs
append_nothing [] = refl
append_nothing (r ∷ rs) = ap (λ x. r ∷ x) (append_nothing rs)

pub now_used : (id : Text) (long : Option Text) (index : Option ℕ) (required : Bool) (v : Text) (us : Uses) → value_of id us ≡ None
    → used (built id long index required) (v ∷ []) (rows_of us) ≡ rows_of (us ++ (id, v) ∷ [])
now_used id long index required v us e =
    ap (at_row id (more_values CommandLine (v ∷ [])) (row (id, v) ∷ [])) (past id (λ _. []) [] us e ∙ append_nothing (rows_of us))
    ∙ past id (more_values CommandLine (v ∷ [])) (row (id, v) ∷ []) us e ∙ sym (map-append row us ((id, v) ∷ []))

-- ---- defaults: there are none

pub no_default : (id : Text) (long : Option Text) (index : Option ℕ) (required : Bool) (rs : List Row) → with_default rs (built id long index required) ≡ rs
no_default id long index required rs = by (has_row id rs)
  where
    by : (b : Bool) → cond b rs rs ≡ rs
    by true = refl
    by false = refl
