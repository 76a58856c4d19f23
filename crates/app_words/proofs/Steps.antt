-- One word, as `clap` walks over it, where the command's arguments take one value each.
use Rattle.std.proofs.Common.{◌≡◌, ◌∙◌, ◌+◌, ◌<◌, ◌&&◌, ◌||◌, Bool, true, false, ℕ, suc, List, [], ◌∷◌, ◌++◌, min, refl, ap, ap₂, arith, Option, Some, None, codes, cond, is_some}
use Rattle.std.specs.Prelude.{⊤, nat_lt}
use Rattle.std.specs.Option.{option_map_or}
use Rattle.std.specs.Str.{bytes_eq}
use Rattle.clap.specs.Lexer.{long_of, name_and_value, usize_max}
use Rattle.clap.specs.Kinds.{Kinds, or_else}
use Rattle.clap.specs.Faults.{flag_word_fault, flags_fault, long_fault, other_fault, positional_fault, settle_fault, step_fault, stray_fault, turn_fault, use_fault, word_fault}
use Rattle.clap.specs.Walk.{Held, Row, Rule, Step, Text, Waiting, Walk, after_flag, after_step, arg_by_id, arg_by_index, arg_by_long, arg_by_short, done, has_row, idle, is_pending, long_met, long_or_other, long_word, next, option, option_word, plain_word, positional, pushed, reacted, settled, settled_rows, subcommand_met, subcommand_or_other, to_positional, used, used_by_id, value, walked, word_met}
use Rattle.clap.specs.Walk as walk
use Rattle.clap.specs.declared.error.kind.ErrorKind.{ErrorKind}
use Rattle.clap.specs.declared.error.kind.ErrorKind.TheVariants.{ArgumentConflict, InvalidValue, UnknownArgument}
use Rattle.app_words.specs.Usage.{Command}
use Rattle.app_words.proofs.WordKinds.{IsShort, IsOperand}
use Rattle.app_words.proofs.OptionKinds.{IsBare, IsJoined, IsOther}
use Rattle.app_words.proofs.Rules.{HasLong, HasRule, built, has_long, leaf, no_long, no_short, rules_of}
use Rattle.app_words.proofs.Rows.{is_there, now_used, rows_of}
use Rattle.app_words.proofs.Uses.{Uses, itself, value_of}
use Rattle.app_words.proofs.Walks.{at, held, waits}

-- ---- a use

abbrev faults_of : Bool → Kinds
faults_of there = or_else (cond (there && true) (ArgumentConflict ∷ []) []) []

use_is : (id : Text) (long : Option Text) (index : Option ℕ) (required : Bool) (v : Text) (rs : List Row) → use_fault false (built id long index required) (v ∷ []) rs ≡ faults_of (has_row id rs)
use_is id long index required v rs = refl

first_use : (id : Text) (long : Option Text) (index : Option ℕ) (required : Bool) (v : Text) (us : Uses) → value_of id us ≡ None → use_fault false (built id long index required) (v ∷ []) (rows_of us) ≡ []
first_use id long index required v us e = use_is id long index required v (rows_of us) ∙ ap faults_of (is_there id us ∙ ap is_some e)

second_use : (id : Text) (long : Option Text) (index : Option ℕ) (required : Bool) (v y : Text) (us : Uses) → value_of id us ≡ Some y
    → use_fault false (built id long index required) (v ∷ []) (rows_of us) ≡ ArgumentConflict ∷ []
second_use id long index required v y us e = use_is id long index required v (rows_of us) ∙ ap faults_of (is_there id us ∙ ap is_some e)

module _ (c : Command) where
  -- What is held can be used, and then these are the uses.
  pub record Usable (rows : List Row) (pending : Option (Text × List Text)) (us : Uses) : Type 0 where
    pub settles : settle_fault (rules_of c) false (held rows pending) ≡ []
    pub rows_are : settled_rows (rules_of c) pending rows ≡ rows_of us

  pub usable_rows : (us : Uses) → Usable (rows_of us) None us
  usable_rows us = record { settles = refl; rows_are = refl }

  pub usable_last : (us : Uses) (id v : Text) → HasRule (rules_of c) id → value_of id us ≡ None → Usable (rows_of us) (Some (id, v ∷ [])) (us ++ (id, v) ∷ [])
  usable_last us id v h e = record {
    settles = ap (λ r. option_map_or (λ a. use_fault false a (v ∷ []) (rows_of us)) r []) h.is ∙ first_use id h.long h.index h.required v us e;
    rows_are = ap (λ r. used_by_id r (v ∷ []) (rows_of us)) h.is ∙ now_used id h.long h.index h.required v us e;
  }

  -- ---- a word that isn't refused for what it is

  no_command : (waiting : Waiting) (word : Text) → subcommand_met [] waiting word ≡ None
  no_command idle word = refl
  no_command (option id) word = refl
  no_command positional word = refl

  fault_is : (h : Held) (waiting : Waiting) (word : Text) → word_fault (leaf c) [] false waiting word h ≡ other_fault (leaf c) None word h
  fault_is h waiting word = ap (λ o. other_fault (leaf c) o word h) (no_command waiting word)

  met_is : (h : Held) (waiting : Waiting) (place : ℕ) (word : Text) → word_met (rules_of c) [] false waiting place word h ≡ subcommand_or_other (rules_of c) None waiting place word h
  met_is h waiting place word = ap (λ o. subcommand_or_other (rules_of c) o waiting place word h) (no_command waiting word)

  -- a fault of the word itself
  pub refused : (h : Held) (waiting : Waiting) (place : ℕ) (word : Text) (k : ErrorKind) (ks : Kinds) → other_fault (leaf c) None word h ≡ k ∷ ks → turn_fault (leaf c) [] (waits h waiting place false) word ≡ k ∷ ks
  refused h waiting place word k ks e =
      ap (λ f. or_else f (step_fault (leaf c) place (word_met (rules_of c) [] false waiting place word h).0 (word_met (rules_of c) [] false waiting place word h).1)) (fault_is h waiting word ∙ e)

  -- what a word leads to, by what it was met as
  turned : (h g : Held) (waiting : Waiting) (place : ℕ) (trailing : Bool) (word : Text) (step : Step) → word_fault (leaf c) [] trailing waiting word h ≡ []
      → word_met (rules_of c) [] trailing waiting place word h ≡ (g, step) → turn_fault (leaf c) [] (waits h waiting place trailing) word ≡ step_fault (leaf c) place g step
  turned h g waiting place trailing word step f m = ap₂ (λ (k : Kinds) (x : Held × Step). or_else k (step_fault (leaf c) place x.0 x.1)) f m

  stepped : (h g : Held) (waiting : Waiting) (place : ℕ) (trailing : Bool) (word : Text) (step : Step) → word_met (rules_of c) [] trailing waiting place word h ≡ (g, step)
      → walked (rules_of c) [] (waits h waiting place trailing) word ≡ after_step (rules_of c) word (waits h waiting place trailing) g step
  unfolding walked
  stepped h g waiting place trailing word step m = ap (λ (x : Held × Step). after_step (rules_of c) word (waits h waiting place trailing) x.0 x.1) m

  -- ---- an operand

  -- in front of `--` a word is one by its form, after it any word is
  abbrev pub Plain : Bool → Text → Type 0
  Plain true word = ⊤
  Plain false word = IsOperand word

  plain_met : (h : Held) (place : ℕ) (trailing : Bool) (word : Text) → Plain trailing word → word_met (rules_of c) [] trailing idle place word h ≡ (h, value)
  plain_met h place true word o = refl
  plain_met h place false word o = rw (o.dashes, o.long, o.short) refl

  plain_fault : (h : Held) (trailing : Bool) (word : Text) → Plain trailing word → word_fault (leaf c) [] trailing idle word h ≡ []
  plain_fault h true word o = refl
  plain_fault h false word o = rw (o.dashes, o.long, o.short) refl

  never_several : {X : Type 0} (b : Bool) (x y : X) → cond (b && false) x y ≡ y
  never_several true x y = refl
  never_several false x y = refl

  -- the rule at a place takes it
  pub operand_faults : (rows : List Row) (pending : Option (Text × List Text)) (place : ℕ) (id : Text) (trailing : Bool) (word : Text) → Plain trailing word
      → arg_by_index (rules_of c) place ≡ Some (built id None (Some place) true) → turn_fault (leaf c) [] (at (held rows pending) place trailing) word ≡ settle_fault (rules_of c) false (held rows pending)
  operand_faults rows pending place id trailing word o hit =
      turned (held rows pending) (held rows pending) idle place trailing word value (plain_fault (held rows pending) trailing word o) (plain_met (held rows pending) place trailing word o)
      ∙ ap (λ r. option_map_or (λ a. positional_fault (rules_of c) false a (held rows pending)) r (stray_fault (leaf c))) hit
      ∙ never_several (is_pending (built id None (Some place) true) pending) [] (settle_fault (rules_of c) false (held rows pending))

  or_false : (b : Bool) → (b || false) ≡ b
  or_false true = refl
  or_false false = refl

  abbrev lands : Held → ℕ → Bool → Walk
  lands h place trailing = record { held = h; waiting = idle; position = place; is_trailing = trailing; stopped = None }

  pub operand_walk : (rows : List Row) (pending : Option (Text × List Text)) (us : Uses) (place : ℕ) (id : Text) (trailing : Bool) (word : Text) → Plain trailing word → Usable rows pending us
      → suc place < usize_max → arg_by_index (rules_of c) place ≡ Some (built id None (Some place) true)
      → walked (rules_of c) [] (at (held rows pending) place trailing) word ≡ at (held (rows_of us) (Some (id, word ∷ []))) (suc place) trailing
  operand_walk rows pending us place id trailing word o u small hit =
      let h = held rows pending in
      let a = built id None (Some place) true in
      let least : min (place + 1) usize_max ≡ suc place = omega arith in
      stepped h h idle place trailing word value (plain_met h place trailing word o)
      ∙ ap (λ r. to_positional (rules_of c) r word (at h place trailing) h) hit
      ∙ ap (λ x. lands (pushed id word x) (min (place + 1) usize_max) (trailing || false)) (never_several (is_pending a pending) h (settled (rules_of c) h))
      ∙ ap (λ rs. lands (held rs (Some (id, word ∷ []))) (min (place + 1) usize_max) (trailing || false)) u.rows_are
      ∙ ap₂ (λ n b. lands (held (rows_of us) (Some (id, word ∷ []))) n b) least (or_false trailing)

  -- no rule does
  pub stray : (h : Held) (place : ℕ) (trailing : Bool) (word : Text) → Plain trailing word → arg_by_index (rules_of c) place ≡ None → turn_fault (leaf c) [] (at h place trailing) word ≡ UnknownArgument ∷ []
  stray h place trailing word o none =
      turned h h idle place trailing word value (plain_fault h trailing word o) (plain_met h place trailing word o)
      ∙ ap (λ r. option_map_or (λ a. positional_fault (rules_of c) false a h) r (stray_fault (leaf c))) none

  -- the same after `--`, whatever waits
  pub behind_faults : (rows : List Row) (pending : Option (Text × List Text)) (waiting : Waiting) (place : ℕ) (id word : Text) → arg_by_index (rules_of c) place ≡ Some (built id None (Some place) true)
      → turn_fault (leaf c) [] (waits (held rows pending) waiting place true) word ≡ settle_fault (rules_of c) false (held rows pending)
  behind_faults rows pending waiting place id word hit =
      ap (λ r. option_map_or (λ a. positional_fault (rules_of c) false a (held rows pending)) r (stray_fault (leaf c))) hit
      ∙ never_several (is_pending (built id None (Some place) true) pending) [] (settle_fault (rules_of c) false (held rows pending))

  pub behind_stray : (h : Held) (waiting : Waiting) (place : ℕ) (word : Text) → arg_by_index (rules_of c) place ≡ None → turn_fault (leaf c) [] (waits h waiting place true) word ≡ UnknownArgument ∷ []
  behind_stray h waiting place word none = ap (λ r. option_map_or (λ a. positional_fault (rules_of c) false a h) r (stray_fault (leaf c))) none

  -- ---- `--`

  pub dashes_turn : (h : Held) (waiting : Waiting) (place : ℕ) → turn_fault (leaf c) [] (waits h waiting place false) (codes "--") ≡ []
  dashes_turn h waiting place = turned h h waiting place false (codes "--") (walk.trailing place) (fault_is h waiting (codes "--")) (met_is h waiting place (codes "--"))

  pub dashes_walk : (h : Held) (waiting : Waiting) (place : ℕ) → walked (rules_of c) [] (waits h waiting place false) (codes "--") ≡ waits h waiting place true
  dashes_walk h waiting place = stepped h h waiting place false (codes "--") (walk.trailing place) (met_is h waiting place (codes "--"))

  -- ---- an option that the command hasn't

  pub other_refused : (h : Held) (word : Text) → IsOther c.options word → other_fault (leaf c) None word h ≡ UnknownArgument ∷ []
  other_refused h word o =
      let named : flag_word_fault (rules_of c) false (long_of word) word h ≡ UnknownArgument ∷ [] =
      ap (λ p. flag_word_fault (rules_of c) false p word h) o.long.long ∙ ap (λ r. long_fault (rules_of c) false r (name_and_value o.long.text).1 h) (no_long 1 c.operands (name_and_value o.long.text).0 c.options o.other) in
      ap (λ b. cond b [] (flag_word_fault (rules_of c) false (long_of word) word h)) o.long.dashes ∙ named

  pub short_refused : (rows : List Row) (pending : Option (Text × List Text)) (word : Text) → IsShort word → other_fault (leaf c) None word (held rows pending) ≡ UnknownArgument ∷ []
  unfolding flags_fault
  short_refused rows pending word o = rw (o.dashes, o.long, o.short, o.is_first, no_short 1 c.operands o.first c.options) refl

  -- ---- `--name=value`

  joined_is : (rows : List Row) (pending : Option (Text × List Text)) (word : Text) (j : IsJoined c.options word) (l : HasLong (rules_of c) j.name)
      → other_fault (leaf c) None word (held rows pending)
      ≡ or_else (settle_fault (rules_of c) false (held rows pending)) (use_fault false (built j.name (Some j.name) None l.required) (j.value ∷ []) (settled_rows (rules_of c) pending rows))
  joined_is rows pending word j l =
      ap (λ b. cond b [] (flag_word_fault (rules_of c) false (long_of word) word (held rows pending))) j.dashes
      ∙ ap (λ p. flag_word_fault (rules_of c) false p word (held rows pending)) j.long ∙ ap (λ r. long_fault (rules_of c) false r (Some j.value) (held rows pending)) l.is

  met_long : (h : Held) (waiting : Waiting) (place : ℕ) (word name : Text) (v : Option Text) → bytes_eq word (codes "--") ≡ false → long_of word ≡ Some (name, v)
      → word_met (rules_of c) [] false waiting place word h ≡ long_word (rules_of c) waiting word name v h
  met_long h waiting place word name v d e =
      met_is h waiting place word ∙ ap (λ b. cond b (h, walk.trailing place) (long_or_other (rules_of c) waiting word (long_of word) h)) d ∙ ap (λ p. long_or_other (rules_of c) waiting word p h) e

  joined_met : (h : Held) (place : ℕ) (word : Text) (j : IsJoined c.options word) (l : HasLong (rules_of c) j.name)
      → word_met (rules_of c) [] false idle place word h ≡ (reacted (rules_of c) (built j.name (Some j.name) None l.required) (j.value ∷ []) h, next idle)
  joined_met h place word j l =
      met_long h idle place word j.name (Some j.value) j.dashes j.long
      ∙ ap (λ r. after_flag (rules_of c) idle word (long_met (rules_of c) r (Some j.value) h).0 (long_met (rules_of c) r (Some j.value) h).1) l.is

  joined_faults : (rows : List Row) (pending : Option (Text × List Text)) (us : Uses) (place : ℕ) (word : Text) (j : IsJoined c.options word) (k : Kinds) → Usable rows pending us
      → ((required : Bool) → use_fault false (built j.name (Some j.name) None required) (j.value ∷ []) (rows_of us) ≡ k) → turn_fault (leaf c) [] (at (held rows pending) place false) word ≡ or_else k []
  joined_faults rows pending us place word j k u uses =
      let l = has_long 1 c.operands j.name c.options j.known in
      let a = built j.name (Some j.name) None l.required in
      ap₂ (λ (f : Kinds) (x : Held × Step). or_else f (step_fault (leaf c) place x.0 x.1))
      (fault_is (held rows pending) idle word ∙ joined_is rows pending word j l ∙ ap₂ or_else u.settles (ap (use_fault false a (j.value ∷ [])) u.rows_are ∙ uses l.required))
      (joined_met (held rows pending) place word j l)

  pub joined_turn : (rows : List Row) (pending : Option (Text × List Text)) (us : Uses) (place : ℕ) (word : Text) (j : IsJoined c.options word) → Usable rows pending us → value_of j.name us ≡ None
      → turn_fault (leaf c) [] (at (held rows pending) place false) word ≡ []
  joined_turn rows pending us place word j u e = joined_faults rows pending us place word j [] u (λ required. first_use j.name (Some j.name) None required j.value us e)

  pub joined_again : (rows : List Row) (pending : Option (Text × List Text)) (us : Uses) (place : ℕ) (word y : Text) (j : IsJoined c.options word) → Usable rows pending us → value_of j.name us ≡ Some y
      → turn_fault (leaf c) [] (at (held rows pending) place false) word ≡ ArgumentConflict ∷ []
  joined_again rows pending us place word y j u e = joined_faults rows pending us place word j (ArgumentConflict ∷ []) u (λ required. second_use j.name (Some j.name) None required j.value y us e)

  pub joined_walk : (rows : List Row) (pending : Option (Text × List Text)) (us : Uses) (place : ℕ) (word : Text) (j : IsJoined c.options word) → Usable rows pending us → value_of j.name us ≡ None
      → walked (rules_of c) [] (at (held rows pending) place false) word ≡ at (held (rows_of (us ++ (j.name, j.value) ∷ [])) None) place false
  joined_walk rows pending us place word j u e =
      let h = held rows pending in
      let l = has_long 1 c.operands j.name c.options j.known in
      let a = built j.name (Some j.name) None l.required in
      stepped h (reacted (rules_of c) a (j.value ∷ []) h) idle place false word (next idle) (joined_met h place word j l)
      ∙ ap (λ rs. at (held rs None) place false) (ap (used a (j.value ∷ [])) u.rows_are ∙ now_used j.name (Some j.name) None l.required j.value us e)

  -- ---- `--name`

  bare_is : (h : Held) (word : Text) (b : IsBare c.options word) → other_fault (leaf c) None word h ≡ settle_fault (rules_of c) false h
  bare_is h word b =
      let l = has_long 1 c.operands b.name c.options b.known in
      ap (λ d. cond d [] (flag_word_fault (rules_of c) false (long_of word) word h)) b.dashes
      ∙ ap (λ p. flag_word_fault (rules_of c) false p word h) b.long ∙ ap (λ r. long_fault (rules_of c) false r None h) l.is

  bare_met : (h : Held) (place : ℕ) (word : Text) (b : IsBare c.options word)
      → word_met (rules_of c) [] false idle place word h ≡ (record (settled (rules_of c) h) { pending = Some (b.name, []) }, next (option b.name))
  bare_met h place word b =
      let l = has_long 1 c.operands b.name c.options b.known in
      met_long h idle place word b.name None b.dashes b.long
      ∙ ap (λ r. after_flag (rules_of c) idle word (long_met (rules_of c) r None h).0 (long_met (rules_of c) r None h).1) l.is

  -- what is held where the option waits for its value
  abbrev pub expects : Uses → Text → ℕ → Walk
  expects us name place = waits (held (rows_of us) (Some (name, []))) (option name) place false

  pub bare_turn : (rows : List Row) (pending : Option (Text × List Text)) (us : Uses) (place : ℕ) (word : Text) (b : IsBare c.options word) → Usable rows pending us
      → turn_fault (leaf c) [] (at (held rows pending) place false) word ≡ []
  bare_turn rows pending us place word b u =
      let h = held rows pending in
      turned h (record (settled (rules_of c) h) { pending = Some (b.name, []) }) idle place false word (next (option b.name)) (fault_is h idle word ∙ bare_is h word b ∙ u.settles) (bare_met h place word b)

  pub bare_walk : (rows : List Row) (pending : Option (Text × List Text)) (us : Uses) (place : ℕ) (word : Text) (b : IsBare c.options word) → Usable rows pending us
      → walked (rules_of c) [] (at (held rows pending) place false) word ≡ expects us b.name place
  bare_walk rows pending us place word b u =
      let h = held rows pending in
      stepped h (record (settled (rules_of c) h) { pending = Some (b.name, []) }) idle place false word (next (option b.name)) (bare_met h place word b)
      ∙ ap (λ rs. waits (held rs (Some (b.name, []))) (option b.name) place false) u.rows_are

  -- ---- the word after it

  value_fault : (h : Held) (name word : Text) → IsOperand word → word_fault (leaf c) [] false (option name) word h ≡ []
  value_fault h name word o = rw (o.dashes, o.long, o.short) refl

  plain_value : (h : Held) (name : Text) (place : ℕ) (word : Text) → IsOperand word → word_met (rules_of c) [] false (option name) place word h ≡ plain_word (rules_of c) (option name) word h
  plain_value h name place word o = rw (o.dashes, o.long, o.short) refl

  taken_by : (us : Uses) (name word : Text) (r : HasRule (rules_of c) name)
      → plain_word (rules_of c) (option name) word (held (rows_of us) (Some (name, []))) ≡ (held (rows_of us) (Some (name, word ∷ [])), next idle)
  taken_by us name word r =
      let h = held (rows_of us) (Some (name, [])) in
      ap (λ (o : Option Rule). ((option_word o name word h).0, next (option_word o name word h).1)) r.is
      ∙ ap (λ b. (held (rows_of us) (Some (name, word ∷ [])), next (cond (nat_lt (cond b 1 0) 1) (option name) idle))) (itself name)

  value_met : (us : Uses) (name : Text) (place : ℕ) (word : Text) → IsOperand word → HasRule (rules_of c) name
      → word_met (rules_of c) [] false (option name) place word (held (rows_of us) (Some (name, []))) ≡ (held (rows_of us) (Some (name, word ∷ [])), next idle)
  value_met us name place word o r = plain_value (held (rows_of us) (Some (name, []))) name place word o ∙ taken_by us name word r

  pub value_turn : (us : Uses) (name : Text) (place : ℕ) (word : Text) → IsOperand word → HasRule (rules_of c) name → turn_fault (leaf c) [] (expects us name place) word ≡ []
  value_turn us name place word o r =
      let h = held (rows_of us) (Some (name, [])) in
      turned h (held (rows_of us) (Some (name, word ∷ []))) (option name) place false word (next idle) (value_fault h name word o) (value_met us name place word o r)

  pub value_walk : (us : Uses) (name : Text) (place : ℕ) (word : Text) → IsOperand word → HasRule (rules_of c) name
      → walked (rules_of c) [] (expects us name place) word ≡ at (held (rows_of us) (Some (name, word ∷ []))) place false
  value_walk us name place word o r =
      stepped (held (rows_of us) (Some (name, []))) (held (rows_of us) (Some (name, word ∷ []))) (option name) place false word (next idle) (value_met us name place word o r)

  -- ---- what can't be used

  -- it makes this fault
  abbrev pub IsStuck : List Row → Option (Text × List Text) → ErrorKind → Kinds → Type 0
  IsStuck rows pending k ks = settle_fault (rules_of c) false (held rows pending) ≡ k ∷ ks

  -- a value of an option that was used before, and an option without its value
  pub stuck_twice : (us : Uses) (name v y : Text) → HasRule (rules_of c) name → value_of name us ≡ Some y → IsStuck (rows_of us) (Some (name, v ∷ [])) ArgumentConflict []
  stuck_twice us name v y r e = ap (λ a. option_map_or (λ x. use_fault false x (v ∷ []) (rows_of us)) a []) r.is ∙ second_use name r.long r.index r.required v y us e

  pub stuck_bare : (us : Uses) (name : Text) → HasRule (rules_of c) name → IsStuck (rows_of us) (Some (name, [])) InvalidValue []
  stuck_bare us name r = ap (λ a. option_map_or (λ x. use_fault false x [] (rows_of us)) a []) r.is

  pub stuck_at_bare : (rows : List Row) (pending : Option (Text × List Text)) (word : Text) (k : ErrorKind) (ks : Kinds) → IsStuck rows pending k ks → IsBare c.options word
      → other_fault (leaf c) None word (held rows pending) ≡ k ∷ ks
  stuck_at_bare rows pending word k ks e b = bare_is (held rows pending) word b ∙ e

  pub stuck_at_joined : (rows : List Row) (pending : Option (Text × List Text)) (word : Text) (k : ErrorKind) (ks : Kinds) → IsStuck rows pending k ks → IsJoined c.options word
      → other_fault (leaf c) None word (held rows pending) ≡ k ∷ ks
  stuck_at_joined rows pending word k ks e j =
      let l = has_long 1 c.operands j.name c.options j.known in
      joined_is rows pending word j l ∙ ap (λ f. or_else f (use_fault false (built j.name (Some j.name) None l.required) (j.value ∷ []) (settled_rows (rules_of c) pending rows))) e
