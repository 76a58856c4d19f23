-- Where a walk stands: the operands and options that were read, and what of them is held.
use Rattle.std.proofs.Common.{◌≡◌, ◌∙◌, ◌<◌, ◌||◌, Bool, true, false, true≢false, ℕ, suc, List, [], ◌∷◌, ◌++◌, append-nil, append_assoc, length, refl, sym, ap, subst, arith, Option, Some, None, is_some, inl, inr, ◌⊎◌}
use Rattle.std.specs.Prelude.{⊤}
use Rattle.std.specs.List.{AllByRecursion}
use Rattle.std.specs.Str.{bytes_eq}
use Rattle.std.proofs.lemmas.Bool.{cases_Bool}
use Rattle.clap.specs.Walk.{Row, Text, arg_by_index}
use Rattle.app_words.specs.Usage.{Command}
use Rattle.app_words.proofs.Ends.{AreGiven}
use Rattle.app_words.proofs.Fails.{Place, none, takes}
use Rattle.app_words.proofs.Rules.{HasRule, at_place, has_operand, has_option, operands_from, options, past_places, rules_of}
use Rattle.app_words.proofs.Rows.{rows_of}
use Rattle.app_words.proofs.Says.{AreNames}
use Rattle.app_words.proofs.Steps.{Usable, usable_last, usable_rows}
use Rattle.app_words.proofs.Uses.{AreKnown, Once, Options, Uses, is_used, itself, known_differs, known_more, knows, nothing_once, once_more, same_text, stays, told_alike, unmoved, value_of}

-- ---- names of operands

-- the name stands among them
abbrev pub stands : List Text → Text → Bool
stands [] id = false
stands (x ∷ xs) id = bytes_eq x id || stands xs id

-- each stands there once
abbrev pub AreApart : List Text → Type 0
AreApart [] = ⊤
AreApart (id ∷ ids) = (stands ids id ≡ false) × AreApart ids

abbrev pub AreApartOptions : Options → Type 0
AreApartOptions [] = ⊤
AreApartOptions (o ∷ os) = (knows os o.0 ≡ false) × AreApartOptions os

-- A command's names are apart, and those of its options are names of options.
pub record IsSound (c : Command) : Type 0 where
  pub few : length c.operands < 1000
  pub apart : AreApart c.operands
  pub options_apart : AreApartOptions c.options
  pub other : AllByRecursion (λ id. knows c.options id ≡ false) c.operands
  pub names : AreNames c.options

pub or_true : (a b : Bool) → b ≡ true → (a || b) ≡ true
or_true true b e = refl
or_true false b e = e

pub stands_later : (done left : List Text) (id : Text) → stands left id ≡ true → stands (done ++ left) id ≡ true
stands_later [] left id e = e
stands_later (d ∷ ds) left id e = or_true (bytes_eq d id) (stands (ds ++ left) id) (stands_later ds left id e)

pub apart_at : (done left : List Text) (id : Text) → AreApart (done ++ id ∷ left) → stands left id ≡ false
apart_at [] left id a = a.0
apart_at (d ∷ ds) left id a = apart_at ds left id a.1

pub other_at : (os : Options) (done left : List Text) (id : Text) → AllByRecursion (λ x. knows os x ≡ false) (done ++ id ∷ left) → knows os id ≡ false
other_at os [] left id a = a.0
other_at os (d ∷ ds) left id a = other_at os ds left id a.1

-- those that stand there are no options
pub other_names : (os : Options) (ids : List Text) (id : Text) → AllByRecursion (λ x. knows os x ≡ false) ids → stands ids id ≡ true → knows os id ≡ false
other_names os [] id a e = absurd (true≢false (sym e))
other_names os (x ∷ xs) id a e = by (cases_Bool (bytes_eq x id)) (other_names os xs id a.1)
  where
    by : (bytes_eq x id ≡ true) ⊎ (bytes_eq x id ≡ false) → (stands xs id ≡ true → knows os id ≡ false) → knows os id ≡ false
    by (inl t) later = ap (knows os) (sym (same_text x id t)) ∙ a.0
    by (inr f) later = later (sym (ap (λ b. b || stands xs id) f) ∙ e)

-- ---- operands that were read, by their names

abbrev pub AreMet : List Text → List Text → Uses → Type 0
AreMet [] [] us = ⊤
AreMet (id ∷ ids) (op ∷ ops) us = (value_of id us ≡ Some op) × AreMet ids ops us
AreMet _ _ us = ⊥

pub met_count : (ids ops : List Text) (us : Uses) → AreMet ids ops us → length ids ≡ length ops
met_count [] [] us m = refl
met_count [] (op ∷ ops) us m = absurd m
met_count (id ∷ ids) [] us m = absurd m
met_count (id ∷ ids) (op ∷ ops) us m = ap suc (met_count ids ops us m.1)

pub met_stays : (ids ops : List Text) (us more : Uses) → AreMet ids ops us → AreMet ids ops (us ++ more)
met_stays [] [] us more m = tt
met_stays [] (op ∷ ops) us more m = absurd m
met_stays (id ∷ ids) [] us more m = absurd m
met_stays (id ∷ ids) (op ∷ ops) us more m = (stays id op us more m.0, met_stays ids ops us more m.1)

pub met_more : (ids ops : List Text) (us : Uses) (id op : Text) → AreMet ids ops us → value_of id us ≡ Some op → AreMet (ids ++ id ∷ []) (ops ++ op ∷ []) us
met_more [] [] us id op m e = (e, tt)
met_more [] (x ∷ ops) us id op m e = absurd m
met_more (x ∷ ids) [] us id op m e = absurd m
met_more (x ∷ ids) (y ∷ ops) us id op m e = (m.0, met_more ids ops us id op m.1 e)

pub met_given : (ids ops : List Text) (us : Uses) → AreMet ids ops us → AreGiven ids us
met_given [] [] us m = tt
met_given [] (op ∷ ops) us m = absurd m
met_given (id ∷ ids) [] us m = absurd m
met_given (id ∷ ids) (op ∷ ops) us m = (ap is_some m.0, met_given ids ops us m.1)

-- ---- stages

-- The uses that were read are those of the first names, in order, and those of options; they are held.
pub record Stage (c : Command) : Type 0 where
  pub rows : List Row
  pub pending : Option (Text × List Text)
  pub uses : Uses
  pub usable : Usable c rows pending uses
  pub met : List Text
  pub vals : Uses
  pub done : List Text
  pub left : List Text
  pub split : c.operands ≡ done ++ left
  pub are_met : AreMet done met uses
  pub fresh : (id : Text) → stands left id ≡ true → value_of id uses ≡ None
  pub valued : (name : Text) → knows c.options name ≡ true → value_of name uses ≡ value_of name vals
  pub known : AreKnown c.options vals
  pub once : Once vals

abbrev pub start : (c : Command) → Stage c
start c = record {
  rows = [];
  pending = None;
  uses = [];
  usable = usable_rows c [];
  met = [];
  vals = [];
  done = [];
  left = c.operands;
  split = refl;
  are_met = tt;
  fresh = λ id e. refl;
  valued = λ name k. refl;
  known = tt;
  once = nothing_once;
}

-- where the next operand goes
abbrev pub place_of : {c : Command} → Stage c → ℕ
place_of s = suc (length s.met)

pub place_is : (c : Command) (s : Stage c) → Place c (place_of s)
place_is c s = by s.left s.split
  where
    by : (left : List Text) → c.operands ≡ s.done ++ left → Place c (suc (length s.met))
    by [] e =
        none (ap (λ ids. arg_by_index (operands_from 1 ids ++ options c.options) (suc (length s.met))) e
        ∙ past_places 1 (suc (length s.met)) (s.done ++ []) c.options (let n = met_count s.done s.met s.uses s.are_met in let m = ap length (append-nil s.done) in omega (arith, n, m)))
    by (id ∷ more) e =
        takes id (ap (λ ids. arg_by_index (operands_from 1 ids ++ options c.options) (suc (length s.met))) e
        ∙ at_place 1 (suc (length s.met)) s.done more id c.options (let n = met_count s.done s.met s.uses s.are_met in omega (arith, n)))

-- ---- one more

module _ (c : Command) (sound : IsSound c) (s : Stage c) where
  pub operand_rule : (id : Text) (more : List Text) → s.left ≡ id ∷ more → HasRule (rules_of c) id
  operand_rule id more e =
      subst (λ ids. HasRule (operands_from 1 ids ++ options c.options) id) (sym (s.split ∙ ap (λ l. s.done ++ l) e)) (has_operand 1 s.done more id c.options)

  pub next_fresh : (id : Text) (more : List Text) → s.left ≡ id ∷ more → value_of id s.uses ≡ None
  next_fresh id more e = s.fresh id (ap (λ l. stands l id) e ∙ ap (λ b. b || stands more id) (itself id))

  pub split_so : (id : Text) (more : List Text) → s.left ≡ id ∷ more → c.operands ≡ s.done ++ id ∷ more
  split_so id more e = s.split ∙ ap (λ l. s.done ++ l) e

  -- an operand more
  abbrev pub with_operand : (id : Text) (more : List Text) (word : Text) → s.left ≡ id ∷ more → Stage c
  with_operand id more word e = record {
    rows = rows_of s.uses;
    pending = Some (id, word ∷ []);
    uses = s.uses ++ (id, word) ∷ [];
    usable = usable_last c s.uses id word (operand_rule id more e) (next_fresh id more e);
    met = s.met ++ word ∷ [];
    vals = s.vals;
    done = s.done ++ id ∷ [];
    left = more;
    split = split_so id more e ∙ sym (append_assoc s.done (id ∷ []) more);
    are_met = met_more s.done s.met (s.uses ++ (id, word) ∷ []) id word (met_stays s.done s.met s.uses ((id, word) ∷ []) s.are_met) (is_used id word s.uses (next_fresh id more e));
    fresh = λ other there.
        unmoved other id word s.uses (known_differs id other (stands more other) (stands more id) there (apart_at s.done more id (subst AreApart (split_so id more e) sound.apart)) (λ same. ap (stands more) (sym same)))
        ∙ s.fresh other (ap (λ l. stands l other) e ∙ or_true (bytes_eq id other) (stands more other) there);
    valued = λ name k.
        unmoved name id word s.uses (known_differs id name (knows c.options name) (knows c.options id) k
        (other_at c.options s.done more id (subst (AllByRecursion (λ x. knows c.options x ≡ false)) (split_so id more e) sound.other)) (λ same. ap (knows c.options) (sym same)))
        ∙ s.valued name k;
    known = s.known;
    once = s.once;
  }

  -- an option more, however it is held
  abbrev with_option : (name v : Text) (rows : List Row) (pending : Option (Text × List Text)) → knows c.options name ≡ true → value_of name s.vals ≡ None → Usable c rows pending (s.uses ++ (name, v) ∷ []) → Stage c
  with_option name v rows pending k e usable = record {
    rows = rows;
    pending = pending;
    uses = s.uses ++ (name, v) ∷ [];
    usable = usable;
    met = s.met;
    vals = s.vals ++ (name, v) ∷ [];
    done = s.done;
    left = s.left;
    split = s.split;
    are_met = met_stays s.done s.met s.uses ((name, v) ∷ []) s.are_met;
    fresh = λ other there.
        unmoved other name v s.uses (known_differs name other (knows c.options name) (knows c.options other) k
        (other_names c.options c.operands other sound.other (ap (λ l. stands l other) s.split ∙ stands_later s.done s.left other there)) (ap (knows c.options)))
        ∙ s.fresh other there;
    valued = λ other known. told_alike other (name, v) s.uses s.vals (s.valued other known);
    known = known_more c.options s.vals name v s.known k;
    once = once_more name v s.vals e s.once;
  }

  pub unused_so : (name : Text) → knows c.options name ≡ true → value_of name s.vals ≡ None → value_of name s.uses ≡ None
  unused_so name k e = s.valued name k ∙ e

  -- `--name=value`, and `--name value`
  abbrev pub with_joined : (name v : Text) → knows c.options name ≡ true → value_of name s.vals ≡ None → Stage c
  with_joined name v k e = with_option name v (rows_of (s.uses ++ (name, v) ∷ [])) None k e (usable_rows c (s.uses ++ (name, v) ∷ []))

  abbrev pub with_value : (name v : Text) → knows c.options name ≡ true → value_of name s.vals ≡ None → Stage c
  with_value name v k e =
      with_option name v (rows_of s.uses) (Some (name, v ∷ [])) k e (usable_last c s.uses name v (has_option 1 c.operands name c.options k) (unused_so name k e))
