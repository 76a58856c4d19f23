-- What `clap` makes of the words of a command, whatever they are: it takes those that are its operands and options, and finds these.
use Rattle.std.proofs.Common.{◌≡◌, ◌∙◌, ◌<◌, ◌||◌, Bool, true, false, true≢false, ℕ, suc, List, [], ◌∷◌, ◌++◌, append-nil, append_assoc, length, length-append, refl, sym, ap, subst, subst₂, arith, Option, Some, None, codes, is_some, inl, inr, ◌⊎◌}
use Rattle.std.specs.Prelude.{⊤}
use Rattle.std.specs.List.{AllByRecursion}
use Rattle.std.specs.Str.{IsUtf8, bytes_eq}
use Rattle.std.proofs.lemmas.Bool.{cases_Bool}
use Rattle.clap.specs.Lexer.{usize_max}
use Rattle.clap.specs.Faults.{turn_fault}
use Rattle.clap.specs.Walk.{Row, Text, Walk, arg_by_index, finished, first_of, idle, option, walked}
use Rattle.clap.specs.declared.error.kind.ErrorKind.TheVariants.{ArgumentConflict, InvalidValue, MissingRequiredArgument, UnknownArgument}
use Rattle.app_words.specs.Asks.{is_option}
use Rattle.app_words.specs.Usage.{Command}
use Rattle.app_words.proofs.WordKinds.{IsOperand, IsShort, Kind, kind_of_word}
use Rattle.app_words.proofs.OptionKinds.{IsBare, IsJoined, LongKind, long_kind, other_unknown, short_unknown}
use Rattle.app_words.proofs.Rules.{built, leaf, has_option, operands_from, options, rules_of, at_place, past_places}
use Rattle.app_words.proofs.Rows.{first_is, rows_of}
use Rattle.app_words.proofs.Says.{HasValue, IsUnknown, Says, dashes_said, joined_said, never_said, nothing_said, operand_said, said_dashes, said_joined, said_nothing, said_operand, said_valued, valued_said}
use Rattle.app_words.proofs.Uses.{AreKnown, Once, Uses, itself, knows, twice, value_of}
use Rattle.app_words.proofs.Walks.{Fails, at, at_end, ends_so, faults, held, on_faults, on_rows, passed, rows, stops}
use Rattle.app_words.proofs.Steps.{Plain, bare_turn, bare_walk, expects, joined_again, joined_turn, joined_walk, operand_faults, operand_walk, other_refused, refused, short_refused, stray, stuck_bare, stuck_twice, dashes_turn, dashes_walk, value_turn, value_walk}
use Rattle.app_words.proofs.Fails.{dashes_fails, fails, last_fails, long_fails, short_fails}
use Rattle.app_words.proofs.Ends.{AreGiven, AreRequired, after_is, finished_is, given, lacks, missing, nothing_lacks}
use Rattle.app_words.proofs.Stages.{stands as named_in, or_true, AreMet, IsSound, Stage, met_count, met_given, place_is, place_of, unused_so, with_joined, with_operand, with_value}

-- These are operands and options of the command.
pub record Fits (c : Command) (ops : List Text) (opts : Uses) : Type 0 where
  pub count : length ops ≡ length c.operands
  pub known : AreKnown c.options opts
  pub once : Once opts
  pub required : AreRequired c.options opts

-- the rows have these operands, by their names
abbrev pub AreFound : List Text → List Text → List Row → Type 0
AreFound [] [] rs = ⊤
AreFound (id ∷ ids) (op ∷ ops) rs = (first_of id rs ≡ Some op) × AreFound ids ops rs
AreFound _ _ rs = ⊥

-- what words must say
abbrev pub Wish : Type 1
Wish = List Text → Uses → Type 0

module _ (c : Command) where
  -- They say one thing, and `clap` finds it.
  pub record IsTaken (w : Walk) (words : List Text) (wish : Wish) : Type 0 where
    pub ops : List Text
    pub opts : Uses
    pub fits : Fits c ops opts
    pub asks : wish ops opts
    pub only : (other : List Text) (vals : Uses) → Fits c other vals → wish other vals → (other ≡ ops) × (vals ≡ opts)
    pub passes : faults (leaf c) w words ≡ []
    pub operands : AreFound c.operands ops (rows (leaf c) w words)
    pub options : (name : Text) → knows c.options name ≡ true → first_of name (rows (leaf c) w words) ≡ value_of name opts

  -- They say none, and `clap` refuses them.
  pub record IsRefused (w : Walk) (words : List Text) (wish : Wish) : Type 0 where
    pub never : (ops : List Text) (opts : Uses) → Fits c ops opts → wish ops opts → ⊥
    pub fails : Fails (faults (leaf c) w words)

  abbrev pub Reading : Walk → List Text → Wish → Type 0
  Reading w words wish = IsTaken w words wish ⊎ IsRefused w words wish

  -- one word more, in which nothing fails
  carried : (w v : Walk) (word : Text) (rest : List Text) (wish later : Wish) → turn_fault (leaf c) [] w word ≡ [] → walked (rules_of c) [] w word ≡ v
      → ((ops : List Text) (opts : Uses) → Fits c ops opts → later ops opts → wish ops opts) → ((ops : List Text) (opts : Uses) → Fits c ops opts → wish ops opts → later ops opts)
      → Reading v rest later → Reading w (word ∷ rest) wish
  carried w v word rest wish later passes is back on (inl t) = inl (record {
    ops = t.ops;
    opts = t.opts;
    fits = t.fits;
    asks = back t.ops t.opts t.fits t.asks;
    only = λ other vals fits asks. t.only other vals fits (on other vals fits asks);
    passes = on_faults (leaf c) w v word rest passes is ∙ t.passes;
    operands = subst (AreFound c.operands t.ops) (sym (on_rows (leaf c) w v word rest is)) t.operands;
    options = λ name k. ap (first_of name) (on_rows (leaf c) w v word rest is) ∙ t.options name k;
  })
  carried w v word rest wish later passes is back on (inr r) = inr (record {
    never = λ ops opts fits asks. r.never ops opts fits (on ops opts fits asks);
    fails = passed (leaf c) w v word rest passes is r.fails;
  })

  refuse : (w : Walk) (words : List Text) (wish : Wish) → ((ops : List Text) (opts : Uses) → Fits c ops opts → wish ops opts → ⊥) → Fails (faults (leaf c) w words) → Reading w words wish
  refuse w words wish never f = inr (record { never = never; fails = f })

  -- ---- where a stage stands

  abbrev pub stands : Stage c → Bool → Walk
  stands s trailing = at (held s.rows s.pending) (place_of s) trailing

  -- what the words that are left say, with what was read
  abbrev pub wish : Stage c → List Text → Wish
  wish s words ops opts = Says s.met s.vals words ops opts

  abbrev behind : Stage c → List Text → Wish
  behind s rest ops opts = (s.met ++ rest ≡ ops) × (s.vals ≡ opts)

  -- ---- after the last word

  found : (ids ops : List Text) (us : Uses) → AreMet ids ops us → AreFound ids ops (rows_of us)
  found [] [] us m = tt
  found [] (op ∷ ops) us m = absurd m
  found (id ∷ ids) [] us m = absurd m
  found (id ∷ ids) (op ∷ ops) us m = (first_is id us ∙ m.0, found ids ops us m.1)

  required_alike : (os : List (Text × Bool)) (us vals : Uses) → ((name : Text) → knows os name ≡ true → value_of name us ≡ value_of name vals) → AreRequired os us → AreRequired os vals
  required_alike [] us vals same h = tt
  required_alike (o ∷ os) us vals same h =
      (λ e. ap is_some (sym (same o.0 (first_known o os))) ∙ h.0 e, required_alike os us vals (λ name k. same name (later_known name o os k)) h.1)
    where
      first_known : (o : Text × Bool) (os : List (Text × Bool)) → knows (o ∷ os) o.0 ≡ true
      first_known o os = ap (λ b. b || knows os o.0) (itself o.0)

      later_known : (name : Text) (o : Text × Bool) (os : List (Text × Bool)) → knows os name ≡ true → knows (o ∷ os) name ≡ true
      later_known name o os k = or_true (bytes_eq o.0 name) (knows os name) k

  -- all operands were read where none is lacking
  no_more : (left : List Text) (done : List Text) (us : Uses) → ((id : Text) → named_in left id ≡ true → value_of id us ≡ None) → AreGiven (done ++ left) us → left ≡ []
  no_more [] done us fresh g = refl
  no_more (id ∷ more) [] us fresh g = absurd (true≢false (sym g.0 ∙ ap is_some (fresh id (ap (λ b. b || named_in more id) (itself id)))))
  no_more (id ∷ more) (d ∷ ds) us fresh g = no_more (id ∷ more) ds us fresh g.1

  done_with : (s : Stage c) (trailing : Bool) (said : Wish) → s.left ≡ [] → AreRequired c.options s.uses → said s.met s.vals
      → ((other : List Text) (vals : Uses) → said other vals → (other ≡ s.met) × (vals ≡ s.vals)) → lacks c.operands c.options s.uses ≡ false → Reading (stands s trailing) [] said
  done_with s trailing said e r asks only l =
      let all : c.operands ≡ s.done = s.split ∙ ap (λ x. s.done ++ x) e ∙ append-nil s.done in
      let end : finished (rules_of c) (held s.rows s.pending) ≡ rows_of s.uses = finished_is c s.rows s.pending s.uses s.usable in
      inl (record {
        ops = s.met;
        opts = s.vals;
        fits = record { count = sym (met_count s.done s.met s.uses s.are_met) ∙ ap length (sym all); known = s.known; once = s.once; required = required_alike c.options s.uses s.vals s.valued r };
        asks = asks;
        only = λ other vals fits said. only other vals said;
        passes = at_end (leaf c) (stands s trailing) [] (after_is c s.rows s.pending s.uses s.usable ∙ ap missing l);
        operands = subst₂ (λ ids rs. AreFound ids s.met rs) (sym all) (sym end) (found s.done s.met s.uses s.are_met);
        options = λ name k. ap (first_of name) end ∙ first_is name s.uses ∙ s.valued name k;
      })

  -- what fits is all there
  short_list : (done left : List Text) → length (done ++ left) ≡ length done → left ≡ []
  short_list [] [] e = refl
  short_list [] (x ∷ xs) e = absurd (omega (arith, e))
  short_list (d ∷ ds) left e = short_list ds left (omega (arith, e))

  fit_lacks : (s : Stage c) → Fits c s.met s.vals → lacks c.operands c.options s.uses ≡ false
  fit_lacks s f =
      let count = met_count s.done s.met s.uses s.are_met in
      let all = ap length s.split in
      let none : s.left ≡ [] = short_list s.done s.left (omega (arith, count, all, f.count)) in
      let whole : c.operands ≡ s.done = s.split ∙ ap (λ x. s.done ++ x) none ∙ append-nil s.done in
      nothing_lacks c.operands c.options s.uses (subst (λ ids. AreGiven ids s.uses) (sym whole) (met_given s.done s.met s.uses s.are_met))
      (required_alike c.options s.vals s.uses (λ name k. sym (s.valued name k)) f.required)

  undone : (s : Stage c) (trailing : Bool) (said : Wish) → ((other : List Text) (vals : Uses) → said other vals → (other ≡ s.met) × (vals ≡ s.vals)) → lacks c.operands c.options s.uses ≡ true
      → Reading (stands s trailing) [] said
  undone s trailing said only l =
      refuse (stands s trailing) [] said
      (λ ops opts fits said. let same = only ops opts said in true≢false (sym l ∙ fit_lacks s (subst₂ (Fits c) same.0 same.1 fits)))
      (ends_so (leaf c) (stands s trailing) MissingRequiredArgument [] (after_is c s.rows s.pending s.uses s.usable ∙ ap missing l))

  end_by : (s : Stage c) (trailing : Bool) (said : Wish) → said s.met s.vals → ((other : List Text) (vals : Uses) → said other vals → (other ≡ s.met) × (vals ≡ s.vals)) → Reading (stands s trailing) [] said
  end_by s trailing said asks only = by (cases_Bool (lacks c.operands c.options s.uses))
    where
      by : (lacks c.operands c.options s.uses ≡ true) ⊎ (lacks c.operands c.options s.uses ≡ false) → Reading (stands s trailing) [] said
      by (inl l) = undone s trailing said only l
      by (inr l) =
          let g = given c.operands c.options s.uses l in
          done_with s trailing said (no_more s.left s.done s.uses s.fresh (subst (λ ids. AreGiven ids s.uses) s.split g.0)) g.1 asks only l

  -- ---- after `--`

  too_many : (met : List Text) (word : Text) (more ops : List Text) (n : ℕ) → length met ≡ n → met ++ word ∷ more ≡ ops → length ops ≡ n → ⊥
  too_many met word more ops n whole e count =
      let all : length (met ++ word ∷ more) ≡ length ops = ap length e in
      absurd (omega (arith, whole, count, all, length-append met (word ∷ more)))

  all_read : (s : Stage c) → s.left ≡ [] → length s.met ≡ length c.operands
  all_read s e = sym (met_count s.done s.met s.uses s.are_met) ∙ ap length (sym (s.split ∙ ap (λ x. s.done ++ x) e ∙ append-nil s.done))

  hits : (s : Stage c) (id : Text) (more : List Text) → s.left ≡ id ∷ more → arg_by_index (rules_of c) (place_of s) ≡ Some (built id None (Some (place_of s)) true)
  hits s id more e =
      ap (λ ids. arg_by_index (operands_from 1 ids ++ options c.options) (place_of s)) (s.split ∙ ap (λ l. s.done ++ l) e)
      ∙ at_place 1 (place_of s) s.done more id c.options (let n = met_count s.done s.met s.uses s.are_met in omega (arith, n))

  misses : (s : Stage c) → s.left ≡ [] → arg_by_index (rules_of c) (place_of s) ≡ None
  misses s e = past_places 1 (place_of s) c.operands c.options (let n = all_read s e in omega (arith, n))

  module _ (sound : IsSound c) where
    small_place : (s : Stage c) (id : Text) (more : List Text) → s.left ≡ id ∷ more → suc (place_of s) < usize_max
    small_place s id more e =
        let count = met_count s.done s.met s.uses s.are_met in
        let all = ap length (s.split ∙ ap (λ l. s.done ++ l) e) in
        let both = length-append s.done (id ∷ more) in
        let few = sound.few in
        omega (arith, count, all, both, few)

    longer : (s : Stage c) (id : Text) (more : List Text) (word : Text) (e : s.left ≡ id ∷ more) → place_of (with_operand c sound s id more word e) ≡ suc (place_of s)
    longer s id more word e = let n = length-append s.met (word ∷ []) in omega (arith, n)

    operand_turn : (s : Stage c) (trailing : Bool) (word : Text) (id : Text) (more : List Text) → Plain c trailing word → s.left ≡ id ∷ more → turn_fault (leaf c) [] (stands s trailing) word ≡ []
    operand_turn s trailing word id more o e = operand_faults c s.rows s.pending (place_of s) id trailing word o (hits s id more e) ∙ s.usable.settles

    operand_goes : (s : Stage c) (trailing : Bool) (word : Text) (id : Text) (more : List Text) → Plain c trailing word → (e : s.left ≡ id ∷ more)
        → walked (rules_of c) [] (stands s trailing) word ≡ stands (with_operand c sound s id more word e) trailing
    operand_goes s trailing word id more o e =
        operand_walk c s.rows s.pending s.uses (place_of s) id trailing word o s.usable (small_place s id more e) (hits s id more e)
        ∙ ap (λ p. at (held (rows_of s.uses) (Some (id, word ∷ []))) p trailing) (sym (longer s id more word e))

    -- every word after it is an operand
    abbrev Behind : List Text → Type 0
    Behind rest = (s : Stage c) → Reading (stands s true) rest (behind s rest)

    behind_by : (s : Stage c) (word : Text) (rest left : List Text) → s.left ≡ left → Behind rest → Reading (stands s true) (word ∷ rest) (behind s (word ∷ rest))
    behind_by s word rest [] e next =
        refuse (stands s true) (word ∷ rest) (behind s (word ∷ rest)) (λ ops opts fits said. too_many s.met word rest ops (length c.operands) (all_read s e) said.0 fits.count)
        (stops (leaf c) (stands s true) word rest UnknownArgument [] (stray c (held s.rows s.pending) (place_of s) true word tt (misses s e)))
    behind_by s word rest (id ∷ more) e next =
        let t = with_operand c sound s id more word e in
        carried (stands s true) (stands t true) word rest (behind s (word ∷ rest)) (behind t rest) (operand_turn s true word id more tt e) (operand_goes s true word id more tt e)
        (λ ops opts fits said. (sym (append_assoc s.met (word ∷ []) rest) ∙ said.0, said.1)) (λ ops opts fits said. (append_assoc s.met (word ∷ []) rest ∙ said.0, said.1)) (next t)

    reads_behind : (rest : List Text) → Behind rest
    reads_behind [] s = end_by s true (behind s []) (append-nil s.met, refl) (λ other vals said. (sym said.0 ∙ append-nil s.met, sym said.1))
    reads_behind (word ∷ rest) s = behind_by s word rest s.left refl (reads_behind rest)

    dashes_read : (s : Stage c) (rest : List Text) → Reading (stands s false) (codes "--" ∷ rest) (wish s (codes "--" ∷ rest))
    dashes_read s rest =
        carried (stands s false) (stands s true) (codes "--") rest (wish s (codes "--" ∷ rest)) (behind s rest) (dashes_turn c (held s.rows s.pending) idle (place_of s)) (dashes_walk c (held s.rows s.pending) idle (place_of s))
        (λ ops opts fits said. dashes_said s.met s.vals rest ops opts said.0 said.1) (λ ops opts fits said. said_dashes c.options sound.names s.met s.vals rest ops opts fits.known said) (reads_behind rest s)

    -- ---- an operand

    abbrev Next : List Text → Type 0
    Next rest = (s : Stage c) → Reading (stands s false) rest (wish s rest)

    operand_by : (s : Stage c) (word : Text) (rest left : List Text) → s.left ≡ left → IsOperand word → Next rest → Reading (stands s false) (word ∷ rest) (wish s (word ∷ rest))
    operand_by s word rest [] e o next =
        refuse (stands s false) (word ∷ rest) (wish s (word ∷ rest))
        (λ ops opts fits said.
        let more = said_operand s.met s.vals word rest ops opts o.option said in
        too_many s.met word more.later ops (length c.operands) (all_read s e) (sym (append_assoc s.met (word ∷ []) more.later) ∙ more.operands) fits.count)
        (stops (leaf c) (stands s false) word rest UnknownArgument [] (stray c (held s.rows s.pending) (place_of s) false word o (misses s e)))
    operand_by s word rest (id ∷ more) e o next =
        let t = with_operand c sound s id more word e in
        carried (stands s false) (stands t false) word rest (wish s (word ∷ rest)) (wish t rest) (operand_turn s false word id more o e) (operand_goes s false word id more o e)
        (λ ops opts fits said. operand_said s.met s.vals word rest ops opts o.option said) (λ ops opts fits said. said_operand s.met s.vals word rest ops opts o.option said) (next t)

    -- ---- `--name=value`

    again : (s : Stage c) (name v y : Text) (rest ops : List Text) (opts : Uses) → value_of name s.vals ≡ Some y → Fits c ops opts → Says s.met (s.vals ++ (name, v) ∷ []) rest ops opts → ⊥
    again s name v y rest ops opts e fits said =
        twice name v y s.vals said.more e (subst Once (sym (sym (append_assoc s.vals ((name, v) ∷ []) said.more) ∙ said.options)) fits.once)

    joined_by : (s : Stage c) (word : Text) (rest : List Text) (j : IsJoined c.options word) (o : Option Text) → value_of j.name s.vals ≡ o → Next rest → Reading (stands s false) (word ∷ rest) (wish s (word ∷ rest))
    joined_by s word rest j None e next =
        let t = with_joined c sound s j.name j.value j.known e in
        let fresh = unused_so c sound s j.name j.known e in
        carried (stands s false) (stands t false) word rest (wish s (word ∷ rest)) (wish t rest)
        (joined_turn c s.rows s.pending s.uses (place_of s) word j s.usable fresh) (joined_walk c s.rows s.pending s.uses (place_of s) word j s.usable fresh)
        (λ ops opts fits said. subst (λ x. Says s.met s.vals (x ∷ rest) ops opts) (sym j.is) (joined_said s.met s.vals j.name j.value rest ops opts said))
        (λ ops opts fits said. said_joined c.options sound.names s.met s.vals j.name j.value rest ops opts (sound.names j.name j.known) fits.known (subst (λ x. Says s.met s.vals (x ∷ rest) ops opts) j.is said)) (next t)
    joined_by s word rest j (Some y) e next =
        refuse (stands s false) (word ∷ rest) (wish s (word ∷ rest))
        (λ ops opts fits said. again s j.name j.value y rest ops opts e fits
        (said_joined c.options sound.names s.met s.vals j.name j.value rest ops opts (sound.names j.name j.known) fits.known (subst (λ x. Says s.met s.vals (x ∷ rest) ops opts) j.is said)))
        (stops (leaf c) (stands s false) word rest ArgumentConflict [] (joined_again c s.rows s.pending s.uses (place_of s) word y j s.usable (s.valued j.name j.known ∙ e)))

    -- ---- `--name` and a value in the next word

    same_head : (a b : Text) (xs ys : List Text) → a ∷ xs ≡ b ∷ ys → a ≡ b
    same_head a b xs ys e = cc

    same_tail : (a b : Text) (xs ys : List Text) → a ∷ xs ≡ b ∷ ys → xs ≡ ys
    same_tail a b xs ys e = cc

    has_value : (s : Stage c) (word : Text) (rest ops : List Text) (opts : Uses) (b : IsBare c.options word) → Fits c ops opts → wish s (word ∷ rest) ops opts → HasValue s.met s.vals b.name rest ops opts
    has_value s word rest ops opts b fits said =
        said_valued c.options sound.names s.met s.vals b.name rest ops opts (sound.names b.name b.known) fits.known (subst (λ x. Says s.met s.vals (x ∷ rest) ops opts) b.is said)

    says_value : (s : Stage c) (word v : Text) (rest ops : List Text) (opts : Uses) (b : IsBare c.options word) → Fits c ops opts → wish s (word ∷ v ∷ rest) ops opts
        → Says s.met (s.vals ++ (b.name, v) ∷ []) rest ops opts
    says_value s word v rest ops opts b fits said =
        let h = has_value s word (v ∷ rest) ops opts b fits said in
        subst₂ (λ x ws. Says s.met (s.vals ++ (b.name, x) ∷ []) ws ops opts) (sym (same_head v h.value rest h.words h.is)) (sym (same_tail v h.value rest h.words h.is)) h.says

    bare_fails : (s : Stage c) (word : Text) (rest : List Text) (b : IsBare c.options word) → Fails (faults (leaf c) (expects c s.uses b.name (place_of s)) rest) → Fails (faults (leaf c) (stands s false) (word ∷ rest))
    bare_fails s word rest b f =
        passed (leaf c) (stands s false) (expects c s.uses b.name (place_of s)) word rest (bare_turn c s.rows s.pending s.uses (place_of s) word b s.usable) (bare_walk c s.rows s.pending s.uses (place_of s) word b s.usable) f

    value_by : (s : Stage c) (word v : Text) (rest : List Text) (b : IsBare c.options word) (o : Option Text) → AllByRecursion IsUtf8 rest → IsOperand v → value_of b.name s.vals ≡ o → Next rest
        → Reading (stands s false) (word ∷ v ∷ rest) (wish s (word ∷ v ∷ rest))
    value_by s word v rest b None u o e next =
        let t = with_value c sound s b.name v b.known e in
        let rule = has_option 1 c.operands b.name c.options b.known in
        let second : Reading (expects c s.uses b.name (place_of s)) (v ∷ rest) (wish t rest) =
        carried (expects c s.uses b.name (place_of s)) (stands t false) v rest (wish t rest) (wish t rest) (value_turn c s.uses b.name (place_of s) v o rule) (value_walk c s.uses b.name (place_of s) v o rule)
        (λ ops opts fits said. said) (λ ops opts fits said. said) (next t) in
        carried (stands s false) (expects c s.uses b.name (place_of s)) word (v ∷ rest) (wish s (word ∷ v ∷ rest)) (wish t rest)
        (bare_turn c s.rows s.pending s.uses (place_of s) word b s.usable) (bare_walk c s.rows s.pending s.uses (place_of s) word b s.usable)
        (λ ops opts fits said. subst (λ x. Says s.met s.vals (x ∷ v ∷ rest) ops opts) (sym b.is) (valued_said s.met s.vals b.name v rest ops opts o.option said))
        (λ ops opts fits said. says_value s word v rest ops opts b fits said) second
    value_by s word v rest b (Some y) u o e next =
        let rule = has_option 1 c.operands b.name c.options b.known in
        let used = s.valued b.name b.known ∙ e in
        refuse (stands s false) (word ∷ v ∷ rest) (wish s (word ∷ v ∷ rest))
        (λ ops opts fits said. again s b.name v y rest ops opts e fits (says_value s word v rest ops opts b fits said))
        (bare_fails s word (v ∷ rest) b
        (passed (leaf c) (expects c s.uses b.name (place_of s)) (at (held (rows_of s.uses) (Some (b.name, v ∷ []))) (place_of s) false) v rest
        (value_turn c s.uses b.name (place_of s) v o rule) (value_walk c s.uses b.name (place_of s) v o rule)
        (fails c (rows_of s.uses) (Some (b.name, v ∷ [])) ArgumentConflict [] (stuck_twice c s.uses b.name v y rule used) (place_of s) rest u (place_is c s))))

    -- the next word is no value
    no_value : (s : Stage c) (word v : Text) (rest : List Text) (b : IsBare c.options word) → is_option v ≡ true → Fails (faults (leaf c) (expects c s.uses b.name (place_of s)) (v ∷ rest))
        → Reading (stands s false) (word ∷ v ∷ rest) (wish s (word ∷ v ∷ rest))
    no_value s word v rest b p f =
        refuse (stands s false) (word ∷ v ∷ rest) (wish s (word ∷ v ∷ rest))
        (λ ops opts fits said. let h = has_value s word (v ∷ rest) ops opts b fits said in true≢false (sym p ∙ ap is_option (same_head v h.value rest h.words h.is) ∙ h.plain))
        (bare_fails s word (v ∷ rest) b f)

    last_bare : (s : Stage c) (word : Text) (b : IsBare c.options word) → Reading (stands s false) (word ∷ []) (wish s (word ∷ []))
    last_bare s word b =
        refuse (stands s false) (word ∷ []) (wish s (word ∷ [])) (λ ops opts fits said. let h = has_value s word [] ops opts b fits said in no_word h.value h.words h.is)
        (bare_fails s word [] b (last_fails c (rows_of s.uses) (Some (b.name, [])) InvalidValue [] (stuck_bare c s.uses b.name (has_option 1 c.operands b.name c.options b.known)) (option b.name) (place_of s)))
      where
        no_word : (v : Text) (ws : List Text) → [] ≡ v ∷ ws → ⊥
        no_word v ws e = absurd (cc)

    -- what the words after the next one say, whatever was read
    abbrev Later : List Text → Type 0
    Later [] = ⊤
    Later (v ∷ rest) = Next rest

    bare_by : (s : Stage c) (word v : Text) (rest : List Text) (b : IsBare c.options word) → AllByRecursion IsUtf8 rest → Kind v → Next rest → Reading (stands s false) (word ∷ v ∷ rest) (wish s (word ∷ v ∷ rest))
    bare_by s word v rest b u kind next =
        let stuck = stuck_bare c s.uses b.name (has_option 1 c.operands b.name c.options b.known) in
        by kind (dashes_fails c (rows_of s.uses) (Some (b.name, [])) InvalidValue [] stuck (option b.name) (place_of s) rest (place_is c s))
        (long_fails c (rows_of s.uses) (Some (b.name, [])) InvalidValue [] stuck (option b.name) (place_of s) v rest)
        (short_fails c (rows_of s.uses) (Some (b.name, [])) InvalidValue [] stuck (option b.name) (place_of s) v rest)
      where
        by : Kind v → Fails (faults (leaf c) (expects c s.uses b.name (place_of s)) (codes "--" ∷ rest)) → (LongKind c.options v → Fails (faults (leaf c) (expects c s.uses b.name (place_of s)) (v ∷ rest)))
            → (IsShort v → Fails (faults (leaf c) (expects c s.uses b.name (place_of s)) (v ∷ rest))) → Reading (stands s false) (word ∷ v ∷ rest) (wish s (word ∷ v ∷ rest))
        by (inl d) dash long short = no_value s word v rest b (ap is_option d) (subst (λ x. Fails (faults (leaf c) (expects c s.uses b.name (place_of s)) (x ∷ rest))) (sym d) dash)
        by (inr (inl l)) dash long short = no_value s word v rest b l.option (long (long_kind c.options v l))
        by (inr (inr (inl h))) dash long short = no_value s word v rest b h.option (short h)
        by (inr (inr (inr o))) dash long short = value_by s word v rest b (value_of b.name s.vals) u o refl next

    bare_read : (s : Stage c) (word : Text) (rest : List Text) (b : IsBare c.options word) → AllByRecursion IsUtf8 rest → Later rest → Reading (stands s false) (word ∷ rest) (wish s (word ∷ rest))
    bare_read s word [] b u later = last_bare s word b
    bare_read s word (v ∷ rest) b u later = bare_by s word v rest b u.1 (kind_of_word v u.0) later

    -- ---- other options

    unknown_read : (s : Stage c) (word : Text) (rest : List Text) → IsUnknown c.options word → turn_fault (leaf c) [] (stands s false) word ≡ UnknownArgument ∷ [] → Reading (stands s false) (word ∷ rest) (wish s (word ∷ rest))
    unknown_read s word rest n turn =
        refuse (stands s false) (word ∷ rest) (wish s (word ∷ rest)) (λ ops opts fits said. never_said c.options s.met s.vals word rest ops opts n fits.known said)
        (stops (leaf c) (stands s false) word rest UnknownArgument [] turn)

    -- ---- any words

    long_read : (s : Stage c) (word : Text) (rest : List Text) → AllByRecursion IsUtf8 rest → LongKind c.options word → Next rest → Later rest → Reading (stands s false) (word ∷ rest) (wish s (word ∷ rest))
    long_read s word rest u (inl b) next later = bare_read s word rest b u later
    long_read s word rest u (inr (inl j)) next later = joined_by s word rest j (value_of j.name s.vals) refl next
    long_read s word rest u (inr (inr o)) next later =
        unknown_read s word rest (other_unknown c.options (λ name k i lt. (sound.names name k).mark i 0 lt) word o)
        (refused c (held s.rows s.pending) idle (place_of s) word UnknownArgument [] (other_refused c (held s.rows s.pending) word o))

    by_kind : (s : Stage c) (word : Text) (rest : List Text) → AllByRecursion IsUtf8 rest → Kind word → Next rest → Later rest → Reading (stands s false) (word ∷ rest) (wish s (word ∷ rest))
    by_kind s word rest u (inl d) next later = subst (λ x. Reading (stands s false) (x ∷ rest) (wish s (x ∷ rest))) (sym d) (dashes_read s rest)
    by_kind s word rest u (inr (inl l)) next later = long_read s word rest u (long_kind c.options word l) next later
    by_kind s word rest u (inr (inr (inl h))) next later =
        unknown_read s word rest (short_unknown c.options (λ name k. (sound.names name k).some) word h)
        (refused c (held s.rows s.pending) idle (place_of s) word UnknownArgument [] (short_refused c s.rows s.pending word h))
    by_kind s word rest u (inr (inr (inr o))) next later = operand_by s word rest s.left refl o next

    pub reading : (words : List Text) (s : Stage c) → AllByRecursion IsUtf8 words → Reading (stands s false) words (wish s words)
    reading [] s u = end_by s false (wish s []) (nothing_said s.met s.vals) (λ other vals said. said_nothing s.met other s.vals vals said)
    reading (word ∷ []) s u = by_kind s word [] tt (kind_of_word word u.0) (λ t. reading [] t tt) tt
    reading (word ∷ v ∷ rest) s u = by_kind s word (v ∷ rest) u.1 (kind_of_word word u.0) (λ t. reading (v ∷ rest) t u.1) (λ t. reading rest t u.1.1)
