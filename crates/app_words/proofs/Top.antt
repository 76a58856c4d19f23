-- What `clap` makes of the words of the program.
use Rattle.std.proofs.Common.{◌≡◌, ◌∙◌, ◌&&◌, Bool, true, false, List, [], ◌∷◌, refl, sym, subst, ap, ap₂, Option, Some, codes, cond, fold, is_some, option_map, inl, inr, ◌⊎◌}
use Rattle.std.specs.List.{AllByRecursion, find}
use Rattle.std.specs.Option.{option_map_or}
use Rattle.std.specs.Str.{IsUtf8, bytes_eq}
use Rattle.clap.specs.Kinds.{Kinds, or_else}
use Rattle.clap.specs.Faults.{check_fault, defaults_fault, entered_fault, fault_of, flags_fault, level_fault, other_fault, settle_fault, step_fault, turn_fault, walk_fault}
use Rattle.clap.specs.Simple.{App, Shape, built, built_leaf, entered, inherited, label_of, names_of, rows_at, subcommand_of}
use Rattle.clap.specs.Walk.{Names, Row, Text, Walk, after_step, answers_to, finished, idle, nothing_held, rows_after, settled, subcommand_met, subcommand_or_other, walk, walk_from, walked}
use Rattle.clap.specs.declared.error.kind.ErrorKind.{ErrorKind}
use Rattle.clap.specs.declared.error.kind.ErrorKind.TheVariants.{DisplayHelp, InvalidSubcommand, MissingSubcommand, UnknownArgument}
use Rattle.clap.proofs.WalkLemmas.{walk_stopped}
use Rattle.clap.proofs.FaultLemmas.{stopped_fault}
use Rattle.app_words.specs.Asks.{IsLine, Line}
use Rattle.app_words.specs.Usage.{Command, commands, program, told}
use Rattle.app_words.proofs.Commands.{In, NoneOf, OptionsFound, command_at, none_is, one_command, options_found, sound, words_apart}
use Rattle.app_words.proofs.Lines.{Given, IsOf, head_is, line_of_fits, line_said, line_with, no_line, options_of, said_line}
use Rattle.app_words.proofs.Reading.{AreFound, Reading, reading, stands, wish}
use Rattle.app_words.proofs.Rules.{built_is, leaf}
use Rattle.app_words.proofs.Stages.{start}
use Rattle.app_words.proofs.Walks.{faults}
use Rattle.app_words.proofs.WordKinds.{IsLong, IsShort, IsOperand, Kind, kind_of_word}

-- the program as it is built, and the names of its commands
abbrev whole : App
whole = built program

abbrev names : Names
names = names_of whole

-- The words are a line of one command, and `clap` finds it.
pub record IsAsked (words : List Text) : Type 0 where
  pub command : Command
  pub among : In command commands
  pub line : Line
  pub is_of : IsOf command line
  pub asks : IsLine words line
  pub only : (d : Command) (other : Line) → In d commands → IsOf d other → IsLine words other → other ≡ line
  pub passes : fault_of program words ≡ []
  pub rows : List Row
  pub found : subcommand_of program words ≡ Some (command.word, rows)
  pub operands : AreFound command.operands line.operands rows
  pub options : OptionsFound command.options line.options rows

-- They are of none, and `clap` refuses them.
pub record IsNoCommand (words : List Text) : Type 0 where
  pub nothing : (d : Command) (other : Line) → In d commands → IsOf d other → IsLine words other → ⊥
  pub kind : ErrorKind
  pub kinds : Kinds
  pub fails : fault_of program words ≡ kind ∷ kinds

abbrev pub Outcome : List Text → Type 0
Outcome words = IsAsked words ⊎ IsNoCommand words

-- ---- after the word of a command

abbrev stopped_at : Text → List Text → Walk
stopped_at name rest = record (walk_from nothing_held) { stopped = Some (name, rest) }

-- the faults after a walk of the program's own words
abbrev faults_after : Walk → Kinds
faults_after w = or_else (entered_fault whole w.stopped)
    (or_else (settle_fault whole.top.rules whole.top.args_override_self w.held)
    (or_else (defaults_fault (settled whole.top.rules w.held).rows whole.top.rules) (check_fault whole.top (finished whole.top.rules w.held) (is_some (entered whole w.stopped)))))

fault_by : (words : List Text) (f : Kinds) (w : Walk) → walk_fault whole.top names (walk_from nothing_held) words ≡ f → walk whole.top.rules names nothing_held words ≡ w → fault_of program words ≡ or_else f (faults_after w)
fault_by words f w fault is = ap₂ (λ x v. or_else x (faults_after v)) fault is

-- A command of the program is met by its word.
record IsCommand (d : Command) : Type 0 where
  met : subcommand_met names idle d.word ≡ Some d.word
  found : find (λ s. answers_to d.word (label_of s)) whole.subs ≡ Some (built_leaf (inherited program.top (told d)))

is_command : (d : Command) → In d commands → IsCommand d
is_command d (inl e) = subst IsCommand (sym e) (record { met = refl; found = refl })
is_command d (inr (inl e)) = subst IsCommand (sym e) (record { met = refl; found = refl })
is_command d (inr (inr (inl e))) = subst IsCommand (sym e) (record { met = refl; found = refl })
is_command d (inr (inr (inr (inl e)))) = subst IsCommand (sym e) (record { met = refl; found = refl })
is_command d (inr (inr (inr (inr (inl e))))) = subst IsCommand (sym e) (record { met = refl; found = refl })
is_command d (inr (inr (inr (inr (inr (inl e)))))) = subst IsCommand (sym e) (record { met = refl; found = refl })
is_command d (inr (inr (inr (inr (inr (inr e)))))) = absurd e

module _ (d : Command) (among : In d commands) where
  -- the words after its word are left to it
  first_step : walked whole.top.rules names (walk_from nothing_held) d.word ≡ stopped_at d.word []
  unfolding walked
  first_step =
      ap (λ o. after_step whole.top.rules d.word (walk_from nothing_held) (subcommand_or_other whole.top.rules o idle 1 d.word nothing_held).0 (subcommand_or_other whole.top.rules o idle 1 d.word nothing_held).1)
      (is_command d among).met

  left : (rest : List Text) → walk whole.top.rules names nothing_held (d.word ∷ rest) ≡ stopped_at d.word rest
  left rest = ap (λ w. fold (walked whole.top.rules names) w rest) first_step ∙ sym (walk_stopped whole.top.rules names (walk_from nothing_held) d.word [] rest)

  no_help : (b : Bool) → cond (b && false) (DisplayHelp ∷ InvalidSubcommand ∷ []) [] ≡ []
  no_help true = refl
  no_help false = refl

  turn : turn_fault whole.top names (walk_from nothing_held) d.word ≡ []
  turn =
      ap (λ o. or_else (other_fault whole.top o d.word nothing_held) (step_fault whole.top 1 (subcommand_or_other whole.top.rules o idle 1 d.word nothing_held).0 (subcommand_or_other whole.top.rules o idle 1 d.word nothing_held).1))
      (is_command d among).met
      ∙ ap (λ k. or_else k []) (no_help (bytes_eq d.word (codes "help")))

  above : (rest : List Text) → walk_fault whole.top names (walk_from nothing_held) (d.word ∷ rest) ≡ []
  unfolding walk_fault
  above rest = ap₂ (λ k w. or_else k (walk_fault whole.top names w rest)) turn first_step ∙ stopped_fault whole.top names (walk_from nothing_held) (d.word, []) rest

  is_leaf : Some (built_leaf (inherited program.top (told d))) ≡ Some (leaf d)
  is_leaf = ap (λ s. Some s) (built_is d (sound d among).few)

  abbrev below_by : List Text → Option Shape → Kinds
  below_by rest o = or_else (option_map_or (λ s. level_fault s [] nothing_held rest false []) o [])
      (or_else (settle_fault whole.top.rules whole.top.args_override_self nothing_held)
      (or_else (defaults_fault (settled whole.top.rules nothing_held).rows whole.top.rules) (check_fault whole.top (finished whole.top.rules nothing_held) (is_some (option_map (λ s. rows_at s rest) o)))))

  nothing_more : (rest : List Text) → below_by rest (Some (leaf d)) ≡ or_else (level_fault (leaf d) [] nothing_held rest false []) []
  unfolding defaults_fault
  nothing_more rest = refl

  below : (rest : List Text) → faults_after (stopped_at d.word rest) ≡ or_else (level_fault (leaf d) [] nothing_held rest false []) []
  below rest = ap (below_by rest) ((is_command d among).found ∙ is_leaf) ∙ nothing_more rest

  fault_is : (rest : List Text) (f : Kinds) → faults (leaf d) (stands d (start d) false) rest ≡ f → fault_of program (d.word ∷ rest) ≡ or_else f []
  fault_is rest f e = fault_by (d.word ∷ rest) [] (stopped_at d.word rest) (above rest) (left rest) ∙ below rest ∙ ap (λ k. or_else k []) e

  entered_is : (rest : List Text) → subcommand_of program (d.word ∷ rest) ≡ Some (d.word, rows_after (leaf d).rules [] rest)
  entered_is rest = ap (λ (w : Walk). entered whole w.stopped) (left rest) ∙ ap (option_map (λ s. rows_at s rest)) ((is_command d among).found ∙ is_leaf)

  -- ---- what the words after it say

  line_same : (l m : Line) → l.word ≡ m.word → l.operands ≡ m.operands → l.options ≡ m.options → l ≡ m
  line_same l m e f g = ap₂ (line_by l.word) f g ∙ ap (λ w. line_by w m.operands m.options) e
    where
      line_by : Text → List Text → Given → Line
      line_by word operands options = record { word = word; operands = operands; options = options }

  command_is : (rest : List Text) (c : Command) (other : Line) → In c commands → IsOf c other → IsLine (d.word ∷ rest) other → c ≡ d
  command_is rest c other i of l = one_command commands c d words_apart i among (sym of.word ∙ sym (head_is d.word rest other l))

  read_so : (rest : List Text) → Reading d (stands d (start d) false) rest (wish d (start d) rest) → Outcome (d.word ∷ rest)
  read_so rest (inl t) = inl (record {
    command = d;
    among = among;
    line = line_with d t.ops t.opts;
    is_of = line_of_fits d (sound d among) t.ops t.opts t.fits;
    asks = line_said d (sound d among) rest t.ops t.opts t.fits t.asks;
    only = λ c other i of l.
        let said = said_line d (sound d among) d.word rest other (subst (λ x. IsOf x other) (command_is rest c other i of l) of) l in
        let same = t.only other.operands said.opts said.fits said.says in
        line_same other (line_with d t.ops t.opts) (sym (head_is d.word rest other l)) same.0 (sym said.options ∙ ap (options_of d.options) same.1);
    passes = fault_is rest [] t.passes;
    rows = rows_after (leaf d).rules [] rest;
    found = entered_is rest;
    operands = t.operands;
    options = options_found d.options t.opts (rows_after (leaf d).rules [] rest) t.options;
  })
  read_so rest (inr r) = inr (record {
    nothing = λ c other i of l.
        let said = said_line d (sound d among) d.word rest other (subst (λ x. IsOf x other) (command_is rest c other i of l) of) l in
        r.never other.operands said.opts said.fits said.says;
    kind = r.fails.kind;
    kinds = r.fails.kinds;
    fails = fault_is rest (r.fails.kind ∷ r.fails.kinds) r.fails.is;
  })

-- ---- a first word that is no command

asks_nothing : (word : Text) (rest : List Text) → NoneOf word commands → (d : Command) (other : Line) → In d commands → IsOf d other → IsLine (word ∷ rest) other → ⊥
asks_nothing word rest n d other i of l = none_is word commands d n i (sym of.word ∙ sym (head_is word rest other l))

stops : (word : Text) (rest : List Text) (k : ErrorKind) (ks : Kinds) → turn_fault whole.top names (walk_from nothing_held) word ≡ k ∷ ks → fault_of program (word ∷ rest) ≡ k ∷ ks
unfolding walk_fault
stops word rest k ks e = fault_by (word ∷ rest) (k ∷ ks) (walk whole.top.rules names nothing_held (word ∷ rest)) (ap (λ x. or_else x (walk_fault whole.top names (walked whole.top.rules names (walk_from nothing_held) word) rest)) e) refl

other_read : (word : Text) (rest : List Text) (ks : Kinds) → NoneOf word commands → turn_fault whole.top names (walk_from nothing_held) word ≡ UnknownArgument ∷ ks → Outcome (word ∷ rest)
other_read word rest ks n e = inr (record { nothing = asks_nothing word rest n; kind = UnknownArgument; kinds = ks; fails = stops word rest UnknownArgument ks e })

long_turn : (word : Text) → NoneOf word commands → IsLong word → turn_fault whole.top names (walk_from nothing_held) word ≡ UnknownArgument ∷ []
long_turn word n o = rw (n.0, n.1.0, n.1.1.0, n.1.1.1.0, n.1.1.1.1.0, n.1.1.1.1.1.0, o.dashes, o.long) refl

short_turn : (word : Text) → NoneOf word commands → IsShort word → turn_fault whole.top names (walk_from nothing_held) word ≡ UnknownArgument ∷ []
unfolding flags_fault
short_turn word n o = rw (n.0, n.1.0, n.1.1.0, n.1.1.1.0, n.1.1.1.1.0, n.1.1.1.1.1.0, o.dashes, o.long, o.short, o.is_first) refl

operand_turn : (word : Text) → NoneOf word commands → IsOperand word → turn_fault whole.top names (walk_from nothing_held) word ≡ UnknownArgument ∷ InvalidSubcommand ∷ []
operand_turn word n o = rw (n.0, n.1.0, n.1.1.0, n.1.1.1.0, n.1.1.1.1.0, n.1.1.1.1.1.0, o.dashes, o.long, o.short) refl

dashes_read : (rest : List Text) → NoneOf (codes "--") commands → Outcome (codes "--" ∷ rest)
unfolding walked walk_fault defaults_fault
dashes_read [] n = inr (record { nothing = asks_nothing (codes "--") [] n; kind = MissingSubcommand; kinds = []; fails = refl })
dashes_read (x ∷ xs) n = inr (record { nothing = asks_nothing (codes "--") (x ∷ xs) n; kind = UnknownArgument; kinds = InvalidSubcommand ∷ []; fails = refl })

kind_read : (word : Text) (rest : List Text) → NoneOf word commands → Kind word → Outcome (word ∷ rest)
kind_read word rest n (inl d) = subst (λ x. NoneOf x commands → Outcome (x ∷ rest)) (sym d) (dashes_read rest) n
kind_read word rest n (inr (inl l)) = other_read word rest [] n (long_turn word n l)
kind_read word rest n (inr (inr (inl s))) = other_read word rest [] n (short_turn word n s)
kind_read word rest n (inr (inr (inr o))) = other_read word rest (InvalidSubcommand ∷ []) n (operand_turn word n o)

-- ---- any words

first_read : (word : Text) (rest : List Text) → AllByRecursion IsUtf8 (word ∷ rest) → Outcome (word ∷ rest)
first_read word rest u = elim (command_at word commands) [
  | inl c ↦ subst (λ x. Outcome (x ∷ rest)) c.is (read_so c.command c.among rest (reading c.command (sound c.command c.among) rest (start c.command) u.1))
  | inr n ↦ kind_read word rest n (kind_of_word word u.0)
]

pub outcome : (words : List Text) → AllByRecursion IsUtf8 words → Outcome words
unfolding walk_fault defaults_fault
outcome [] u = inr (record { nothing = λ d other i of l. no_line other l; kind = MissingSubcommand; kinds = []; fails = refl })
outcome (word ∷ rest) u = first_read word rest u
