-- What is answered, by what `clap` made of the words.
use Rattle.std.proofs.Common.{◌≡◌, ◌∙◌, true, true≢false, List, [], ◌∷◌, length, refl, sym, subst, ap, ap₂, arith, Option, Some, None, codes, is_some, inl, inr, IfSome, IfNone}
use Rattle.std.specs.List.{AllByRecursion}
use Rattle.std.specs.Str.{IsUtf8}
use Rattle.clap.specs.Faults.{fault_of, is_simple_and_free}
use Rattle.clap.specs.Kinds.{HasKind, IsAmong, Kinds}
use Rattle.clap.specs.Simple.{App, HasMatchesOf, is_simple, subcommand_of, subcommand_rows_of}
use Rattle.clap.specs.Values.{kind_of}
use Rattle.clap.specs.Walk.{Row, Text, first_of}
use Rattle.clap.specs.declared.error.Error.{Error}
use Rattle.clap.specs.declared.error.kind.ErrorKind.{ErrorKind}
use Rattle.clap.specs.declared.error.kind.ErrorKind.TheVariants.{OutOfMemory}
use Rattle.clap.specs.declared.parser.matches.ArgMatches.{ArgMatches}
use Rattle.app_words.specs.declared.command.Asked.{Asked}
use Rattle.app_words.specs.Asks.{AsksFor, AsksForNothing, IsLine, Line, ReadsLine, call_line, file_line, line_of, load_line, replay_line, serve_line}
use Rattle.app_words.specs.Found.{ReadsReplay, ReadsPlain, ReadsLoad, ReadsServe, ReadsCall}
use Rattle.app_words.specs.Usage.{Command, call, commands, load, of_file, program, replay, serve}
use Rattle.app_words.proofs.Commands.{In, OptionsFound, command_of}
use Rattle.app_words.proofs.Lines.{AreOptions, Given}
use Rattle.app_words.proofs.Reading.{AreFound}
use Rattle.app_words.proofs.Top.{IsAsked, Outcome, outcome}

-- `clap`'s clauses speak of the program as of a simple command
simple : is_simple program ≡ true
simple = refl

simple_and_free : is_simple_and_free program ≡ true
simple_and_free = refl

-- What is answered is what the words ask for, and they ask for nothing else.
pub record Answers (words : List Text) (o : Option Asked) : Type 0 where
  pub asked : IfSome o (AsksFor words)
  pub alone : IfSome o (λ a. (other : Asked) → AsksFor words other → line_of other ≡ line_of a)
  pub nothing : IfNone o (AsksForNothing words)

only_line : (words : List Text) (t : IsAsked words) (other : Asked) → AsksFor words other → line_of other ≡ t.line
only_line words t other asks = let d = command_of other in t.only d.command (line_of other) d.among d.is_of asks.0

answers : (words : List Text) (o : Option Asked) (t : IsAsked words) → ReadsLine t.line o → Answers words o
answers words None t h = record { asked = tt; alone = tt; nothing = λ other asks. h other asks.1 (only_line words t other asks) }
answers words (Some a) t h = record {
  asked = (subst (IsLine words) (sym h.0) t.asks, h.1);
  alone = λ other asks. only_line words t other asks ∙ sym h.0;
  nothing = tt;
}

-- ---- the clauses of the reader, command by command

pub record Clauses (m : ArgMatches) (o : Option Asked) : Type 0 where
  pub replays : ReadsReplay m o
  pub idls : ReadsPlain (codes "idl") m o
  pub audits : ReadsPlain (codes "audit") m o
  pub loads : ReadsLoad m o
  pub serves : ReadsServe m o
  pub calls : ReadsCall m o

-- a line by its parts
abbrev line_by : Text → List Text → Given → Line
line_by word operands options = record { word = word; operands = operands; options = options }

module _ (m : ArgMatches) (o : Option Asked) (clauses : Clauses m o) where
  -- what the rows of a command have of a line
  abbrev Reads : Command → Type 0
  Reads c = (word : Text) (ops : List Text) (opts : Given) (rows : List Row) → word ≡ c.word → length ops ≡ length c.operands → AreOptions c.options opts
      → subcommand_rows_of m ≡ Some (c.word, rows) → AreFound c.operands ops rows → OptionsFound c.options opts rows → ReadsLine (line_by word ops opts) o

  one_option : (word : Text) (ops : List Text) (name : Text) (g : Text × Option Text) (v : Option Text) (w : Text) → word ≡ w → g.0 ≡ name → v ≡ g.1
      → line_by w ops ((name, v) ∷ []) ≡ line_by word ops (g ∷ [])
  one_option word ops name g v w e f h = ap₂ (λ x y. line_by x ops ((name, y) ∷ [])) (sym e) h ∙ ap (λ n. line_by word ops ((n, g.1) ∷ [])) (sym f)

  of_replay : Reads replay
  of_replay word [] opts rows e count a met found options = absurd (omega (arith, count))
  of_replay word (f ∷ x ∷ more) opts rows e count a met found options = absurd (omega (arith, count))
  of_replay word (f ∷ []) [] rows e count a met found options = absurd a
  of_replay word (f ∷ []) (g ∷ h ∷ gs) rows e count a met found options = absurd a.2
  of_replay word (f ∷ []) (g ∷ []) rows e count a met found options =
      subst (λ l. ReadsLine l o) (one_option word (f ∷ []) (codes "idl") g (first_of (codes "idl") rows) (codes "replay") e a.0 options.0) (clauses.replays f rows met found.0)

  of_files : (name : Text) → ReadsPlain name m o → Reads (of_file name)
  of_files name reads word [] opts rows e count a met found options = absurd (omega (arith, count))
  of_files name reads word (f ∷ x ∷ more) opts rows e count a met found options = absurd (omega (arith, count))
  of_files name reads word (f ∷ []) (g ∷ gs) rows e count a met found options = absurd a
  of_files name reads word (f ∷ []) [] rows e count a met found options = subst (λ w. ReadsLine (line_by w (f ∷ []) []) o) (sym e) (reads f rows met found.0)

  of_load : Reads load
  of_load word [] opts rows e count a met found options = absurd (omega (arith, count))
  of_load word (n ∷ []) opts rows e count a met found options = absurd (omega (arith, count))
  of_load word (n ∷ s ∷ x ∷ more) opts rows e count a met found options = absurd (omega (arith, count))
  of_load word (n ∷ s ∷ []) (g ∷ gs) rows e count a met found options = absurd a
  of_load word (n ∷ s ∷ []) [] rows e count a met found options = subst (λ w. ReadsLine (line_by w (n ∷ s ∷ []) []) o) (sym e) (clauses.loads n s rows met found.0 found.1.0)

  of_serve : Reads serve
  of_serve word [] opts rows e count a met found options = absurd (omega (arith, count))
  of_serve word (f ∷ x ∷ more) opts rows e count a met found options = absurd (omega (arith, count))
  of_serve word (f ∷ []) [] rows e count a met found options = absurd a
  of_serve word (f ∷ []) (g ∷ []) rows e count a met found options = absurd a.2
  of_serve word (f ∷ []) (g ∷ h ∷ x ∷ gs) rows e count a met found options = absurd a.2.2
  of_serve word (f ∷ []) (g ∷ h ∷ []) rows e count a met found options = by g.1 refl
    where
      by : (v : Option Text) → g.1 ≡ v → ReadsLine (line_by word (f ∷ []) (g ∷ h ∷ [])) o
      by None n = absurd (true≢false (sym (a.1 refl) ∙ ap is_some n))
      by (Some v) n =
          subst (λ l. ReadsLine l o)
          (ap₂ (λ w y. line_by w (f ∷ []) ((codes "connections", Some v) ∷ (codes "idl", y) ∷ [])) (sym e) options.1.0
          ∙ ap₂ (λ x y. line_by word (f ∷ []) ((x, Some v) ∷ (y, h.1) ∷ [])) (sym a.0) (sym a.2.0)
          ∙ ap (λ x. line_by word (f ∷ []) ((g.0, x) ∷ h ∷ [])) (sym n))
          (clauses.serves f v rows met found.0 (options.0 ∙ n))

  of_call : Reads call
  of_call word [] opts rows e count a met found options = absurd (omega (arith, count))
  of_call word (x ∷ []) opts rows e count a met found options = absurd (omega (arith, count))
  of_call word (x ∷ y ∷ []) opts rows e count a met found options = absurd (omega (arith, count))
  of_call word (x ∷ y ∷ z ∷ v ∷ more) opts rows e count a met found options = absurd (omega (arith, count))
  of_call word (x ∷ y ∷ z ∷ []) (g ∷ gs) rows e count a met found options = absurd a
  of_call word (x ∷ y ∷ z ∷ []) [] rows e count a met found options =
      subst (λ w. ReadsLine (line_by w (x ∷ y ∷ z ∷ []) []) o) (sym e) (clauses.calls x y z rows met found.0 found.1.0 found.1.1.0)

  reads : (c : Command) → In c commands → Reads c
  reads c (inl e) = subst Reads (sym e) of_replay
  reads c (inr (inl e)) = subst Reads (sym e) (of_files (codes "idl") clauses.idls)
  reads c (inr (inr (inl e))) = subst Reads (sym e) (of_files (codes "audit") clauses.audits)
  reads c (inr (inr (inr (inl e)))) = subst Reads (sym e) of_load
  reads c (inr (inr (inr (inr (inl e))))) = subst Reads (sym e) of_serve
  reads c (inr (inr (inr (inr (inr (inl e)))))) = subst Reads (sym e) of_call
  reads c (inr (inr (inr (inr (inr (inr e)))))) = absurd e

  by_found : (words : List Text) (t : IsAsked words) → subcommand_rows_of m ≡ subcommand_of program words → Answers words o
  by_found words t rows =
      answers words o t (reads t.command t.among t.line.word t.line.operands t.line.options t.rows t.is_of.word t.is_of.count t.is_of.options (rows ∙ t.found) t.operands t.options)

  no_fault : (k : ErrorKind) (ks : Kinds) → [] ≡ k ∷ ks → ⊥
  no_fault k ks e = absurd (cc)

  by_matches : (words : List Text) → Outcome words → subcommand_rows_of m ≡ subcommand_of program words → fault_of program words ≡ [] → Answers words o
  by_matches words (inl t) rows passes = by_found words t rows
  by_matches words (inr n) rows passes = absurd (no_fault n.kind n.kinds (sym passes ∙ n.fails))

  -- where `clap` takes the words
  pub taken : (words : List Text) (app : App) → AllByRecursion IsUtf8 words → app ≡ program → HasMatchesOf app words m → (is_simple_and_free app ≡ true → fault_of app words ≡ []) → Answers words o
  taken words app u is matches passes =
      let own = subst (λ a. HasMatchesOf a words m) is matches simple in
      let none = subst (λ (a : App). is_simple_and_free a ≡ true → fault_of a words ≡ []) is passes simple_and_free in
      by_matches words (outcome words u) own.1 none

by_kind : (words : List Text) (e : Error) → Outcome words → HasKind (fault_of program words) e → (kind_of e ≡ OutOfMemory → ⊥) → AsksForNothing words
by_kind words e (inr n) k memory = λ asked asks. let d = command_of asked in n.nothing d.command (line_of asked) d.among d.is_of asks.0
by_kind words e (inl t) (inl m) memory = absurd (memory m)
by_kind words e (inl t) (inr among) memory = absurd (subst (IsAmong (kind_of e)) t.passes among)

-- where it refuses them
pub refused : (words : List Text) (app : App) (e : Error) → AllByRecursion IsUtf8 words → app ≡ program → (is_simple_and_free app ≡ true → HasKind (fault_of app words) e)
    → (kind_of e ≡ OutOfMemory → ⊥) → AsksForNothing words
refused words app e u is kinds memory =
    by_kind words e (outcome words u) (subst (λ (a : App). is_simple_and_free a ≡ true → HasKind (fault_of a words) e) is kinds simple_and_free) memory
