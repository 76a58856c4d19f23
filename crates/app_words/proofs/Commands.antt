-- The program's commands: their names are apart, and their lines.
use Rattle.std.proofs.Common.{◌≡◌, ◌≢◌, ◌∙◌, ◌||◌, ◌==◌, Bool, true, false, true≢false, List, [], ◌∷◌, refl, sym, subst, ap, arith, Option, codes, is_some, option_map, inl, inr, ◌⊎◌}
use Rattle.std.specs.Prelude.{⊤}
use Rattle.std.specs.List.{AllByRecursion}
use Rattle.std.specs.Str.{bytes_eq}
use Rattle.std.proofs.lemmas.Bool.{cases_Bool, eqb-false}
use Rattle.std.proofs.lemmas.List.Elements.{All-from_recursion}
use Rattle.clap.specs.Lexer.{has_byte}
use Rattle.clap.specs.Walk.{Row, Text, first_of}
use Rattle.app_words.specs.declared.command.Asked.{Asked}
use Rattle.app_words.specs.declared.command.Asked.TheVariants.{Replay, Idl, Audit, Load, Serve, Call}
use Rattle.app_words.specs.Asks.{line_of}
use Rattle.app_words.specs.Usage.{Command, call, commands, load, of_file, replay, serve}
use Rattle.app_words.proofs.Lines.{Given, IsOf, options_of}
use Rattle.app_words.proofs.Says.{AreNames, IsName}
use Rattle.app_words.proofs.Stages.{IsSound, or_true}
use Rattle.app_words.proofs.Uses.{Options, Uses, itself, knows, same_text, value_of}

-- ---- one of them

abbrev pub In : Command → List Command → Type 0
In d [] = ⊥
In d (c ∷ cs) = (d ≡ c) ⊎ In d cs

-- a word is that of one of these
abbrev pub has_word : List Command → Text → Bool
has_word [] word = false
has_word (c ∷ cs) word = bytes_eq c.word word || has_word cs word

abbrev pub AreWords : List Command → Type 0
AreWords [] = ⊤
AreWords (c ∷ cs) = (has_word cs c.word ≡ false) × AreWords cs

word_there : (cs : List Command) (d : Command) → In d cs → has_word cs d.word ≡ true
word_there [] d i = absurd i
word_there (c ∷ cs) d (inl e) = ap (λ (x : Command). bytes_eq c.word x.word || has_word cs d.word) e ∙ ap (λ b. b || has_word cs d.word) (itself c.word)
word_there (c ∷ cs) d (inr i) = or_true (bytes_eq c.word d.word) (has_word cs d.word) (word_there cs d i)

-- commands of one word are one
pub one_command : (cs : List Command) (c d : Command) → AreWords cs → In c cs → In d cs → c.word ≡ d.word → c ≡ d
one_command [] c d a i j e = absurd i
one_command (x ∷ xs) c d a (inl f) (inl g) e = f ∙ sym g
one_command (x ∷ xs) c d a (inl f) (inr j) e = absurd (true≢false (sym (word_there xs d j) ∙ ap (has_word xs) (sym e ∙ ap (λ (y : Command). y.word) f) ∙ a.0))
one_command (x ∷ xs) c d a (inr i) (inl g) e = absurd (true≢false (sym (word_there xs c i) ∙ ap (has_word xs) (e ∙ ap (λ (y : Command). y.word) g) ∙ a.0))
one_command (x ∷ xs) c d a (inr i) (inr j) e = one_command xs c d a.1 i j e

pub words_apart : AreWords commands
words_apart = (refl, (refl, (refl, (refl, (refl, (refl, tt))))))

-- the command of a word, or that it is of none
abbrev pub NoneOf : Text → List Command → Type 0
NoneOf word [] = ⊤
NoneOf word (c ∷ cs) = (bytes_eq c.word word ≡ false) × NoneOf word cs

pub record Named (word : Text) (cs : List Command) : Type 0 where
  pub command : Command
  pub among : In command cs
  pub is : command.word ≡ word

pub command_at : (word : Text) (cs : List Command) → Named word cs ⊎ NoneOf word cs
command_at word [] = inr tt
command_at word (c ∷ cs) = by (cases_Bool (bytes_eq c.word word)) (command_at word cs)
  where
    by : (bytes_eq c.word word ≡ true) ⊎ (bytes_eq c.word word ≡ false) → Named word cs ⊎ NoneOf word cs → Named word (c ∷ cs) ⊎ NoneOf word (c ∷ cs)
    by (inl e) later = inl (record { command = c; among = inl refl; is = same_text c.word word e })
    by (inr e) (inl n) = inl (record { command = n.command; among = inr n.among; is = n.is })
    by (inr e) (inr n) = inr (e, n)

pub none_is : (word : Text) (cs : List Command) (d : Command) → NoneOf word cs → In d cs → d.word ≡ word → ⊥
none_is word [] d n i e = i
none_is word (c ∷ cs) d n (inl f) e = true≢false (sym (itself c.word) ∙ ap (bytes_eq c.word) (ap (λ (y : Command). y.word) (sym f) ∙ e) ∙ n.0)
none_is word (c ∷ cs) d n (inr i) e = none_is word cs d n.1 i e

-- ---- names of options

-- no `=`, and some octet
abbrev IsWritten : Text × Bool → Type 0
IsWritten o = (has_byte 61 o.0 ≡ false) × (bytes_eq o.0 [] ≡ false)

first_false : (a b : Bool) → (a || b) ≡ false → a ≡ false
first_false true b e = e
first_false false b e = refl

second_false : (a b : Bool) → (a || b) ≡ false → b ≡ false
second_false true b e = absurd (true≢false e)
second_false false b e = e

unmarked : (xs : Text) → has_byte 61 xs ≡ false → AllByRecursion (λ b. b ≢ 61) xs
unmarked [] e = tt
unmarked (x ∷ xs) e = (eqb-false x 61 (first_false (x == 61) (has_byte 61 xs) e), unmarked xs (second_false (x == 61) (has_byte 61 xs) e))

one_name : (o : Text × Bool) → IsWritten o → IsName o.0
one_name o w = record {
  mark = All-from_recursion (λ b. b ≢ 61) o.0 (unmarked o.0 w.0);
  some = λ e. true≢false (sym (ap (λ t. bytes_eq t []) e) ∙ w.1);
}

names_are : (os : Options) → AllByRecursion IsWritten os → AreNames os
names_are [] a name k = absurd (true≢false (sym k))
names_are (o ∷ os) a name k = by (cases_Bool (bytes_eq o.0 name)) (names_are os a.1 name)
  where
    by : (bytes_eq o.0 name ≡ true) ⊎ (bytes_eq o.0 name ≡ false) → (knows os name ≡ true → IsName name) → IsName name
    by (inl e) later = subst IsName (same_text o.0 name e) (one_name o a.0)
    by (inr e) later = later (sym (ap (λ b. b || knows os name) e) ∙ k)

-- ---- each is sound

replay_sound : IsSound replay
replay_sound = record { few = omega arith; apart = (refl, tt); options_apart = (refl, tt); other = (refl, tt); names = names_are replay.options ((refl, refl), tt) }

file_sound : (name : Text) → IsSound (of_file name)
file_sound name = record { few = omega arith; apart = (refl, tt); options_apart = tt; other = (refl, tt); names = names_are [] tt }

load_sound : IsSound load
load_sound = record { few = omega arith; apart = (refl, (refl, tt)); options_apart = tt; other = (refl, (refl, tt)); names = names_are [] tt }

serve_sound : IsSound serve
serve_sound = record { few = omega arith; apart = (refl, tt); options_apart = (refl, (refl, tt)); other = (refl, tt); names = names_are serve.options ((refl, refl), ((refl, refl), tt)) }

call_sound : IsSound call
call_sound = record { few = omega arith; apart = (refl, (refl, (refl, tt))); options_apart = tt; other = (refl, (refl, (refl, tt))); names = names_are [] tt }

pub sound : (c : Command) → In c commands → IsSound c
sound c (inl e) = subst IsSound (sym e) replay_sound
sound c (inr (inl e)) = subst IsSound (sym e) (file_sound (codes "idl"))
sound c (inr (inr (inl e))) = subst IsSound (sym e) (file_sound (codes "audit"))
sound c (inr (inr (inr (inl e)))) = subst IsSound (sym e) load_sound
sound c (inr (inr (inr (inr (inl e))))) = subst IsSound (sym e) serve_sound
sound c (inr (inr (inr (inr (inr (inl e)))))) = subst IsSound (sym e) call_sound
sound c (inr (inr (inr (inr (inr (inr e)))))) = absurd e

-- ---- what is asked is a line of one of them

pub record HasCommand (asked : Asked) : Type 0 where
  pub command : Command
  pub among : In command commands
  pub is_of : IsOf command (line_of asked)

optional : (o : Option Text) → false ≡ true → is_some o ≡ true
optional o e = absurd (true≢false (sym e))

pub command_of : (asked : Asked) → HasCommand asked
command_of (Replay file idl) = record { command = replay; among = inl refl; is_of = record { word = refl; count = refl; options = (refl, optional (option_map (λ text. text.now) idl), tt) } }
command_of (Idl file) = record { command = of_file (codes "idl"); among = inr (inl refl); is_of = record { word = refl; count = refl; options = tt } }
command_of (Audit file) = record { command = of_file (codes "audit"); among = inr (inr (inl refl)); is_of = record { word = refl; count = refl; options = tt } }
command_of (Load number steps) = record { command = load; among = inr (inr (inr (inl refl))); is_of = record { word = refl; count = refl; options = tt } }
command_of (Serve ip port connections idl) = record {
  command = serve;
  among = inr (inr (inr (inr (inl refl))));
  is_of = record { word = refl; count = refl; options = (refl, λ e. refl, (refl, optional (option_map (λ text. text.now) idl), tt)) };
}
command_of (Call ip port idl script) = record { command = call; among = inr (inr (inr (inr (inr (inl refl))))); is_of = record { word = refl; count = refl; options = tt } }

-- ---- the options that rows have

abbrev pub OptionsFound : Options → Given → List Row → Type 0
OptionsFound [] [] rs = ⊤
OptionsFound (o ∷ os) (g ∷ gs) rs = (first_of o.0 rs ≡ g.1) × OptionsFound os gs rs
OptionsFound _ _ rs = ⊥

pub options_found : (os : Options) (us : Uses) (rs : List Row) → ((name : Text) → knows os name ≡ true → first_of name rs ≡ value_of name us) → OptionsFound os (options_of os us) rs
options_found [] us rs h = tt
options_found (o ∷ os) us rs h =
    (h o.0 (ap (λ b. b || knows os o.0) (itself o.0)), options_found os us rs (λ name k. h name (or_true (bytes_eq o.0 name) (knows os name) k)))
