-- What the words of the program ask.
use Rattle.std.specs.Prelude.{◌≡◌, ◌==◌, ◌<◌, ◌≤◌, ◌^◌, ℕ, Bool, false, List, [], ◌∷◌, ◌++◌, map, flat_map, Option, Some, None, MatchOption, option_map, option_to_list, unwrap_or, codes, decimal, IsPermutation, ⊤}
use Rattle.std.specs.List.{AllByRecursion}
use Rattle.app_words.specs.Texts.{FitsHost, address_text}
use Rattle.app_words.specs.declared.command.Asked.{Asked}
use Rattle.app_words.specs.declared.command.Asked.TheVariants.{Replay, Idl, Audit, Load, Serve, Call}

abbrev pub Text : Type 0
Text = List ℕ

-- the word is an option, or the `--` that ends them: it begins with `-` (45), and isn't that alone
abbrev pub is_option : Text → Bool
is_option [] = false
is_option (c ∷ []) = false
is_option (c ∷ d ∷ rest) = c == 45

-- An argument in front of `--`: an operand, or an option by its name, with its value in the next word or after `=`.
pub data Argument : Type 0 where
  operand : Text → Argument
  valued : Text → Text → Argument
  joined : Text → Text → Argument

-- its words
abbrev pub words_of : Argument → List Text
words_of (operand word) = word ∷ []
words_of (valued name value) = (codes "--" ++ name) ∷ value ∷ []
words_of (joined name value) = (codes "--" ++ name ++ codes "=" ++ value) ∷ []

-- a word that is an option is neither an operand nor a value
abbrev pub IsPlain : Argument → Type 0
IsPlain (operand word) = is_option word ≡ false
IsPlain (valued name value) = is_option value ≡ false
IsPlain (joined name value) = ⊤

-- its operand, and its option
abbrev pub operand_in : Argument → List Text
operand_in (operand word) = word ∷ []
operand_in _ = []

abbrev pub option_in : Argument → List (Text × Text)
option_in (operand word) = []
option_in (valued name value) = (name, value) ∷ []
option_in (joined name value) = (name, value) ∷ []

-- `--` and the operands after it, where they are given
abbrev pub behind : Option (List Text) → List Text
behind None = []
behind (Some words) = codes "--" ∷ words

-- A command by its word, its operands, and each option that it takes with the value that is given.
pub record Line : Type 0 where
  pub word : Text
  pub operands : List Text
  pub options : List (Text × Option Text)

-- the options that are given
abbrev pub given : List (Text × Option Text) → List (Text × Text)
given = flat_map (λ o. map (λ value. (o.0, value)) (option_to_list o.1))

-- The words are the command's word and arguments, which have its operands in order and its options in any order, each once.
pub record IsLine (words : List Text) (line : Line) : Type 0 where
  pub arguments : List Argument
  pub rest : Option (List Text)
  pub written : words ≡ line.word ∷ flat_map words_of arguments ++ behind rest
  pub plain : AllByRecursion IsPlain arguments
  pub operands : flat_map operand_in arguments ++ unwrap_or rest [] ≡ line.operands
  pub options : IsPermutation (flat_map option_in arguments) (given line.options)

-- `replay FILE [--idl FILE]`, a command with a file alone, and `load NUMBER N`
abbrev pub replay_line : Text → Option Text → Line
replay_line file idl = record { word = codes "replay"; operands = file ∷ []; options = (codes "idl", idl) ∷ [] }

abbrev pub file_line : Text → Text → Line
file_line word file = record { word = word; operands = file ∷ []; options = [] }

abbrev pub load_line : Text → Text → Line
load_line number steps = record { word = codes "load"; operands = number ∷ steps ∷ []; options = [] }

-- `serve ADDRESS --connections N [--idl FILE]`, and `call ADDRESS IDL SCRIPT`
abbrev pub serve_line : Text → Text → Option Text → Line
serve_line address connections idl =
    record { word = codes "serve"; operands = address ∷ []; options = (codes "connections", Some connections) ∷ (codes "idl", idl) ∷ [] }

abbrev pub call_line : Text → Text → Text → Line
call_line address idl script = record { word = codes "call"; operands = address ∷ idl ∷ script ∷ []; options = [] }

-- what the program can be asked: numbers are decimal, addresses are four numbers and a port
abbrev pub line_of : Asked → Line
line_of (Replay file idl) = replay_line file.now (option_map (λ text. text.now) idl)
line_of (Idl file) = file_line (codes "idl") file.now
line_of (Audit file) = file_line (codes "audit") file.now
line_of (Load number steps) = load_line (decimal number) (decimal steps)
line_of (Serve ip port connections idl) = serve_line (address_text ip port) (decimal connections) (option_map (λ text. text.now) idl)
line_of (Call ip port idl script) = call_line (address_text ip port) idl.now script.now

-- and within their ranges
abbrev pub IsInRange : Asked → Type 0
IsInRange (Load number steps) = (number < 2 ^ 64) × (steps ≤ 100000)
IsInRange (Serve ip port connections idl) = FitsHost (ip, port) × (1 ≤ connections) × (connections ≤ 1000000)
IsInRange (Call ip port idl script) = FitsHost (ip, port)
IsInRange _ = ⊤

-- the words ask for it
abbrev pub AsksFor : List Text → Asked → Type 0
AsksFor words asked = IsLine words (line_of asked) × IsInRange asked

-- they ask for nothing
abbrev pub AsksForNothing : List Text → Type 0
AsksForNothing words = (asked : Asked) → AsksFor words asked → ⊥

-- what is asked by a line, or that it asks for nothing
abbrev pub ReadsLine : Line → Option Asked → Type 0
ReadsLine line found =
    MatchOption found ((asked : Asked) → IsInRange asked → line_of asked ≡ line → ⊥) (λ asked. (line_of asked ≡ line) × IsInRange asked)
