-- What is read of the command that `clap` found, by the values of its operands and options.
use Rattle.std.specs.Prelude.{◌≡◌, List, Option, Some, codes}
use Rattle.clap.specs.Words.{Row, first_of, subcommand_rows_of}
use Rattle.clap.specs.declared.parser.matches.ArgMatches.{ArgMatches}
use Rattle.app_words.specs.declared.command.Asked.{Asked}
use Rattle.app_words.specs.Asks.{Text, Line, ReadsLine, replay_line, file_line, load_line, serve_line, call_line}

-- the command was found, with these rows of values
abbrev pub IsFound : ArgMatches → Text → List Row → Type 0
IsFound matches word rows = subcommand_rows_of matches ≡ Some (word, rows)

-- the operand or option of that name has that value
abbrev pub HasValue : List Row → Text → Text → Type 0
HasValue rows name value = first_of name rows ≡ Some value

-- of a command with a file, and perhaps options, its line
abbrev pub ReadsFile : Text → (Text → List Row → Line) → ArgMatches → Option Asked → Type 0
ReadsFile word line matches asked =
    (file : Text) (rows : List Row) → IsFound matches word rows → HasValue rows (codes "FILE") file → ReadsLine (line file rows) asked

abbrev pub ReadsReplay : ArgMatches → Option Asked → Type 0
ReadsReplay = ReadsFile (codes "replay") (λ file rows. replay_line file (first_of (codes "idl") rows))

abbrev pub ReadsPlain : Text → ArgMatches → Option Asked → Type 0
ReadsPlain word = ReadsFile word (λ file rows. file_line word file)

abbrev pub ReadsLoad : ArgMatches → Option Asked → Type 0
ReadsLoad matches asked =
    (number steps : Text) (rows : List Row) → IsFound matches (codes "load") rows → HasValue rows (codes "NUMBER") number → HasValue rows (codes "N") steps
    → ReadsLine (load_line number steps) asked

abbrev pub ReadsServe : ArgMatches → Option Asked → Type 0
ReadsServe matches asked =
    (address connections : Text) (rows : List Row) → IsFound matches (codes "serve") rows → HasValue rows (codes "ADDRESS") address
    → HasValue rows (codes "connections") connections → ReadsLine (serve_line address connections (first_of (codes "idl") rows)) asked

abbrev pub ReadsCall : ArgMatches → Option Asked → Type 0
ReadsCall matches asked =
    (address idl script : Text) (rows : List Row) → IsFound matches (codes "call") rows → HasValue rows (codes "ADDRESS") address
    → HasValue rows (codes "IDL") idl → HasValue rows (codes "SCRIPT") script → ReadsLine (call_line address idl script) asked
