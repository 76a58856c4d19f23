-- What `clap` is told of the program's words.
use Rattle.std.specs.Prelude.{Bool, true, false, List, Some, [], ◌∷◌, ◌++◌, map, codes}
use Rattle.clap.specs.Words.{App, Shape, Rule, Text, new_rule}
use Rattle.clap.specs.Simple.{new_shape}

-- A command: its word, the names of its operands, and those of its options, each with whether it must be given.
pub record Command : Type 0 where
  pub word : Text
  pub operands : List Text
  pub options : List (Text × Bool)

-- an operand, which must be given, and an option, which has a value
abbrev pub operand_rule : Text → Rule
operand_rule name = record (new_rule name) { required = true }

abbrev pub option_rule : Text × Bool → Rule
option_rule o = record (new_rule o.0) { long = Some o.0; required = o.1 }

-- how it is told
abbrev pub told : Command → Shape
told c = record (new_shape c.word) { rules = map operand_rule c.operands ++ map option_rule c.options }

-- a command that takes a file alone
abbrev pub of_file : Text → Command
of_file name = record { word = name; operands = codes "FILE" ∷ []; options = [] }

-- the commands `replay`, `load`, `serve` and `call`
abbrev pub replay : Command
replay = record { word = codes "replay"; operands = codes "FILE" ∷ []; options = (codes "idl", false) ∷ [] }

abbrev pub load : Command
load = record { word = codes "load"; operands = codes "NUMBER" ∷ codes "N" ∷ []; options = [] }

abbrev pub serve : Command
serve = record { word = codes "serve"; operands = codes "ADDRESS" ∷ []; options = (codes "connections", true) ∷ (codes "idl", false) ∷ [] }

abbrev pub call : Command
call = record { word = codes "call"; operands = codes "ADDRESS" ∷ codes "IDL" ∷ codes "SCRIPT" ∷ []; options = [] }

abbrev pub commands : List Command
commands = replay ∷ of_file (codes "idl") ∷ of_file (codes "audit") ∷ load ∷ serve ∷ call ∷ []

-- the program: one of its commands must be named, and it has no words for help
abbrev pub program : App
program = record {
  top = record (new_shape (codes "dcerpc")) {
    no_binary_name = true;
    disable_help_flag = true;
    disable_help_subcommand = true;
    subcommand_required = true;
    is_leaf = false;
  };
  subs = map told commands;
}
