-- What the words ask to be done.
use Rattle.std.specs.Prelude.{◌≡◌, ◌≤◌, ℕ, List, Option, None, option_map, ⊤}
use Rattle.rpc_outside.specs.declared.address.Address.{Address}
use Rattle.app_words.specs.declared.command.Asked.{Asked}
use Rattle.app_words.specs.declared.command.Asked.TheVariants as asks
use Rattle.app_words.specs.Asks as line
use Rattle.rpc_app.specs.declared.command.Command.{Command}
use Rattle.rpc_app.specs.declared.command.Command.TheVariants.{Replay, Idl, Audit}

-- A command with its file, and the interface text whose interface is served in a replay beside the built-in ones.
pub record FileTask : Type 0 where
  pub command : Command
  pub file : List ℕ
  pub idl : Option (List ℕ)

-- That, or the load of a number in so many steps.
pub data Task : Type 0 where
  OfFile : FileTask → Task
  OfLoad : ℕ → ℕ → Task

-- That connections be served: where to listen, how many at most, and the interface text whose interface is served beside the built-in
-- ones.
pub record ServeTask : Type 0 where
  pub at : Address
  pub most : ℕ
  pub idl : Option (List ℕ)

-- That the calls of a script be made: where the server is, the interface text that has the operations, and the script.
pub record CallTask : Type 0 where
  pub at : Address
  pub idl : List ℕ
  pub script : List ℕ

-- One of the three.
pub data Wanted : Type 0 where
  ToDo : Task → Wanted
  ToServe : ServeTask → Wanted
  ToCall : CallTask → Wanted

abbrev pub of_file : Command → List ℕ → Option (List ℕ) → Wanted
of_file command file idl = ToDo (OfFile (record { command = command; file = file; idl = idl }))

abbrev pub wanted_of : Asked → Wanted
wanted_of (asks.Replay file idl) = of_file Replay file.now (option_map (λ text. text.now) idl)
wanted_of (asks.Idl file) = of_file Idl file.now None
wanted_of (asks.Audit file) = of_file Audit file.now None
wanted_of (asks.Load number steps) = ToDo (OfLoad number steps)
wanted_of (asks.Serve ip port connections idl) =
    ToServe (record { at = record { ip = ip; port = port }; most = connections; idl = option_map (λ text. text.now) idl })
wanted_of (asks.Call ip port idl script) = ToCall (record { at = record { ip = ip; port = port }; idl = idl.now; script = script.now })

-- a load has 100,000 steps at most
abbrev pub IsInRange : Task → Type 0
IsInRange (OfFile task) = ⊤
IsInRange (OfLoad number steps) = steps ≤ 100000

-- connections are 1,000,000 at most
abbrev pub IsWithin : ServeTask → Type 0
IsWithin task = (1 ≤ task.most) × (task.most ≤ 1000000)

-- the words ask for that
abbrev pub Asks : List (List ℕ) → Wanted → Type 0
Asks words wanted = (asked : Asked) × line.AsksFor words asked × (wanted_of asked ≡ wanted)

abbrev pub AsksFor : List (List ℕ) → Task → Type 0
AsksFor words task = Asks words (ToDo task)

abbrev pub AsksToServe : List (List ℕ) → ServeTask → Type 0
AsksToServe words task = Asks words (ToServe task)

abbrev pub AsksToCall : List (List ℕ) → CallTask → Type 0
AsksToCall words task = Asks words (ToCall task)

-- they ask for none of it
abbrev pub AsksForNothing : List (List ℕ) → Type 0
AsksForNothing words = (wanted : Wanted) → Asks words wanted → ⊥
