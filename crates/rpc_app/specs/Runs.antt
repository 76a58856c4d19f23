-- What the program does for its words and files.
use Rattle.std.specs.Prelude.{◌≡◌, ℕ, ◌<◌, ◌≤◌, ◌⊎◌, List, ◌∷◌, ◌++◌, [], length, take, Option, Some, None, codes}
use Rattle.std.specs.Io.KnownBytes.{append_known}
use Rattle.rpc_base.specs.Shelves.{Files, HasFile}
use Rattle.ndr_table.specs.Tables.{TableForm}
use Rattle.rpc_app.specs.declared.command.Command.{Command}
use Rattle.rpc_app.specs.declared.command.Command.TheVariants.{Idl}
use Rattle.replay.specs.Meaning.{service_of}
use Rattle.replay.specs.Meaning.{IsSummary}
use Rattle.rpc_app.specs.Asks.{FileTask, Task, OfFile, OfLoad}
use Rattle.rpc_app.specs.Commands.{limit, IsInterface, Makes, Refuses}

abbrev pub words_refusal : List ℕ
words_refusal = codes "refused: words" ++ 10 ∷ []

abbrev pub long_refusal : List ℕ
long_refusal = codes "refused: file too long" ++ 10 ∷ []

-- what an output held, what it holds now, and a text
abbrev pub Growth : Type 1
Growth = Option (List ℕ) → Option (List ℕ) → List ℕ → Type 0

-- it has gained the text
abbrev pub Gains : Growth
Gains before now text = now ≡ append_known before text

-- it has gained a front of the text
abbrev pub GainsFront : Growth
GainsFront before now text = (k : ℕ) × Gains before now (take k text)

-- ---- files

-- These octets were loaded, no more than the limit: where the files are told, they are the file of that name.
pub record IsLoaded (most : ℕ) (files : Option Files) (name octets : List ℕ) : Type 0 where
  pub short : length octets ≤ most
  pub file : HasFile files name (λ file. file ≡ octets)

-- The command makes this of the file.
pub record MakesOf (files : Option Files) (echo : Option TableForm) (command : Command) (name printed logged : List ℕ) : Type 0 where
  pub octets : List ℕ
  pub loaded : IsLoaded (limit command) files name octets
  pub makes : Makes echo command octets printed logged

-- The file is longer than that, and that is said.
pub record IsTooLong (files : Option Files) (most : ℕ) (name said : List ℕ) : Type 0 where
  pub file : HasFile files name (λ file. most < length file)
  pub said_is : said ≡ long_refusal

-- The file departs from what the command takes, and where it does is said.
pub record IsOutside (files : Option Files) (echo : Option TableForm) (command : Command) (name said : List ℕ) : Type 0 where
  pub octets : List ℕ
  pub loaded : IsLoaded (limit command) files name octets
  pub refuses : Refuses echo command octets said

-- The command refuses the file, and this is said of it.
abbrev pub RefusesFile : Option Files → Option TableForm → Command → List ℕ → List ℕ → Type 0
RefusesFile files echo command name said = IsTooLong files (limit command) name said ⊎ IsOutside files echo command name said

-- ---- tasks

-- the interface of the interface text that was loaded
abbrev pub ServesText : Option Files → List ℕ → Option TableForm → Type 0
ServesText files name echo = (octets : List ℕ) × IsLoaded (limit Idl) files name octets × ((table : TableForm) × IsInterface octets table × (echo ≡ Some table))

-- the interface of the task's interface text, where it names one
abbrev pub Serves : Option Files → Option (List ℕ) → Option TableForm → Type 0
Serves files None echo = echo ≡ None
Serves files (Some name) echo = ServesText files name echo

-- The command makes this of the task's file, with the interface of its interface text.
abbrev pub DoesFiles : Option Files → FileTask → List ℕ → List ℕ → Type 0
DoesFiles files task printed logged = (echo : Option TableForm) × Serves files task.idl echo × MakesOf files echo task.command task.file printed logged

-- Or the line is put that tells what the load comes to, on the built-in interfaces.
abbrev pub DoesTask : Option Files → Task → List ℕ → List ℕ → Type 0
DoesTask files (OfFile task) printed logged = DoesFiles files task printed logged
DoesTask files (OfLoad number steps) printed logged = IsSummary (service_of None) number steps printed × (logged ≡ [])

-- the interface text is refused, where the task names one, as the command `idl` refuses it
abbrev pub RefusesText : Option Files → Option (List ℕ) → List ℕ → Type 0
RefusesText files None said = ⊥
RefusesText files (Some name) said = RefusesFile files None Idl name said

-- that is, or else the command refuses the task's file
abbrev pub RefusesFiles : Option Files → FileTask → List ℕ → Type 0
RefusesFiles files task said =
    RefusesText files task.idl said ⊎ ((echo : Option TableForm) × Serves files task.idl echo × RefusesFile files echo task.command task.file said)

-- no load is refused
abbrev pub RefusesTask : Option Files → Task → List ℕ → Type 0
RefusesTask files (OfFile task) said = RefusesFiles files task said
RefusesTask files (OfLoad number steps) said = ⊥

-- ---- outputs

-- The task was done, and what it makes is on both outputs.
pub record IsDone (task : Task) (files : Option Files) (out out' log log' : Option (List ℕ)) : Type 0 where
  pub printed : List ℕ
  pub logged : List ℕ
  pub does : DoesTask files task printed logged
  pub on_out : Gains out out' printed
  pub on_log : Gains log log' logged

-- Two texts were to be put, the first on out and then the second on log: out has gained a front of the first and log nothing, or
-- out all of it and log a front of the second.
abbrev pub EndsEarly : Option (List ℕ) → Option (List ℕ) → Option (List ℕ) → Option (List ℕ) → List ℕ → List ℕ → Type 0
EndsEarly out out' log log' printed logged = (GainsFront out out' printed × (log' ≡ log)) ⊎ (Gains out out' printed × GainsFront log log' logged)

-- It was done, and what it makes is put so far.
pub record IsDoneInPart (task : Task) (files : Option Files) (out out' log log' : Option (List ℕ)) : Type 0 where
  pub printed : List ℕ
  pub logged : List ℕ
  pub does : DoesTask files task printed logged
  pub put : EndsEarly out out' log log' printed logged

-- It was refused, that is said on out, and nothing else is said.
pub record IsRefused (grows : Growth) (task : Task) (files : Option Files) (out out' log log' : Option (List ℕ)) : Type 0 where
  pub refusal : List ℕ
  pub refuses : RefusesTask files task refusal
  pub said : grows out out' refusal
  pub quiet : log' ≡ log

-- An output failed: it ended early with what was to be said of the task, and nothing was put after that.
abbrev pub IsCutShort : Task → Option Files → Option (List ℕ) → Option (List ℕ) → Option (List ℕ) → Option (List ℕ) → Type 0
IsCutShort task files out out' log log' = IsDoneInPart task files out out' log log' ⊎ IsRefused GainsFront task files out out' log log'
