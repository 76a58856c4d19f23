-- What the program does for its words, clause by clause.
use Rattle.std.specs.Prelude.{◌≡◌, ◌≢◌, ◌⊎◌, ℕ, ◌<◌, ◌≤◌, List, length, Option, Some, None}
use Rattle.rpc_base.specs.Causes.{Rose}
use Rattle.rpc_base.specs.Shelves.{Files, TellsFile}
use Rattle.ndr_table.specs.Tables.{TableForm}
use Rattle.rpc_app.specs.declared.command.Command.{Command}
use Rattle.rpc_app.specs.declared.command.Command.TheVariants.{Idl}
use Rattle.rpc_app.specs.Asks.{FileTask, Task, OfFile, OfLoad, AsksFor, AsksForNothing}
use Rattle.rpc_app.specs.Commands.{IsInterface, IsTextFor, limit}
use Rattle.rpc_app.specs.Runs.{words_refusal, Growth, Gains, GainsFront, IsDone, IsRefused, IsCutShort}

-- a shelf: its files, where it tells them, and how often it had failed before and has failed since
pub record Shelf : Type 0 where
  pub files : Option Files
  pub before : ℕ
  pub after : ℕ

-- an output: how often it had failed before and has failed since, and where it tells them the octets that it had then and has now
pub record Output : Type 0 where
  pub before : ℕ
  pub after : ℕ
  pub had : Option (List ℕ)
  pub has : Option (List ℕ)

-- the same of a shelf and of an output by what their objects tell, as they were and as they are
abbrev pub shelf_from : {F : Type 0} → (F → Option Files) → (F → ℕ) → F → F → Shelf
shelf_from files faults old new = record { files = files old; before = faults old; after = faults new }

abbrev pub output_from : {S : Type 0} → (S → ℕ) → (S → Option (List ℕ)) → S → S → Output
output_from faults written old new = record { before = faults old; after = faults new; had = written old; has = written new }

-- it is as it was; it has gained a text, or a front of one
abbrev pub IsKept : Output → Type 0
IsKept o = o.has ≡ o.had

abbrev pub Put : Growth → Output → List ℕ → Type 0
Put grows o text = grows o.had o.has text

-- the words are refused, and nothing else is said
abbrev pub RefusesWords : Growth → List (List ℕ) → Output → Output → Type 0
RefusesWords grows words out log = AsksForNothing words × Put grows out words_refusal × IsKept log

-- the task was done; it was refused; an output failed meanwhile
abbrev pub HasDone : Task → Shelf → Output → Output → Type 0
HasDone task shelf out log = IsDone task shelf.files out.had out.has log.had log.has

abbrev pub HasRefused : Task → Shelf → Output → Output → Type 0
HasRefused task shelf out log = IsRefused Gains task shelf.files out.had out.has log.had log.has

abbrev pub WasCutShort : Task → Shelf → Output → Output → Type 0
WasCutShort task shelf out log = IsCutShort task shelf.files out.had out.has log.had log.has

-- the words ask for a task, of which this holds
abbrev pub AsksSo : List (List ℕ) → (Task → Type 0) → Type 0
AsksSo words P = (task : Task) × AsksFor words task × P task

-- ---- where files are told

-- a file that the command takes
abbrev pub IsTaken : Option TableForm → Command → List ℕ → Type 0
IsTaken echo command octets = (length octets ≤ limit command) × IsTextFor echo command octets

-- the interface of an interface text that is told and taken, where the task names one
abbrev pub TellsText : Option Files → Option (List ℕ) → Option TableForm → Type 0
TellsText files None echo = echo ≡ None
TellsText files (Some name) echo =
    (octets : List ℕ) × TellsFile files name octets × (length octets ≤ limit Idl) × ((table : TableForm) × IsInterface octets table × (echo ≡ Some table))

-- and whichever command they ask for, with files that are told: with the interface of its interface text and the octets of its file
abbrev pub WhereTold : List (List ℕ) → Shelf → (Option TableForm → Command → List ℕ → Type 0) → Type 0
WhereTold words shelf P =
    (task : FileTask) (echo : Option TableForm) (octets : List ℕ) → AsksFor words (OfFile task) → TellsText shelf.files task.idl echo → TellsFile shelf.files task.file octets
    → P echo task.command octets

-- with the octets of its file alone
abbrev pub WhereFileTold : List (List ℕ) → Shelf → (Command → List ℕ → Type 0) → Type 0
WhereFileTold words shelf P = (task : FileTask) (octets : List ℕ) → AsksFor words (OfFile task) → TellsFile shelf.files task.file octets → P task.command octets

-- or of its interface text alone
abbrev pub WhereTextTold : List (List ℕ) → Shelf → (List ℕ → Type 0) → Type 0
WhereTextTold words shelf P = (task : FileTask) (name octets : List ℕ) → AsksFor words (OfFile task) → task.idl ≡ Some name → TellsFile shelf.files name octets → P octets

-- whichever load they ask for
abbrev pub WhereLoad : List (List ℕ) → Type 0 → Type 0
WhereLoad words P = (number steps : ℕ) → AsksFor words (OfLoad number steps) → P

-- no count of failures rose
abbrev pub NoneFailed : Shelf → Output → Output → Type 0
NoneFailed store out log =
    (Rose store.before store.after → ⊥) × (Rose out.before out.after → ⊥) × (Rose log.before log.after → ⊥)

-- What was done, or why it wasn't; what stands where it wasn't done; and what must be done.
pub record Obeys (given : List (List ℕ)) (store : Shelf) (out log : Output) (status : ℕ) : Type 0 where
  pub known : status < 6
  -- the task is done; the words are refused; a file is
  pub done : status ≡ 0 → AsksSo given (λ task. HasDone task store out log)
  pub words : status ≡ 1 → RefusesWords Gains given out log
  pub outside : status ≡ 2 → AsksSo given (λ task. HasRefused task store out log)
  -- the shelf failed; an output did
  pub shelf : status ≡ 3 → Rose store.before store.after × AsksSo given (λ task. Unit {0})
  pub sinks : status ≡ 4 → Rose out.before out.after ⊎ Rose log.before log.after
  pub fronts : status ≡ 4 → RefusesWords GainsFront given out log ⊎ AsksSo given (λ task. WasCutShort task store out log)
  -- nothing is said where the shelf failed, or memory ran out
  pub silent : (status ≡ 3) ⊎ (status ≡ 5) → IsKept out
  pub quiet : (status ≡ 3) ⊎ (status ≡ 5) → IsKept log
  -- words that ask for nothing are refused, unless memory runs out
  pub unknown : AsksForNothing given → (status ≡ 1) ⊎ (status ≡ 4) ⊎ (status ≡ 5)
  -- files that are told and that the command takes aren't refused; of one that it doesn't take nothing is made
  pub taken : WhereTold given store (λ echo command octets. IsTaken echo command octets → (status ≢ 1) × (status ≢ 2))
  pub refused : WhereTold given store (λ echo command octets. (IsTextFor echo command octets → ⊥) → status ≢ 0)
  pub too_long : WhereFileTold given store (λ command octets. limit command < length octets → (status ≢ 0) × (status ≢ 1))
  -- nor with an interface text that isn't taken
  pub text_refused : WhereTextTold given store (λ octets. (IsTaken None Idl octets → ⊥) → (status ≢ 0) × (status ≢ 1))
  -- and what the command makes of those that it takes is put, unless an object of the outside failed or memory ran out
  pub complete : WhereTold given store (λ echo command octets. IsTaken echo command octets → NoneFailed store out log → (status ≡ 0) ⊎ (status ≡ 5))
  -- a load is refused neither, and is done but for the same
  pub load_taken : WhereLoad given ((status ≢ 1) × (status ≢ 2))
  pub load_complete : WhereLoad given (NoneFailed store out log → (status ≡ 0) ⊎ (status ≡ 5))
