-- What the program does for words that ask for the calls of a script.
use Rattle.std.specs.Prelude.{◌≡◌, ◌≢◌, ◌⊎◌, ℕ, ◌<◌, ◌≤◌, ◌++◌, List, length, Option, Some, None}
use Rattle.rpc_base.specs.Causes.{Rose}
use Rattle.rpc_base.specs.Shelves.{Files, TellsFile}
use Rattle.rpc_outside.specs.declared.address.Address.{Address}
use Rattle.rpc_outside.specs.Links.{Shown}
use Rattle.rpc_outside.specs.Dials.{DialShown}
use Rattle.ndr_table.specs.Tables.{TableForm}
use Rattle.client_script.specs.declared.calling.CallEnd.{CallEnd}
use Rattle.client_script.specs.declared.calling.CallEnd.TheVariants as ends
use Rattle.client_script.specs.Scripts.{Ends}
use Rattle.rpc_app.specs.declared.command.Command.TheVariants.{Idl}
use Rattle.rpc_app.specs.Asks.{CallTask}
use Rattle.rpc_app.specs.Commands.{call_limit, line_refusal}
use Rattle.rpc_app.specs.Runs.{Gains, GainsFront, IsLoaded, IsTooLong, ServesText, RefusesFile}
use Rattle.rpc_app.specs.Obeys.{Shelf, Output, IsKept, Put, TellsText, IsTaken}
use Rattle.rpc_app.specs.Serving.{Outweighs}

-- what a dial counted and told before, and counts and tells now
pub record Dialling (K : Type 0) : Type 0 where
  pub before : DialShown K
  pub after : DialShown K

abbrev pub dialling_from : {K Q : Type 0} → (Q → DialShown K) → Q → Q → Dialling K
dialling_from shows old new = record { before = shows old; after = shows new }

-- nothing was done with it
abbrev pub IsUndialled : {K : Type 0} → Dialling K → Type 0
IsUndialled dial = dial.after ≡ dial.before

-- ---- files

-- the interface of the interface text that was loaded
abbrev pub HasInterface : Option Files → List ℕ → TableForm → Type 0
HasInterface files name interface = ServesText files name (Some interface)

-- the interface text is refused, as the command `idl` refuses it; or else the script is too long
abbrev pub RefusesCall : Option Files → CallTask → List ℕ → Type 0
RefusesCall files task said =
    RefusesFile files None Idl task.idl said
    ⊎ ((interface : TableForm) × HasInterface files task.idl interface × IsTooLong files call_limit task.script said)

-- Both files are told: the interface text is taken, and the script isn't too long.
pub record TellsCall (files : Option Files) (task : CallTask) : Type 0 where
  pub interface : Option TableForm
  pub text : TellsText files (Some task.idl) interface
  pub script : List ℕ
  pub told : TellsFile files task.script script
  pub short : length script ≤ call_limit

-- ---- what is told

-- the status of a script's end: all is played, also with a failure; a connection is lost; a line is refused; the dial failed; memory ran out
abbrev pub status_of : CallEnd → ℕ
status_of ends.Done = 0
status_of ends.Failed = 6
status_of ends.Lost = 8
status_of (ends.Line n) = 2
status_of ends.DialFault = 7
status_of ends.Memory = 5

-- the lines of the outcomes, and after them the refusal of a line
abbrev pub printed_of : CallEnd → List ℕ → List ℕ
printed_of (ends.Line n) told = told ++ line_refusal n
printed_of _ told = told

-- the text was put, and the status is this; or the output failed
abbrev pub IsSaid : Output → List ℕ → ℕ → ℕ → Type 0
IsSaid out text status result =
    (Put Gains out text × (result ≡ status)) ⊎ (Put GainsFront out text × Rose out.before out.after × Outweighs status result)

-- what was told is said, with the status of the end; or memory ran out, and nothing is said
abbrev pub IsTold : Output → CallEnd → ℕ → List ℕ → Type 0
IsTold out end result told = ((end ≢ ends.Memory) × IsSaid out (printed_of end told) (status_of end) result) ⊎ (IsKept out × (result ≡ 5))

-- ---- what is done

-- no call is made, and the status is one of these
abbrev pub CallsNothing : {K : Type 0} → Dialling K → ℕ → Type 0
CallsNothing dial status = IsUndialled dial × ((status ≡ 2) ⊎ (status ≡ 3) ⊎ (status ≡ 4) ⊎ (status ≡ 5))

-- no count of failures rose
abbrev pub NoneFailed : {K : Type 0} → Shelf → Dialling K → Output → Type 0
NoneFailed store dial out =
    (Rose store.before store.after → ⊥) × (Rose out.before out.after → ⊥) × (Rose dial.before.faults dial.after.faults → ⊥)

module _ {K : Type 0} (shows : K → Shown) where
  -- Both files were loaded, and the script was played for the interface, over links of the dial to the address; it ended so, and told lines
  -- of which this holds.
  pub record HasCalled (task : CallTask) (store : Shelf) (dial : Dialling K) (end : CallEnd) (says : List ℕ → Type 0) : Type 0 where
    pub interface : TableForm
    pub has_interface : HasInterface store.files task.idl interface
    pub script : List ℕ
    pub loaded : IsLoaded call_limit store.files task.script script
    pub told : List ℕ
    pub ends : Ends shows interface script task.at dial.before told end dial.after
    pub said : says told

  -- the whole of it is said
  abbrev pub HasToldAll : CallTask → Shelf → Dialling K → CallEnd → Output → Type 0
  HasToldAll task store dial end out = HasCalled task store dial end (λ told. Put Gains out (printed_of end told))

  -- What came of a script that was played.
  abbrev pub CallsWith : TableForm → List ℕ → Address → Dialling K → Output → ℕ → Type 0
  CallsWith interface script at dial out status =
      (end : CallEnd) × (told : List ℕ) × Ends shows interface script at dial.before told end dial.after × IsTold out end status told

  -- What came of the task, with its status: the script was played, and is told; a file is refused, and that is said; the shelf failed, or
  -- memory ran out, and nothing is said.
  pub data CallsSo (task : CallTask) (store : Shelf) (dial : Dialling K) (out : Output) (status : ℕ) : Type 0 where
    called : (end : CallEnd) → HasCalled task store dial end (IsTold out end status) → CallsSo task store dial out status
    refused : (said : List ℕ) → RefusesCall store.files task said → IsSaid out said 2 status → IsUndialled dial → CallsSo task store dial out status
    unloaded : Rose store.before store.after → IsKept out → IsUndialled dial → status ≡ 3 → CallsSo task store dial out status
    forgotten : IsKept out → IsUndialled dial → status ≡ 5 → CallsSo task store dial out status

  -- That, and what must be done.
  pub record CallsFor (task : CallTask) (store : Shelf) (dial : Dialling K) (out : Output) (status : ℕ) : Type 0 where
    pub comes : CallsSo task store dial out status
    -- files that are told and taken aren't refused, but at a line of the script that is reached
    pub taken : TellsCall store.files task → status ≡ 2 → (n : ℕ) × HasToldAll task store dial (ends.Line n) out
    -- with an interface text that is told and not taken no call is made, nor by a script that is too long
    pub refused : (octets : List ℕ) → TellsFile store.files task.idl octets → (IsTaken None Idl octets → ⊥) → CallsNothing dial status
    pub too_long : (octets : List ℕ) → TellsFile store.files task.script octets → call_limit < length octets → CallsNothing dial status
    -- and all is played up to a line that is refused or at which a connection is lost, and told, unless an object of the outside failed or
    -- memory ran out
    pub complete : TellsCall store.files task → NoneFailed store dial out
        → (status ≡ 5) ⊎ ((end : CallEnd) × (end ≢ ends.DialFault) × (end ≢ ends.Memory) × HasToldAll task store dial end out × (status ≡ status_of end))
