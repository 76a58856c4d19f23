-- What the program does for words that ask for connections to be served.
use Rattle.std.specs.Prelude.{◌≡◌, ◌≢◌, ◌⊎◌, ℕ, ◌<◌, ◌≤◌, List, Option, Some, None}
use Rattle.rpc_base.specs.Causes.{Rose}
use Rattle.rpc_base.specs.declared.fault.OutFault.{OutFault}
use Rattle.rpc_base.specs.declared.fault.OutFault.TheVariants.{Failed, Memory}
use Rattle.rpc_base.specs.Shelves.{Files, TellsFile}
use Rattle.rpc_outside.specs.Links.{Shown}
use Rattle.rpc_outside.specs.Doors.{DoorShown}
use Rattle.ndr_table.specs.Tables.{TableForm}
use Rattle.rpc_app.specs.declared.command.Command.TheVariants.{Idl}
use Rattle.rpc_app.specs.Asks.{ServeTask}
use Rattle.rpc_app.specs.Runs.{Gains, GainsFront, EndsEarly, Growth, Serves, RefusesText}
use Rattle.rpc_app.specs.Obeys.{Shelf, Output, IsKept, Put, TellsText, IsTaken, NoneFailed}
use Rattle.server_command.specs.Tables.{tables_with}
use Rattle.server_command.specs.Serves.{May}
use Rattle.server_command.specs.Serves as command
use Rattle.server_command.specs.Desks.{ServesDesks}

-- what a door counted and told before, and counts and tells now
pub record Doorway (K : Type 0) : Type 0 where
  pub before : DoorShown K
  pub after : DoorShown K

abbrev pub doorway_from : {K D : Type 0} → (D → DoorShown K) → D → D → Doorway K
doorway_from shows old new = record { before = shows old; after = shows new }

-- nothing was done with it
abbrev pub IsUnused : {K : Type 0} → Doorway K → Type 0
IsUnused door = door.after ≡ door.before

-- nothing is said
abbrev pub IsSilent : Output → Output → Type 0
IsSilent out log = IsKept out × IsKept log

-- two texts were put, one on each output; or an output ended early with them
abbrev pub PutBoth : Output → Output → List ℕ → List ℕ → Type 0
PutBoth out log printed logged = Put Gains out printed × Put Gains log logged

abbrev pub PutInPart : Output → Output → List ℕ → List ℕ → Type 0
PutInPart out log printed logged =
    EndsEarly out.had out.has log.had log.has printed logged × (Rose out.before out.after ⊎ Rose log.before log.after)

-- the status where an output failed: 4, which a failed door or dial outweighs
abbrev pub Outweighs : ℕ → ℕ → Type 0
Outweighs status result = ((status ≡ 7) × (result ≡ 7)) ⊎ ((status ≢ 7) × (result ≡ 4))

-- The texts were put, and the status is theirs; or an output failed.
abbrev pub IsPut : Output → Output → List ℕ → List ℕ → ℕ → ℕ → Type 0
IsPut out log printed logged status result =
    (PutBoth out log printed logged × (result ≡ status)) ⊎ (PutInPart out log printed logged × Outweighs status result)

-- the interface text is refused, as the command `idl` refuses it; that is said, and nothing else
pub record RefusesInterface (grows : Growth) (task : ServeTask) (store : Shelf) (out log : Output) : Type 0 where
  pub refusal : List ℕ
  pub refuses : RefusesText store.files task.idl refusal
  pub said : Put grows out refusal
  pub quiet : IsKept log

-- no count of the door's failures rose
abbrev pub NoDoorFailed : {K : Type 0} → Doorway K → Type 0
NoDoorFailed door = Rose door.before.faults door.after.faults → ⊥

module _ {K : Type 0} (shows : K → Shown) where
  -- Connections of the door were served, with the interface of an echo; two texts were to be put, which were put so, and that was to be
  -- the status.
  pub record HasServedWith (echo : Option TableForm) (task : ServeTask) (boot : ℕ) (door : Doorway K) (status : ℕ) (puts : List ℕ → List ℕ → Type 0) : Type 0 where
    pub printed : List ℕ
    pub logged : List ℕ
    pub serves : command.Serves shows (May echo) (tables_with echo) boot door.before task.at task.most door.after printed logged status
    pub desks : ServesDesks shows echo boot door.before task.at task.most door.after printed logged status
    pub put : puts printed logged

  -- with the interface of the task's interface text
  abbrev pub HasServed : ServeTask → ℕ → Shelf → Doorway K → ℕ → (List ℕ → List ℕ → Type 0) → Type 0
  HasServed task boot store door status puts = (echo : Option TableForm) × Serves store.files task.idl echo × HasServedWith echo task boot door status puts

  -- Nothing is said since the door failed or memory ran out: no link was handed out, or connections were served with the interface of an echo.
  abbrev pub IsUntold : Option TableForm → ServeTask → ℕ → Doorway K → OutFault → Type 0
  IsUntold echo task boot door why = command.IsWhy shows (May echo) (tables_with echo) boot door.before task.at task.most door.after why

  -- with the interface of the task's interface text
  abbrev pub EndsUntold : ServeTask → ℕ → Shelf → Doorway K → OutFault → Type 0
  EndsUntold task boot store door why = (echo : Option TableForm) × Serves store.files task.idl echo × IsUntold echo task boot door why

  -- What came of the task with an echo: served, with the status of that; or the door failed or memory ran out, and nothing is said.
  abbrev pub ServesWith : Option TableForm → ServeTask → ℕ → Doorway K → Output → Output → ℕ → Type 0
  ServesWith echo task boot door out log result =
      ((status : ℕ) × HasServedWith echo task boot door status (λ printed logged. IsPut out log printed logged status result))
      ⊎ (IsSilent out log × (((result ≡ 7) × IsUntold echo task boot door Failed) ⊎ ((result ≡ 5) × IsUntold echo task boot door Memory)))

  -- What was done, or why it wasn't; what stands where it wasn't done; and what must be done.
  pub record ServesFor (task : ServeTask) (boot : ℕ) (store : Shelf) (door : Doorway K) (out log : Output) (status : ℕ) : Type 0 where
    pub known : (status < 9) × (status ≢ 1) × (status ≢ 6)
    -- connections were served, and what is said of them is on both outputs
    pub done : (status ≡ 0) ⊎ (status ≡ 8) → HasServed task boot store door status (PutBoth out log)
    -- the interface text is refused; the shelf failed; an output did; the door did
    pub outside : status ≡ 2 → RefusesInterface Gains task store out log × IsUnused door
    pub shelf : status ≡ 3 → Rose store.before store.after × IsSilent out log × IsUnused door
    pub sinks : status ≡ 4 → Rose out.before out.after ⊎ Rose log.before log.after
    pub fronts : status ≡ 4 → RefusesInterface GainsFront task store out log ⊎ ((s : ℕ) × (s ≢ 7) × HasServed task boot store door s (PutInPart out log))
    pub fault : status ≡ 7 → Rose door.before.faults door.after.faults
    -- at these nothing is said, and what was served is given back; or all that was to be is said
    pub behind_fault : status ≡ 7 → (IsSilent out log × EndsUntold task boot store door Failed) ⊎ HasServed task boot store door 7 (λ printed logged. PutBoth out log printed logged ⊎ PutInPart out log printed logged)
    pub memory : status ≡ 5 → (IsSilent out log × (IsUnused door ⊎ EndsUntold task boot store door Memory)) ⊎ HasServed task boot store door 5 (PutBoth out log)
    -- an interface text that is told and taken isn't refused, and with one that isn't taken none is served
    pub taken : (echo : Option TableForm) → TellsText store.files task.idl echo → status ≢ 2
    pub refused : (name octets : List ℕ) → task.idl ≡ Some name → TellsFile store.files name octets → (IsTaken None Idl octets → ⊥) → (status ≢ 0) × (status ≢ 8)
    -- and connections are served, unless an object of the outside failed or memory ran out
    pub complete : (echo : Option TableForm) → TellsText store.files task.idl echo → NoneFailed store out log → NoDoorFailed door → (status ≡ 0) ⊎ (status ≡ 5) ⊎ (status ≡ 8)
