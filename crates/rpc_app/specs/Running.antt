-- What the program does for its words.
use Rattle.std.specs.Prelude.{◌≡◌, ℕ, ◌≤◌, List, ⊤}
use Rattle.rpc_outside.specs.Links.{Shown}
use Rattle.rpc_app.specs.declared.top.Obeyed.{Obeyed}
use Rattle.rpc_app.specs.declared.top.Obeyed.TheVariants as obeyed
use Rattle.rpc_app.specs.Asks.{ServeTask, CallTask, Wanted, ToServe, ToCall, Asks, AsksToServe, AsksToCall}
use Rattle.rpc_app.specs.Words.{told_server, told_caller}
use Rattle.rpc_app.specs.Obeys.{Shelf, Output, IsKept, Obeys}
use Rattle.rpc_app.specs.Serving.{Doorway, IsUnused, ServesFor}
use Rattle.rpc_app.specs.Calling.{Dialling, IsUndialled, CallsFor}

module _ {K Q : Type 0} (shows : K → Shown) (dial_shows : Q → Shown) where
  -- What comes of the program: words that ask for connections are done so, words that ask for calls so, and all others as said of them, and
  -- each with what it doesn't need left as it was.
  pub record RunsAs (given : List (List ℕ)) (boot : ℕ) (store : Shelf) (door : Doorway K) (dial : Dialling Q) (out log : Output) (status : ℕ) : Type 0 where
    pub obeys : ((task : ServeTask) → AsksToServe given task → ⊥) → ((task : CallTask) → AsksToCall given task → ⊥)
        → Obeys given store out log status × IsUnused door × IsUndialled dial
    pub serves : (task : ServeTask) → AsksToServe given task → ServesFor shows task boot store door out log status × IsUndialled dial
    pub calls : (task : CallTask) → AsksToCall given task → CallsFor dial_shows task store dial out status × IsKept log × IsUnused door

-- the words ask for that alone
abbrev pub AsksAlone : List (List ℕ) → Wanted → Type 0
AsksAlone given wanted = Asks given wanted × ((other : Wanted) → Asks given other → other ≡ wanted)

-- the status, where the words ask for neither connections nor calls, unless memory ran out; or the task that they ask for, alone
abbrev pub Comes : List (List ℕ) → Shelf → Output → Output → Obeyed → Type 0
Comes given store out log (obeyed.Done status) =
    Obeys given store out log status × ((task : ServeTask) → AsksToServe given task → status ≡ 5) × ((task : CallTask) → AsksToCall given task → status ≡ 5)
Comes given store out log (obeyed.Serve task) = AsksAlone given (ToServe (told_server task)) × (task.most ≤ 1000000)
Comes given store out log (obeyed.Call task) = AsksAlone given (ToCall (told_caller task))

abbrev pub IsLeft : Obeyed → Type 0
IsLeft (obeyed.Done status) = ⊥
IsLeft _ = ⊤
