-- What the command `serve` comes to.
use Rattle.std.specs.Prelude.{◌≡◌, ◌⊎◌, ℕ, ◌<◌, Bool, List, [], ◌∷◌, ⊤}
use Rattle.std.specs.List.{AllByRecursion}
use Rattle.rpc_base.specs.Causes.{Rose}
use Rattle.rpc_base.specs.declared.fault.OutFault.{OutFault}
use Rattle.rpc_base.specs.declared.fault.OutFault.TheVariants as faults
use Rattle.rpc_outside.specs.declared.address.Address.{Address}
use Rattle.rpc_outside.specs.Links.{Shown}
use Rattle.rpc_outside.specs.Doors.{DoorShown, DoorSame, ListensAt}
use Rattle.ndr_table.specs.Tables.{TableForm}
use Rattle.manager_api.specs.Answers.{Ans}
use Rattle.manager_api.specs.Calls.{Call}
use Rattle.hub_story.specs.declared.item.Item.TheVariants.{Begun}
use Rattle.group_hub.specs.declared.hub.Hub.{Hub}
use Rattle.group_hub.specs.declared.pass.Pass.{Pass}
use Rattle.group_hub.specs.Passes.{at_shard, IsPassOf}
use Rattle.server_rounds.specs.declared.settled.Settled.{Settled}
use Rattle.server_rounds.specs.declared.round.Round.{Round}
use Rattle.server_rounds.specs.declared.round.Stop.{Stop}
use Rattle.server_rounds.specs.declared.round.Stop.TheVariants.{Done, DoorClosed, DoorFault, Memory}
pub use Rattle.desk_locks.specs.Calls.{May}
use Rattle.server_rounds.specs.Rounds.{IsRound}
use Rattle.server_command.specs.Logs.{Logs}
use Rattle.server_command.specs.Lines.{endings_in, status_with}
use Rattle.server_command.specs.Sums.{Prints}
use Rattle.server_command.specs.Doors.{links_in, TakesBack}
use Rattle.server_command.specs.Groups.{EndsIfOurs, IsLogged, AreApart}
use Rattle.server_command.specs.Connections.{HoldsByPrinted}

-- the first pass of a hub of that boot word: no group was opened
abbrev pub IsFirst : ℕ → Pass → Type 0
IsFirst boot p = (s : ℕ) → s < 16 → ((at_shard p s).log ≡ Begun boot s ∷ []) × ((at_shard p s).own ≡ [])

module _ {K : Type 0} (shows : K → Shown) where
  -- What is printed of connections that are over, and the status: a line for each and the line of numbers; the status by their
  -- endings and by why there were no more; and the journals of the groups, by rising id, each legal and settled.
  pub record IsOver (hub : Hub) (p : Pass) (finished : List (Settled K)) (stop : Stop) (out log : List ℕ) (status : ℕ) : Type 0 where
    pub printed : Prints shows finished out
    pub status_is : status ≡ status_with stop (endings_in finished)
    pub last : Pass
    pub last_pass : IsPassOf hub last
    pub logged : Logs hub.boot p last [] log

module _ {K : Type 0} (shows : K → Shown) (may : Call → Bool → Ans → Type 0) (tables : List TableForm) where
  -- A server of that boot word, of these interfaces, whose managers may answer so, served connections of the door, which was a and is b.
  pub record Serves (boot : ℕ) (a : DoorShown K) (at : Address) (most : ℕ) (b : DoorShown K) (out log : List ℕ) (status : ℕ) : Type 0 where
    pub hub : Hub
    pub boot_is : hub.boot ≡ boot
    pub first : Pass
    pub new : IsFirst boot first
    -- the door listens at the address
    pub heard : DoorShown K
    pub listens : ListensAt a heard at
    -- up to so many links that it handed out were served, and fewer only where it closed or failed, or memory ran out
    pub round : Round K
    pub left : DoorShown K
    pub serves : IsRound shows may tables hub first heard most round left
    pub pass : IsPassOf hub round.pass
    -- they were given back, in its order
    pub given_back : TakesBack left (links_in round.finished.items) b
    -- what is printed, and the status
    pub over : IsOver shows hub round.pass round.finished.items round.stop out log status
    -- each that joined a group has its Join in that group's journal, and no two the same
    pub logged : AllByRecursion (IsLogged hub.boot over.logged.copies) round.finished.items
    pub apart : AreApart round.finished.items
    -- what each entered and answered, and why its bind was refused, by the printed journals
    pub holds : AllByRecursion (HoldsByPrinted shows may tables hub.boot over.logged.copies) round.finished.items
    -- a journal each of whose connections is one of theirs ends with Shut
    pub ended : AllByRecursion (EndsIfOurs hub.boot round.finished.items) over.logged.copies

-- why nothing is printed of a round for whose texts there is no memory: a failed door outweighs that
abbrev pub fault_with : Stop → OutFault
fault_with DoorFault = faults.Failed
fault_with Done = faults.Memory
fault_with DoorClosed = faults.Memory
fault_with Memory = faults.Memory

module _ {K : Type 0} (shows : K → Shown) (may : Call → Bool → Ans → Type 0) (tables : List TableForm) where
  -- The same of connections of which nothing is printed, since there is no memory for it: what each came to, and that its link was given back.
  pub record ServesUntold (boot : ℕ) (a : DoorShown K) (at : Address) (most : ℕ) (b : DoorShown K) (why : OutFault) : Type 0 where
    pub hub : Hub
    pub boot_is : hub.boot ≡ boot
    pub first : Pass
    pub new : IsFirst boot first
    pub heard : DoorShown K
    pub listens : ListensAt a heard at
    pub round : Round K
    pub left : DoorShown K
    pub serves : IsRound shows may tables hub first heard most round left
    pub pass : IsPassOf hub round.pass
    pub given_back : TakesBack left (links_in round.finished.items) b
    pub apart : AreApart round.finished.items
    pub why_is : why ≡ fault_with round.stop

  abbrev pub HasFailed : DoorShown K → DoorShown K → OutFault → Type 0
  HasFailed a b faults.Failed = Rose a.faults b.faults
  HasFailed a b faults.Memory = ⊤

  -- Why nothing is printed, and what was done: the door failed, or memory ran out. Either no link was handed out, and the door listens where
  -- it did; or connections were served.
  pub record IsWhy (boot : ℕ) (a : DoorShown K) (at : Address) (most : ℕ) (b : DoorShown K) (why : OutFault) : Type 0 where
    pub failed : HasFailed a b why
    pub done : DoorSame a b ⊎ ServesUntold boot a at most b why
