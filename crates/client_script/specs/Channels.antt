-- What comes of one thing that is done on a connection.
use Rattle.std.specs.Prelude.{◌≡◌, ◌≢◌, ℕ, true, false, Result, Ok, Err, List, ⊤}
use Rattle.ndr_value.specs.declared.value.Message.{Message}
use Rattle.ndr_value.specs.Values.{msg}
use Rattle.rpc_outside.specs.Links.{Shown}
use Rattle.ndr_table.specs.Tables.{TableForm}
use Rattle.client_core.specs.declared.told.Told.{Told}
use Rattle.client_core.specs.Calls.{IsMessage}
use Rattle.client_core.specs.State.{state}
use Rattle.client_core.specs.States.{Outcome, ClientState, told, is_bound, is_calling}
use Rattle.client_core.specs.States.Outcome.{TBroken}
use Rattle.client_core.specs.Histories.{ClientEvent, Happens}
use Rattle.client_core.specs.Histories.ClientEvent.{DidBind, DidCall, DidCancel}
use Rattle.client_link.specs.declared.wire.BeginFault.{BeginFault}
use Rattle.client_link.specs.declared.wire.BeginFault.TheVariants as begin
use Rattle.client_link.specs.declared.wait.Stop.{Stop as Deaf}
use Rattle.client_link.specs.declared.wait.Stop.TheVariants as deaf
use Rattle.client_link.specs.Wires.{IsOpen, IsTooLong, MayBeTold}
use Rattle.client_script.specs.declared.channel.Channel.{Channel}
use Rattle.client_script.specs.declared.channel.Halt.{Halt}
use Rattle.client_script.specs.declared.channel.Halt.TheVariants as halts
use Rattle.client_script.specs.Worlds.{Association, with_event}
use Rattle.client_script.specs.Steps.{Hears, bound_as, closing}
use Rattle.client_script.specs.Losses.{GoesUnheard, IsCutOff, BindsInVain}
use Rattle.client_script.specs.Shows.{Holds, HoldsLost}

-- a connection asks for the group, and hears the answer; or is lost before
pub record BindsFrom (interface : TableForm) (a : Association) (group : ℕ) (outcome : Outcome) (b : Association) : Type 0 where
  pub octets : List ℕ
  pub state : ClientState
  pub begins : Happens a.state (DidBind group octets) state
  pub answered : Association
  pub hears : Hears interface (with_event a (DidBind group octets) state) outcome answered
  pub bound : b ≡ bound_as answered outcome

-- an outcome that has a line: no breach of the protocol
abbrev pub IsTellable : Outcome → Type 0
IsTellable (TBroken fault) = ⊥
IsTellable outcome = MayBeTold outcome

-- what a wait comes to: an outcome that has a line, or the connection is lost, or memory ran out
abbrev pub IsWaited : Result Told Halt → Type 0
IsWaited (Ok t) = IsTellable (told t)
IsWaited (Err halt) = halt ≢ halts.TooLong

-- what follows on a fault of what is begun
abbrev pub Halts : {K : Type 0} → Channel K → BeginFault → Halt → Channel K → Type 0
Halts old begin.Failed halt new = (halt ≡ halts.Lost) × (new ≡ record old { is_open = false })
Halts old begin.TooLong halt new = (halt ≡ halts.TooLong) × (new ≡ old)
Halts old begin.Memory halt new = (halt ≡ halts.Memory) × (new ≡ old)

-- and where nothing more is heard
abbrev pub Silences : {K : Type 0} → Channel K → Deaf → Halt → Channel K → Type 0
Silences old deaf.Memory halt new = (halt ≡ halts.Memory) × (new ≡ old)
Silences old why halt new = (halt ≡ halts.Lost) × (new ≡ record old { is_open = false })

module _ {K : Type 0} (shows : K → Shown) where
  -- something is begun on the channel's connection, or it is lost meanwhile, or nothing is begun
  abbrev pub BeginsOn : Channel K → TableForm → Association → (List ℕ → ClientEvent) → Type 0 → Result Unit Halt → Channel K → Type 0
  BeginsOn old interface a event Long (Ok _) c = (octets : List ℕ) × (n : ClientState) × Happens a.state (event octets) n × Holds shows interface c (with_event a (event octets) n)
  BeginsOn old interface a event Long (Err halts.Lost) c = (b : Association) × IsCutOff a event b × HoldsLost shows interface (shows old.wire.link) a c b
  BeginsOn old interface a event Long (Err halts.TooLong) c = Long × Holds shows interface c a
  BeginsOn old interface a event Long (Err halts.Memory) c = ⊤

  -- an outcome is heard, or the connection is lost in this wait
  abbrev pub HearsOn : Channel K → TableForm → Association → Result Told Halt → Channel K → Type 0
  HearsOn old interface a (Ok t) c = (b : Association) × Hears interface a (told t) b × Holds shows interface c b
  HearsOn old interface a (Err halts.Lost) c = (b : Association) × GoesUnheard interface a b × HoldsLost shows interface (shows old.wire.link) a c b
  HearsOn old interface a (Err _) c = ⊤

  -- A new connection is bound to the group or not, as the outcome says; or it is lost.
  abbrev pub BindsOn : TableForm → Association → ℕ → Result Told Halt → Channel K → Type 0
  BindsOn interface a group (Ok t) c = (b : Association) × BindsFrom interface a group (told t) b × Holds shows interface c b
  BindsOn interface new group (Err halts.Lost) c = (a : Association) × (b : Association) × (from : Shown) × BindsInVain interface new group a b × HoldsLost shows interface from a c b
  BindsOn interface a group (Err _) c = ⊤

  -- from each connection that the channel is and that is open
  abbrev pub FromEach : Channel K → (TableForm → Association → Type 0) → Type 0
  FromEach c P = (interface : TableForm) (a : Association) → Holds shows interface c a → a.is_open ≡ true → P interface a

  -- a call of that message may be begun on the channel, and it is
  abbrev pub MayStartOn : ℕ → Message → Channel K → Type 0
  MayStartOn op message c =
      IsOpen shows c.wire.link × (is_bound (state c.wire.client) ≡ true) × (is_calling (state c.wire.client) ≡ false) × IsMessage (state c.wire.client).interface op (msg message)

  abbrev pub StartsOn : Channel K → ℕ → Message → Result Unit Halt → Channel K → Type 0
  StartsOn old op message result new =
      FromEach old (λ interface a. BeginsOn old interface a (DidCall op (msg message)) (IsTooLong (state old.wire.client).interface op (msg message)) result new)

  -- what is out is waited for
  abbrev pub WaitsOn : Channel K → Result Told Halt → Channel K → Type 0
  WaitsOn old result new = FromEach old (λ interface a. HearsOn old interface a result new)

  -- the cancelling of the call that is out is asked for
  abbrev pub CancelsOn : Channel K → Result Unit Halt → Channel K → Type 0
  CancelsOn old result new = FromEach old (λ interface a. BeginsOn old interface a DidCancel ⊥ result new)

  -- it is closed, and so is its link
  abbrev pub ClosesOn : Channel K → Channel K → Type 0
  ClosesOn old new = FromEach old (λ interface a. Holds shows interface new (closing a))
