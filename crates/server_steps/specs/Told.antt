-- What has been done and answered on a connection that is served, and why it doesn't go on.
use Rattle.std.specs.Prelude.{◌≡◌, ℕ, Bool, false, List, [], ⊤}
use Rattle.std.specs.List.{list_any, AllByRecursion}
use Rattle.rpc_base.specs.declared.identifiers.SyntaxId.{SyntaxId}
use Rattle.rpc_outside.specs.Links.{Shown}
use Rattle.handle_model.specs.declared.entry.Home.{Home}
use Rattle.handle_model.specs.declared.entry.Entry.{Entry}
use Rattle.conn_asks.specs.declared.events.Waits.{Waits}
use Rattle.conn_asks.specs.Asks.{is_bound}
use Rattle.conn_asks.specs.States.{ConnState}
use Rattle.conn_histories.specs.Histories.{Event, seen}
use Rattle.conn_core.specs.Fields.{IsAt}
use Rattle.server_steps.specs.declared.wire.Wire.{Wire}
use Rattle.server_steps.specs.Wires.{Lived, Stopped, HasFailed, HasEnded}
use Rattle.conn_histories.specs.declared.turn.Turn.{Turn}
use Rattle.conn_histories.specs.Events.{all_events}
use Rattle.conn_histories.specs.Tales.{StandAll}
use Rattle.conn_turns.specs.AnswerLaws.{IsAllAsked, IsOver}
use Rattle.server_ends.specs.declared.ended.Ending.{Ending}
use Rattle.server_ends.specs.Endings.{closes, ClosedFor, EndsAs}
use Rattle.server_steps.specs.declared.stop.Stop.{Stop}
use Rattle.server_steps.specs.declared.stop.Stop.TheVariants as stop

module _ {K : Type 0} (shows : K → Shown) (ids : List SyntaxId) where
  -- The connection goes on, and these turns are what was done and answered so far; some octets are still to be put.
  pub record Told (w : Wire K) (turns : List Turn) (waits : Waits) (bound : Bool) (pending : List ℕ) : Type 0 where
    pub events : List Event
    pub state : ConnState
    pub lived : Lived shows ids w events state pending
    pub seen_is : seen events ≡ all_events turns
    pub waits_is : state.waits ≡ waits
    pub bound_is : is_bound state.past ≡ bound
    pub unclosed : list_any closes turns ≡ false

  -- all that was asked has its turn, and all octets were put
  pub record IsThrough (turns : List Turn) (m : ConnState) (pending : List ℕ) : Type 0 where
    pub asked : IsAllAsked m turns
    pub none_left : pending ≡ []

  -- why it doesn't go on
  abbrev pub Causes : Stop → Wire K → List Turn → ConnState → List ℕ → Type 0
  Causes stop.Ended w turns m pending = HasEnded shows ids w × IsAt w.conn m × (list_any closes turns ≡ false) × IsThrough turns m pending
  Causes stop.Failed w turns m pending = HasFailed shows ids w
  Causes (stop.Refused f) w turns m pending = ClosedFor f turns × IsThrough turns m pending
  Causes stop.Memory w turns m pending = ⊤

  -- It doesn't go on. Some octets of its turns may not have been put.
  pub record Halted (w : Wire K) (why : Stop) (turns : List Turn) : Type 0 where
    pub events : List Event
    pub state : ConnState
    pub pending : List ℕ
    pub stopped : Stopped shows ids w events state pending []
    pub seen_is : seen events ≡ all_events turns
    pub cause : Causes why w turns state pending

-- its closed link tells how the connection ended, whatever is served and whatever its turns were, once they are over
abbrev pub ClosesAs : {K : Type 0} → (K → Shown) → Wire K → Stop → K → Ending → Type 0
ClosesAs shows w why k e =
    (ids : List SyntaxId) (home : Home) (c : ℕ) (gone : Bool) (past : List Entry) (turns : List Turn) → Halted shows ids w why turns → StandAll c gone past turns
    → AllByRecursion IsOver turns → EndsAs ids home past turns (shows w.first.value) e (shows k)
