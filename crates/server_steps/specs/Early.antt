-- The states of a connection before it is in a group.
use Rattle.std.specs.Prelude.{◌≡◌, ℕ, Bool, true, false, List, [], ◌∷◌}
use Rattle.std.specs.List.{list_any, AllByRecursion}
use Rattle.rpc_outside.specs.Links.{Shown}
use Rattle.hub_story.specs.Histories.{home_of}
use Rattle.group_hub.specs.declared.pass.Pass.{Pass}
use Rattle.ndr_table.specs.Tables.{TableForm}
use Rattle.manager_api.specs.Answers.{Ans}
use Rattle.manager_api.specs.Calls.{Call}
use Rattle.conn_asks.specs.declared.events.Waits.{Waits}
use Rattle.conn_asks.specs.declared.events.Waits.TheVariants as waits
use Rattle.conn_asks.specs.declared.events.Act.TheVariants as acts
use Rattle.conn_asks.specs.declared.events.ConnFault.{ConnFault}
use Rattle.conn_asks.specs.States.{ConnState, IsGrouping}
use Rattle.conn_histories.specs.Histories.{Event, seen}
use Rattle.server_steps.specs.declared.wire.Wire.{Wire}
use Rattle.server_steps.specs.declared.wire.Heard.{Heard}
use Rattle.server_steps.specs.declared.wire.Heard.TheVariants as heard
use Rattle.server_steps.specs.declared.wire.Fault.TheVariants as fault
use Rattle.server_steps.specs.Wires.{Lived}
use Rattle.conn_histories.specs.Requests.{ids_of}
use Rattle.conn_histories.specs.declared.turn.Turn.{Turn}
use Rattle.conn_histories.specs.declared.turn.Turn.TheVariants.{Binding, Closed}
use Rattle.conn_histories.specs.Events.{all_events}
use Rattle.conn_histories.specs.Stories.{AllDue}
use Rattle.conn_turns.specs.AnswerLaws.{IsOver as IsTurnOver}
use Rattle.conn_turns.specs.Quiet.{IsQuiet}
use Rattle.server_ends.specs.Finishes.{serving, EntersNone, OwnsNoMore, refuses, Refuses}
use Rattle.server_steps.specs.declared.stop.Stop.{Stop}
use Rattle.server_steps.specs.declared.stop.Stop.TheVariants as stop
use Rattle.server_steps.specs.Told.{Told, Halted}

module _ {K : Type 0} (shows : K → Shown) (tables : List TableForm) where
  -- no bind came
  abbrev pub IsEarly : Wire K → Type 0
  IsEarly w = Told shows (ids_of tables) w [] waits.Nothing false []

  -- a bind asks for the group of that id
  pub record AsksGroup (w : Wire K) (asked : ℕ) : Type 0 where
    pub waits : Waits
    pub grouping : IsGrouping waits
    pub told : Told shows (ids_of tables) w (Binding asked ∷ []) waits true []

  -- the connection is closed for a fault, behind other turns, and the octets that say so are to be put
  pub record IsClosing (w : Wire K) (octets : List ℕ) (f : ConnFault) (turns : List Turn) : Type 0 where
    pub events : List Event
    pub state : ConnState
    pub lived : Lived shows (ids_of tables) w events state octets
    pub seen_is : seen events ≡ all_events (Closed octets f ∷ turns)
    pub over : state.waits ≡ waits.Over

  -- behind whatever turns it is closed, it is halted with the last answer among them
  abbrev pub HaltsClosed : Wire K → List ℕ → ConnFault → Stop → Wire K → Type 0
  HaltsClosed a octets f why b = (turns : List Turn) → IsClosing a octets f turns → Halted shows (ids_of tables) b why (Closed octets f ∷ turns)

  abbrev pub HeardEarly : Heard → Wire K → Type 0
  HeardEarly (heard.Does (acts.Group asked)) w = AsksGroup w asked
  HeardEarly (heard.Does (acts.Close octets f)) w = IsClosing w octets f []
  HeardEarly (heard.Does _) w = ⊥
  HeardEarly heard.Nothing w = IsEarly w
  HeardEarly heard.End w = Halted shows (ids_of tables) w stop.Ended []
  HeardEarly (heard.Stop fault.Failed) w = Halted shows (ids_of tables) w stop.Failed []
  HeardEarly (heard.Stop fault.Memory) w = Halted shows (ids_of tables) w stop.Memory []

  -- it ended in no group, and entered nothing but what the refusal of its bind marks
  pub record IsAlone (may : Call → Bool → Ans → Type 0) (boot : ℕ) (p : Pass) (w : Wire K) (q : Pass) (why : Stop) : Type 0 where
    pub enters : EntersNone p q
    pub turns : List Turn
    pub unmarked : list_any refuses turns ≡ false → OwnsNoMore p q
    pub quiet : AllByRecursion IsQuiet turns
    pub over : AllByRecursion IsTurnOver turns
    pub due : AllDue (serving tables may (Refuses boot p q)) (home_of boot 0) 0 [] turns
    pub halted : Halted shows (ids_of tables) w why turns

  -- the same of the pass with which the bind was refused for that reason, whichever it was before
  abbrev pub IsRefusedAlone : (Call → Bool → Ans → Type 0) → ℕ → ℕ → ℕ → Wire K → Pass → Stop → Type 0
  IsRefusedAlone may boot asked reason w q why = (before : Pass) → Refuses boot before q asked reason → IsAlone may boot before w q why
