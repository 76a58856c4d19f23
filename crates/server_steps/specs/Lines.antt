-- The states of a connection that is in a group, between its calls.
use Rattle.std.specs.Prelude.{◌≡◌, ◌≢◌, ℕ, Bool, true, false, None, List, []}
use Rattle.std.specs.List.{AllByRecursion}
use Rattle.rpc_outside.specs.Links.{Shown}
use Rattle.hub_story.specs.Passes.{Serves}
use Rattle.group_hub.specs.declared.hub.Hub.{Hub}
use Rattle.group_hub.specs.declared.pass.Pass.{Pass}
use Rattle.group_hub.specs.Shards.{shard_of}
use Rattle.group_hub.specs.Passes.{IsPassOf, at_shard}
use Rattle.server_ends.specs.Joins.{JoinedAs}
use Rattle.ndr_table.specs.Tables.{TableForm}
use Rattle.manager_api.specs.Answers.{Ans}
use Rattle.manager_api.specs.Calls.{Call}
use Rattle.conn_asks.specs.declared.events.Waits.TheVariants as waits
use Rattle.conn_asks.specs.declared.events.ConnFault.{ConnFault}
use Rattle.conn_histories.specs.Requests.{ids_of}
use Rattle.conn_histories.specs.declared.turn.Turn.{Turn}
use Rattle.conn_histories.specs.Stories.{Server}
use Rattle.conn_turns.specs.Done.{IsDone}
use Rattle.server_ends.specs.Finishes.{serving, never_refused, Refuses}
use Rattle.server_steps.specs.declared.wire.Wire.{Wire}
use Rattle.server_steps.specs.declared.line.Line.{Line}
use Rattle.server_steps.specs.Held.{Held}
use Rattle.server_steps.specs.Told.{Told}
use Rattle.server_steps.specs.Early.{AsksGroup, IsClosing}

-- the same connection on the same link
abbrev pub IsSame : {K : Type 0} → Line K → Line K → Type 0
IsSame old new = (new.began.value ≡ old.began.value) × (new.wire.first.value ≡ old.wire.first.value)

-- a connection is as it was, and its pass has seen why its bind is refused
abbrev pub ComesBack : {K : Type 0} → Hub → Wire K → Pass → ℕ → Wire K → Pass → ℕ → Type 0
ComesBack hub w p asked back q reason = (back ≡ w) × IsPassOf hub q × Refuses hub.boot p q asked reason

module _ {K : Type 0} (shows : K → Shown) (may : Call → Bool → Ans → Type 0) (tables : List TableForm) (hub : Hub) where
  abbrev pub server : Server
  server = serving tables may never_refused

  abbrev pub HeldBy : Line K → Bool → List Turn → Type 0
  HeldBy l gone turns = Held server hub.boot l.began.value l.pass l.group l.number l.retired gone turns

  abbrev pub ServesIn : Line K → Type 0
  ServesIn l = Serves (at_shard l.pass (shard_of l.group)) l.group l.number

  -- it joined a group at a bind that isn't answered yet
  pub record IsJoined (l : Line K) (asked : ℕ) : Type 0 where
    pub pass : IsPassOf hub l.pass
    pub asks : AsksGroup shows tables l.wire asked
    pub known : asked ≢ 0 → l.group ≡ asked
    pub new : asked ≡ 0 → l.number ≡ 1
    pub joined : JoinedAs hub.boot l.began.value asked l.group l.number l.pass
    pub unretired : l.retired ≡ None

  -- it joined on the link of that wire, with that pass at first
  abbrev pub JoinsFrom : Wire K → Pass → ℕ → Line K → Type 0
  JoinsFrom w p asked l = (l.began.value ≡ p) × (l.wire.first.value ≡ w.first.value) × IsJoined l asked

  -- every turn so far is over; some octets are still to be put
  pub record IsIdle (l : Line K) (pending : List ℕ) : Type 0 where
    pub pass : IsPassOf hub l.pass
    pub serves : ServesIn l
    pub turns : List Turn
    pub done : AllByRecursion IsDone turns
    pub held : HeldBy l false turns
    pub told : Told shows (ids_of tables) l.wire turns waits.Nothing true pending

  abbrev pub IsReady : Line K → Type 0
  IsReady l = IsIdle l []

  -- it is to be closed for a fault, behind turns that are over
  pub record IsEnding (l : Line K) (octets : List ℕ) (f : ConnFault) : Type 0 where
    pub pass : IsPassOf hub l.pass
    pub serves : ServesIn l
    pub turns : List Turn
    pub done : AllByRecursion IsDone turns
    pub held : HeldBy l false turns
    pub closing : IsClosing shows tables l.wire octets f turns
