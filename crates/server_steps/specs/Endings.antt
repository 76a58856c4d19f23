-- Where a connection doesn't go on.
use Rattle.std.specs.Prelude.{◌≡◌, ℕ, ◌==◌, Bool, true, false, Option, List, [], ◌∷◌, ◌⊎◌}
use Rattle.std.specs.List.{list_any, AllByRecursion}
use Rattle.rpc_outside.specs.Links.{Shown}
use Rattle.handle_model.specs.declared.entry.Slot.{Slot}
use Rattle.handle_model.specs.declared.entry.Outcome.{Outcome}
use Rattle.handle_model.specs.declared.entry.Asked.{Asked}
use Rattle.handle_model.specs.Rules.{suit}
use Rattle.hub_story.specs.Passes.{Runs}
use Rattle.group_hub.specs.declared.hub.Hub.{Hub}
use Rattle.group_hub.specs.Shards.{shard_of}
use Rattle.group_hub.specs.Passes.{IsPassOf, at_shard}
use Rattle.pdu_stream.specs.declared.joined.Joined.{Joined}
use Rattle.ndr_table.specs.Tables.{TableForm}
use Rattle.manager_api.specs.Answers.{Ans}
use Rattle.manager_api.specs.Calls.{Call}
use Rattle.conn_histories.specs.Requests.{ids_of}
use Rattle.server_calls.specs.Ready.{request_of}
use Rattle.conn_histories.specs.declared.turn.Off.{Off}
use Rattle.conn_histories.specs.declared.turn.Fate.TheVariants.{Waiting, Running, LeftWaiting, LeftRunning}
use Rattle.conn_histories.specs.declared.turn.Deed.{Deed}
use Rattle.conn_histories.specs.declared.turn.Deed.TheVariants.{Accepted}
use Rattle.conn_histories.specs.declared.turn.Turn.{Turn}
use Rattle.conn_histories.specs.Entries.{asked_as, turn_runs, numbers_of}
use Rattle.conn_turns.specs.AnswerLaws.{IsOver as IsTurnOver}
use Rattle.conn_turns.specs.Done.{IsDone}
use Rattle.server_steps.specs.declared.line.Line.{Line}
use Rattle.server_steps.specs.declared.gone.Gone.{Gone}
use Rattle.server_steps.specs.declared.stop.Stop.{Stop}
use Rattle.server_steps.specs.Held.{Held}
use Rattle.server_steps.specs.Told.{Halted}
use Rattle.server_steps.specs.Lines.{server, HeldBy, ServesIn}
use Rattle.server_steps.specs.Calls.{request}

module _ {K : Type 0} (shows : K → Shown) (may : Call → Bool → Ans → Type 0) (tables : List TableForm) (hub : Hub) where
  -- no call is open
  pub record IsOver (l : Line K) (why : Stop) : Type 0 where
    pub pass : IsPassOf hub l.pass
    pub serves : ServesIn shows may tables hub l
    pub turns : List Turn
    pub done : AllByRecursion IsDone turns
    pub held : HeldBy shows may tables hub l false turns
    pub halted : Halted shows (ids_of tables) l.wire why turns

  -- a call waits, and will have been left
  pub record IsCutOff (l : Line K) (why : Stop) : Type 0 where
    pub pass : IsPassOf hub l.pass
    pub serves : ServesIn shows may tables hub l
    pub j : Joined
    pub iface : ℕ
    pub k : ℕ
    pub slots : List Slot
    pub turns : List Turn
    pub done : AllByRecursion IsDone turns
    pub unmarked : j.cancel ≡ false
    pub held : HeldBy shows may tables hub l false (request j iface [] (Accepted k slots Waiting) ∷ turns)
    pub halted : Halted shows (ids_of tables) l.wire why (request j iface [] (Accepted k slots LeftWaiting) ∷ turns)

  -- a call runs, and will have been left, whatever becomes of it
  pub record IsCutRunning (l : Line K) (why : Stop) (k : ℕ) (a : Asked) (cookies : List (Option ℕ)) : Type 0 where
    pub pass : IsPassOf hub l.pass
    pub serves : ServesIn shows may tables hub l
    pub j : Joined
    pub iface : ℕ
    pub offs : List Off
    pub turns : List Turn
    pub done : AllByRecursion IsDone turns
    pub apart : AllByRecursion (λ m. (k == m) ≡ false) (numbers_of turns)
    pub unmarked : j.cancel ≡ false
    pub asked : a ≡ asked_as l.number (request_of j iface) a.slots
    pub runs : (results : List Outcome) → suit a.slots results ≡ true → Runs (at_shard l.pass (shard_of l.group)) l.group k results
    pub held : HeldBy shows may tables hub l false (request j iface offs (Accepted k a.slots (Running cookies)) ∷ turns)
    pub halted : (deed : Deed) → Halted shows (ids_of tables) l.wire why (request j iface offs deed ∷ turns)

  -- it has left its group, and its call still runs
  pub record IsGone (m : Gone K) (why : Stop) (k : ℕ) (a : Asked) (cookies : List (Option ℕ)) : Type 0 where
    pub pass : IsPassOf hub m.pass
    pub j : Joined
    pub iface : ℕ
    pub offs : List Off
    pub turns : List Turn
    pub done : AllByRecursion IsDone turns
    pub apart : AllByRecursion (λ n. (k == n) ≡ false) (numbers_of turns)
    pub asked : a ≡ asked_as m.number (request_of j iface) a.slots
    pub runs : (results : List Outcome) → suit a.slots results ≡ true → Runs (at_shard m.pass (shard_of m.group)) m.group k results
    pub held : Held (server shows may tables hub) hub.boot m.began.value m.pass m.group m.number m.retired true (request j iface offs (Accepted k a.slots (LeftRunning cookies)) ∷ turns)
    pub halted : (deed : Deed) → Halted shows (ids_of tables) m.wire.value why (request j iface offs deed ∷ turns)

  -- and its call has ended
  pub record HasEnded (m : Gone K) (why : Stop) : Type 0 where
    pub pass : IsPassOf hub m.pass
    pub turns : List Turn
    pub over : AllByRecursion IsTurnOver turns
    pub none_runs : list_any turn_runs turns ≡ false
    pub held : Held (server shows may tables hub) hub.boot m.began.value m.pass m.group m.number m.retired true turns
    pub halted : Halted shows (ids_of tables) m.wire.value why turns

  abbrev pub IsStopping : Line K → Stop → Type 0
  IsStopping l why = IsOver l why ⊎ IsCutOff l why

  -- it has left its group
  pub record IsLeft (l : Line K) (why : Stop) : Type 0 where
    pub pass : IsPassOf hub l.pass
    pub turns : List Turn
    pub over : AllByRecursion IsTurnOver turns
    pub none_runs : list_any turn_runs turns ≡ false
    pub held : HeldBy shows may tables hub l true turns
    pub halted : Halted shows (ids_of tables) l.wire why turns
