-- What becomes of a connection while its call runs, and of one round of it.
use Rattle.std.specs.Prelude.{◌≡◌, Bool, false, ℕ, Option, List, length}
use Rattle.std.specs.List.{AllByRecursion}
use Rattle.rpc_outside.specs.Links.{Shown}
use Rattle.handle_model.specs.declared.entry.Home.{Home}
use Rattle.handle_model.specs.declared.entry.Asked.{Asked}
use Rattle.handle_model.specs.declared.entry.Entry.{Entry}
use Rattle.group_hub.specs.declared.hub.Hub.{Hub}
use Rattle.group_hub.specs.Passes.{IsPassOf}
use Rattle.ndr_table.specs.Tables.{TableForm}
use Rattle.manager_api.specs.Answers.{Ans}
use Rattle.manager_api.specs.Calls.{Call}
use Rattle.conn_asks.specs.Answers.{FitsStub}
use Rattle.server_steps.specs.declared.wire.Wire.{Wire}
use Rattle.conn_histories.specs.Requests.{IsAsked, ids_of}
use Rattle.conn_histories.specs.Ends.{row_of}
use Rattle.manager_api.specs.Served.{tables_in}
use Rattle.ndr_value.specs.Values.{msg}
use Rattle.conn_histories.specs.declared.turn.Turn.{Turn}
use Rattle.conn_histories.specs.Events.{word_of}
use Rattle.conn_histories.specs.Tales.{StandAll}
use Rattle.conn_turns.specs.AnswerLaws.{IsOver as IsTurnOver}
use Rattle.server_steps.specs.declared.working.RunningCall.{RunningCall}
use Rattle.server_steps.specs.declared.working.Server.{Server}
use Rattle.server_steps.specs.declared.working.Task.{Task}
use Rattle.server_steps.specs.declared.working.Worked.{Worked}
use Rattle.server_steps.specs.Works.{Serves, IsReadyToRun, Works, WorksBy, Keeps}
use Rattle.server_ends.specs.declared.ended.Ending.{Ending}
use Rattle.server_ends.specs.declared.ended.Finished.{Finished}
use Rattle.server_ends.specs.Endings.{EndsAs}
use Rattle.server_ends.specs.Finishes.{Finishes}
use Rattle.server_steps.specs.declared.line.Line.{Line}
use Rattle.server_steps.specs.declared.stop.Stop.{Stop}
use Rattle.server_steps.specs.Told.{Halted}
use Rattle.server_steps.specs.Lines.{IsSame, IsReady}
use Rattle.server_steps.specs.Calls.{IsRunning, IsTaken, IsSettled}
use Rattle.server_steps.specs.Endings.{IsCutRunning, IsGone, IsStopping}
use Rattle.server_run.specs.declared.watching.Watched.{Watched}
use Rattle.server_run.specs.declared.watching.Watched.TheVariants as watched
use Rattle.server_run.specs.declared.beside.Departed.{Departed}
use Rattle.server_run.specs.declared.beside.Started.{Started}
use Rattle.server_run.specs.declared.beside.Started.TheVariants as started
use Rattle.server_run.specs.declared.beside.Beside.{Beside}
use Rattle.server_run.specs.declared.beside.Beside.TheVariants as beside
use Rattle.server_run.specs.declared.running.TakenCall.{TakenCall}
use Rattle.server_run.specs.declared.running.Ran.{Ran}
use Rattle.server_run.specs.declared.running.Ran.TheVariants as ran
use Rattle.server_run.specs.declared.calling.Went.{Went}
use Rattle.server_run.specs.declared.calling.Went.TheVariants as went

-- these are the first cookies of the row, one for each slot
pub record IsRow (a : Asked) (cookies row : List (Option ℕ)) : Type 0 where
  pub row_is : row ≡ row_of cookies
  pub count : length cookies ≡ length a.slots

-- the call was worked off, or will be
abbrev pub StartsSo : {M P : Type 0} → (M → List TableForm) → (M → Call → Bool → Ans → Type 0) → Server M → RunningCall → Started M P → Type 0
StartsSo {P = P} tables may s c (started.There child) = (r : Worked P) → Keeps tables may child.promise r → WorksBy tables may s c r
StartsSo tables may s c (started.Here r) = WorksBy tables may s c r

-- the call was worked off with the cookies of that row
abbrev pub WorksByRow : {M P : Type 0} → (M → List TableForm) → (M → Call → Bool → Ans → Type 0) → M → Hub → ℕ → ℕ → Asked → List (Option ℕ) → Worked P → Type 0
WorksByRow tables may m hub g k a row r = (cookies : List (Option ℕ)) → row ≡ row_of cookies → length cookies ≡ length a.slots → Works (tables m) (may m) hub g k a cookies r

module _ {K : Type 0} (shows : K → Shown) (tables : List TableForm) where
  -- what a closed link tells of a connection, whose turns are over
  abbrev pub Closing : Wire K → Stop → K → Ending → Type 0
  Closing w why k e =
      (home : Home) (c : ℕ) (gone : Bool) (past : List Entry) (turns : List Turn) → Halted shows (ids_of tables) w why turns → StandAll c gone past turns → AllByRecursion IsTurnOver turns
      → EndsAs (ids_of tables) home past turns (shows w.first.value) e (shows k)

module _ {K M : Type 0} (shows : K → Shown) (may : M → Call → Bool → Ans → Type 0) (tables : M → List TableForm) (s : Server M) where
  -- ---- a call that was taken

  -- both messages that were made ready for it are its
  pub record IsTakenWith (l : Line K) (t : TakenCall) : Type 0 where
    pub served : Serves tables s
    pub taken : IsTaken shows (may s.manager.now) (tables s.manager.now) s.hub.now l t.call t.asked t.row t.serial
    pub message : IsAsked (tables_in s.served.now) t.asked.iface t.asked.op t.asked.order t.asked.stub (msg t.message)
    pub again : IsAsked (tables_in s.served.now) t.asked.iface t.asked.op t.asked.order t.asked.stub (msg t.again)

  -- its cookies are those of its row, and it is ready to be run
  pub record IsToRun {P : Type 0} (l : Line K) (c : RunningCall) (cookies : List (Option ℕ)) (t : Task P) : Type 0 where
    pub running : IsRunning shows (may s.manager.now) (tables s.manager.now) s.hub.now l c.call c.asked.now cookies false
    pub row : IsRow c.asked.now cookies c.row
    pub ready : IsReadyToRun tables s c t

  -- ---- while it runs

  abbrev pub Watches : RunningCall → List (Option ℕ) → Watched → Line K → Type 0
  Watches c cookies (watched.Done orphaned) l = IsRunning shows (may s.manager.now) (tables s.manager.now) s.hub.now l c.call c.asked.now cookies orphaned
  Watches c cookies (watched.Stop why) l = IsCutRunning shows (may s.manager.now) (tables s.manager.now) s.hub.now l why c.call c.asked.now cookies

  -- It left its group, and its link is closed. Its call still runs.
  pub record HasDeparted (old : Line K) (c : RunningCall) (cookies : List (Option ℕ)) (d : Departed K) : Type 0 where
    pub began : d.gone.began.value ≡ old.began.value
    pub first : d.gone.wire.value.first.value ≡ old.wire.first.value
    pub group : d.gone.group ≡ old.group
    pub gone : IsGone shows (may s.manager.now) (tables s.manager.now) s.hub.now d.gone d.why c.call c.asked.now cookies
    pub closing : Closing shows (tables s.manager.now) d.gone.wire.value d.why d.link d.ending

  -- the call was worked off
  abbrev pub RunsBeside : {P : Type 0} → Line K → RunningCall → List (Option ℕ) → Beside K P → Type 0
  RunsBeside old c cookies (beside.On l orphaned worked) =
      IsSame old l × (l.group ≡ old.group) × IsRunning shows (may s.manager.now) (tables s.manager.now) s.hub.now l c.call c.asked.now cookies orphaned
      × Works (tables s.manager.now) (may s.manager.now) s.hub.now c.group c.call c.asked.now cookies worked
  RunsBeside old c cookies (beside.Left d worked) = HasDeparted old c cookies d × Works (tables s.manager.now) (may s.manager.now) s.hub.now c.group c.call c.asked.now cookies worked

  -- ---- over

  -- what the connection came to, from its first octet on
  abbrev pub IsOverFrom : Line K → Finished K → Type 0
  IsOverFrom old r = IsPassOf s.hub.now r.pass × Finishes shows (may s.manager.now) (tables s.manager.now) s.hub.now.boot old.began.value (shows old.wire.first.value) r

  abbrev pub RunsTo : Line K → Ran K → Type 0
  RunsTo old (ran.On l reply) = IsSame old l × IsSettled shows (may s.manager.now) (tables s.manager.now) s.hub.now l reply × FitsStub (word_of reply)
  RunsTo old (ran.Over r) = IsOverFrom old r

  -- one round: it goes on, it doesn't, or it is over
  abbrev pub Goes : Line K → Went K → Type 0
  Goes old (went.On l) = IsSame old l × IsReady shows (may s.manager.now) (tables s.manager.now) s.hub.now l
  Goes old (went.Stop l why) = IsSame old l × IsStopping shows (may s.manager.now) (tables s.manager.now) s.hub.now l why
  Goes old (went.Drop l why k) = IsSame old l × IsStopping shows (may s.manager.now) (tables s.manager.now) s.hub.now l why
  Goes old (went.Over r) = IsOverFrom old r
