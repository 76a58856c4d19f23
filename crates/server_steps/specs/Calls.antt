-- The states of a connection with a request that isn't answered yet.
use Rattle.std.specs.Prelude.{◌≡◌, ◌≢◌, ℕ, ◌+◌, ◌-◌, ◌^◌, ◌<◌, ◌==◌, Bool, true, false, Option, None, List, [], ◌∷◌, ◌++◌, length, filter}
use Rattle.std.specs.List.{list_any, AllByRecursion}
use Rattle.rpc_outside.specs.Links.{Shown}
use Rattle.handle_model.specs.declared.entry.Slot.{Slot}
use Rattle.handle_model.specs.declared.entry.Outcome.{Outcome}
use Rattle.handle_model.specs.declared.entry.Asked.{Asked}
use Rattle.handle_model.specs.declared.entry.Said.{Said}
use Rattle.handle_model.specs.declared.reply.Reply.{Reply}
use Rattle.handle_model.specs.declared.reply.Reply.TheVariants.{Ran, Dropped, Open}
use Rattle.handle_model.specs.Slots.{opens}
use Rattle.handle_model.specs.Rules.{filled, suit}
use Rattle.hub_story.specs.Passes.{HasCall, Runs}
use Rattle.group_hub.specs.declared.hub.Hub.{Hub}
use Rattle.group_hub.specs.Shards.{shard_of}
use Rattle.group_hub.specs.Passes.{IsPassOf, at_shard}
use Rattle.pdu_stream.specs.declared.joined.Joined.{Joined}
use Rattle.ndr_table.specs.Tables.{TableForm}
use Rattle.manager_api.specs.Answers.{Ans}
use Rattle.manager_api.specs.Calls.{Call}
use Rattle.conn_asks.specs.declared.events.Waits.TheVariants as waits
use Rattle.conn_asks.specs.Answers.{FitsStub}
use Rattle.conn_asks.specs.States.{caller_of}
use Rattle.conn_histories.specs.Requests.{ids_of}
use Rattle.conn_histories.specs.Ends.{row_of}
use Rattle.server_calls.specs.Suited.{Opened, suit_cookies}
use Rattle.server_calls.specs.Ready.{request_of}
use Rattle.conn_histories.specs.declared.turn.Off.{Off}
use Rattle.conn_histories.specs.declared.turn.Fate.TheVariants.{Waiting, Running}
use Rattle.conn_histories.specs.declared.turn.Deed.{Deed}
use Rattle.conn_histories.specs.declared.turn.Deed.TheVariants.{Pending, Accepted}
use Rattle.conn_histories.specs.declared.turn.Turn.{Turn}
use Rattle.conn_histories.specs.declared.turn.Turn.TheVariants.{Called}
use Rattle.conn_histories.specs.Entries.{is_orphan, asked_as, deed_open, deed_runs, deed_left, numbers_of}
use Rattle.conn_histories.specs.Events.{deed_reply, word_of, has_run}
use Rattle.conn_turns.specs.Done.{IsDone}
use Rattle.server_steps.specs.declared.line.Line.{Line}
use Rattle.server_steps.specs.Told.{Told}
use Rattle.server_steps.specs.Lines.{HeldBy, ServesIn}

-- a request that isn't answered yet
abbrev pub request : Joined → ℕ → List Off → Deed → Turn
request j iface offs deed = Called (record { joined = j; iface = iface; offs = offs; deed = deed; answer = None })

-- what is answered to a call that ran, unless its client no longer waits for it
abbrev pub ended_reply : Bool → Said → Reply
ended_reply true said = Dropped
ended_reply false said = Ran said

module _ {K : Type 0} (shows : K → Shown) (may : Call → Bool → Ans → Type 0) (tables : List TableForm) (hub : Hub) where
  -- a request isn't answered, of which that was heard, and that entered
  pub record IsCalled (l : Line K) (j : Joined) (iface : ℕ) (heard offs : List Off) (deed : Deed) : Type 0 where
    pub pass : IsPassOf hub l.pass
    pub serves : ServesIn shows may tables hub l
    pub turns : List Turn
    pub done : AllByRecursion IsDone turns
    pub held : HeldBy shows may tables hub l false (request j iface offs deed ∷ turns)
    pub told : Told shows (ids_of tables) l.wire (request j iface heard Pending ∷ turns) (waits.Call (caller_of j) j.maybe) true []

  abbrev pub IsAsking : Line K → Joined → ℕ → Type 0
  IsAsking l j iface = IsCalled l j iface [] [] Pending

  -- its call may be accepted so; its request was marked to be cancelled or not
  pub record IsPrepared (l : Line K) (a : Asked) (marked : Bool) : Type 0 where
    pub j : Joined
    pub iface : ℕ
    pub called : IsAsking l j iface
    pub asked : a ≡ asked_as l.number (request_of j iface) a.slots
    pub opened : Opened tables a.iface a.op a.order a.stub a.slots
    pub marked_is : j.cancel ≡ marked

  -- its call k waits, which asks that, with the slots numbered
  pub record IsWaiting (l : Line K) (k : ℕ) (a : Asked) : Type 0 where
    pub j : Joined
    pub iface : ℕ
    pub slots : List Slot
    pub called : IsCalled l j iface [] [] (Accepted k slots Waiting)
    pub has : HasCall (at_shard l.pass (shard_of l.group)) l.group l.number k
    pub apart : AllByRecursion (λ m. (k == m) ≡ false) (numbers_of called.turns)
    pub unmarked : j.cancel ≡ false
    pub asked : a ≡ asked_as l.number (request_of j iface) a.slots
    pub opened : Opened tables a.iface a.op a.order a.stub a.slots
    pub before : ℕ
    pub numbered : slots ≡ filled before a.slots
    pub fits : before + length (filter opens a.slots) < 2 ^ 32

  -- its call waits, and it was heard that it is called off
  pub record IsCalledOff (l : Line K) (k : ℕ) (o : Off) : Type 0 where
    pub j : Joined
    pub iface : ℕ
    pub slots : List Slot
    pub called : IsCalled l j iface (o ∷ []) [] (Accepted k slots Waiting)
    pub has : HasCall (at_shard l.pass (shard_of l.group)) l.group l.number k
    pub apart : AllByRecursion (λ m. (k == m) ≡ false) (numbers_of called.turns)
    pub unmarked : j.cancel ≡ false

  -- Its call runs with these cookies, which asks that, with the slots numbered. What was heard that calls it off has been entered, but
  -- for `more`, and by what was entered its client still waits for it or not.
  pub record IsUnderWay (l : Line K) (k : ℕ) (a : Asked) (cookies : List (Option ℕ)) (orphaned : Bool) (more : List Off) : Type 0 where
    pub j : Joined
    pub iface : ℕ
    pub offs : List Off
    pub called : IsCalled l j iface (more ++ offs) offs (Accepted k a.slots (Running cookies))
    pub has : HasCall (at_shard l.pass (shard_of l.group)) l.group l.number k
    pub apart : AllByRecursion (λ m. (k == m) ≡ false) (numbers_of called.turns)
    pub unmarked : j.cancel ≡ false
    pub asked : a ≡ asked_as l.number (request_of j iface) a.slots
    pub runs : (results : List Outcome) → suit a.slots results ≡ true → Runs (at_shard l.pass (shard_of l.group)) l.group k results
    pub orphaned_is : list_any is_orphan offs ≡ orphaned

  -- its call runs, and all that was heard has been entered
  abbrev pub IsRunning : Line K → ℕ → Asked → List (Option ℕ) → Bool → Type 0
  IsRunning l k a cookies orphaned = IsUnderWay l k a cookies orphaned []

  -- its call runs, and it was heard that it is called off once more
  abbrev pub IsMarked : Line K → ℕ → Asked → List (Option ℕ) → Bool → Off → Type 0
  IsMarked l k a cookies orphaned o = IsUnderWay l k a cookies orphaned (o ∷ [])

  -- its call was taken with the cookies of that row, and its handles are numbered from that serial on
  pub record IsTaken (l : Line K) (k : ℕ) (a : Asked) (row : List (Option ℕ)) (serial : ℕ) : Type 0 where
    pub cookies : List (Option ℕ)
    pub running : IsRunning l k (record a { slots = filled (serial - 1) a.slots }) cookies false
    pub opened : Opened tables a.iface a.op a.order a.stub a.slots
    pub fits : (serial - 1) + length (filter opens a.slots) < 2 ^ 32
    pub row_is : row ≡ row_of cookies
    pub suits : suit_cookies (filled (serial - 1) a.slots) cookies ≡ true

  -- the request has its entries, and is to be answered so
  pub record IsSettled (l : Line K) (reply : Reply) : Type 0 where
    pub j : Joined
    pub iface : ℕ
    pub offs : List Off
    pub deed : Deed
    pub called : IsCalled l j iface offs offs deed
    pub not_open : deed_open deed ≡ false
    pub not_running : deed_runs deed ≡ false
    pub not_left : deed_left deed ≡ false
    pub reply_is : deed_reply offs deed ≡ reply
    pub known : reply ≢ Open

  -- that is what its reply says
  pub record Says (l : Line K) (said : Option Said) (executed : Bool) : Type 0 where
    pub reply : Reply
    pub settled : IsSettled l reply
    pub said_is : word_of reply ≡ said
    pub executed_is : has_run reply ≡ executed
    pub fits : FitsStub said
