-- What a connection hears, and what its steps lead to.
use Rattle.std.specs.Prelude.{ℕ, Bool, Option, Result, Ok, Err, List}
use Rattle.rpc_base.specs.declared.identifiers.Status.{Status}
use Rattle.rpc_outside.specs.Links.{Shown}
use Rattle.handle_model.specs.declared.entry.Asked.{Asked}
use Rattle.handle_model.specs.declared.reply.Reply.TheVariants.{Never}
use Rattle.handle_model.specs.Replies.{context_mismatch}
use Rattle.group_core.specs.declared.answer.Taking.{Taking}
use Rattle.group_core.specs.declared.answer.Taking.TheVariants as taking
use Rattle.group_hub.specs.declared.hub.Hub.{Hub}
use Rattle.ndr_table.specs.Tables.{TableForm}
use Rattle.manager_api.specs.Answers.{Ans}
use Rattle.manager_api.specs.Calls.{Call}
use Rattle.conn_asks.specs.declared.events.Act.TheVariants as acts
use Rattle.server_steps.specs.declared.wire.Heard.{Heard}
use Rattle.server_steps.specs.declared.wire.Heard.TheVariants as heard
use Rattle.server_steps.specs.declared.wire.Fault.TheVariants as fault
use Rattle.conn_histories.specs.declared.turn.Off.TheVariants as off
use Rattle.server_steps.specs.declared.line.Line.{Line}
use Rattle.server_steps.specs.declared.stop.Stop.{Stop}
use Rattle.server_steps.specs.declared.stop.Stop.TheVariants as stop
use Rattle.server_steps.specs.Lines.{IsIdle, IsReady, IsEnding}
use Rattle.server_steps.specs.Calls.{IsAsking, IsWaiting, IsCalledOff, IsRunning, IsMarked, IsTaken, IsSettled}
use Rattle.server_steps.specs.Endings.{IsCutRunning, IsStopping}

module _ {K : Type 0} (shows : K → Shown) (may : Call → Bool → Ans → Type 0) (tables : List TableForm) (hub : Hub) where
  abbrev pub HeardReady : Heard → Line K → Type 0
  HeardReady (heard.Does (acts.Answer octets)) l = IsIdle shows may tables hub l octets
  HeardReady (heard.Does (acts.Call j iface)) l = IsAsking shows may tables hub l j iface
  HeardReady (heard.Does (acts.Close octets f)) l = IsEnding shows may tables hub l octets f
  HeardReady (heard.Does _) l = ⊥
  HeardReady heard.Nothing l = IsReady shows may tables hub l
  HeardReady heard.End l = IsStopping shows may tables hub l stop.Ended
  HeardReady (heard.Stop fault.Failed) l = IsStopping shows may tables hub l stop.Failed
  HeardReady (heard.Stop fault.Memory) l = IsStopping shows may tables hub l stop.Memory

  abbrev pub HeardWaiting : ℕ → Asked → Heard → Line K → Type 0
  HeardWaiting k a (heard.Does (acts.Cancel id)) l = IsCalledOff shows may tables hub l k off.Cancel
  HeardWaiting k a (heard.Does (acts.Orphan id)) l = IsCalledOff shows may tables hub l k off.Orphan
  HeardWaiting k a (heard.Does _) l = ⊥
  HeardWaiting k a heard.Nothing l = IsWaiting shows may tables hub l k a
  HeardWaiting k a heard.End l = IsStopping shows may tables hub l stop.Ended
  HeardWaiting k a (heard.Stop fault.Failed) l = IsStopping shows may tables hub l stop.Failed
  HeardWaiting k a (heard.Stop fault.Memory) l = IsStopping shows may tables hub l stop.Memory

  abbrev pub HeardRunning : ℕ → Asked → List (Option ℕ) → Bool → Heard → Line K → Type 0
  HeardRunning k a cookies orphaned (heard.Does (acts.Cancel id)) l = IsMarked shows may tables hub l k a cookies orphaned off.Cancel
  HeardRunning k a cookies orphaned (heard.Does (acts.Orphan id)) l = IsMarked shows may tables hub l k a cookies orphaned off.Orphan
  HeardRunning k a cookies orphaned (heard.Does _) l = ⊥
  HeardRunning k a cookies orphaned heard.Nothing l = IsRunning shows may tables hub l k a cookies orphaned
  HeardRunning k a cookies orphaned heard.End l = IsCutRunning shows may tables hub l stop.Ended k a cookies
  HeardRunning k a cookies orphaned (heard.Stop fault.Failed) l = IsCutRunning shows may tables hub l stop.Failed k a cookies
  HeardRunning k a cookies orphaned (heard.Stop fault.Memory) l = IsCutRunning shows may tables hub l stop.Memory k a cookies

  -- it goes on, or stops
  abbrev pub GoesOn : Result Unit Stop → Line K → Type 0
  GoesOn (Ok _) l = IsReady shows may tables hub l
  GoesOn (Err why) l = IsStopping shows may tables hub l why

  -- its call waits, or the request is refused with that status
  abbrev pub AcceptsSo : Asked → Result ℕ Status → Line K → Type 0
  AcceptsSo a (Ok k) l = IsWaiting shows may tables hub l k a
  AcceptsSo a (Err status) l = IsSettled shows may tables hub l (Never status)

  abbrev pub TakesSo : ℕ → Asked → Taking → Line K → Type 0
  TakesSo k a (taking.Run row serial) l = IsTaken shows may tables hub l k a row serial
  TakesSo k a (taking.Denied slot) l = IsSettled shows may tables hub l (Never context_mismatch)
  TakesSo k a taking.Dropped l = ⊥
  TakesSo k a (taking.Wait m) l = IsWaiting shows may tables hub l k a
