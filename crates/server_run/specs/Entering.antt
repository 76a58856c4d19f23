-- What became of a new connection, of a call that waits, and of a call that ran.
use Rattle.std.specs.Prelude.{◌≡◌, Bool, ℕ, List}
use Rattle.rpc_outside.specs.Links.{Shown}
use Rattle.handle_model.specs.declared.entry.Asked.{Asked}
use Rattle.group_hub.specs.declared.hub.Hub.{Hub}
use Rattle.group_hub.specs.declared.pass.Pass.{Pass}
use Rattle.group_hub.specs.Passes.{IsPassOf}
use Rattle.ndr_table.specs.Tables.{TableForm}
use Rattle.manager_api.specs.Answers.{Ans}
use Rattle.manager_api.specs.Calls.{Call}
use Rattle.conn_asks.specs.Answers.{FitsStub}
use Rattle.conn_histories.specs.Events.{word_of}
use Rattle.server_steps.specs.declared.working.Server.{Server}
use Rattle.server_ends.specs.declared.ended.Finished.{Finished}
use Rattle.server_ends.specs.Finishes.{Finishes}
use Rattle.server_steps.specs.declared.wire.Wire.{Wire}
use Rattle.server_steps.specs.declared.stop.Stop.{Stop}
use Rattle.server_steps.specs.declared.line.Line.{Line}
use Rattle.server_steps.specs.Early.{IsAlone}
use Rattle.server_steps.specs.Lines.{IsReady}
use Rattle.server_steps.specs.Calls.{IsSettled, IsTaken}
use Rattle.server_steps.specs.Endings.{IsStopping}
use Rattle.server_run.specs.declared.binding.Entered.{Entered as EnteredAs}
use Rattle.server_run.specs.declared.binding.Entered.TheVariants.{Joined, Stopped, Alone}
use Rattle.server_run.specs.declared.calling.Awaited.{Awaited}
use Rattle.server_run.specs.declared.calling.Awaited.TheVariants as awaited

-- the line began with that pass and on that link
abbrev pub BeganAs : {K : Type 0} → Pass → K → Line K → Type 0
BeganAs p first l = (l.began.value ≡ p) × (l.wire.first.value ≡ first)

module _ {K : Type 0} (shows : K → Shown) (may : Call → Bool → Ans → Type 0) (tables : List TableForm) (hub : Hub) where
  abbrev pub Enters : Pass → K → EnteredAs K → Type 0
  Enters p first (Joined l) = BeganAs p first l × IsReady shows may tables hub l
  Enters p first (Stopped l why) = BeganAs p first l × IsStopping shows may tables hub l why
  Enters p first (Alone w q why) = (w.first.value ≡ first) × IsPassOf hub q × IsAlone shows tables may hub.boot p w q why

  -- what a connection of no group comes to, with whatever pass it began
  abbrev pub FinishesAlone : Wire K → Pass → Stop → Finished K → Type 0
  FinishesAlone w q why r = (before : Pass) → IsAlone shows tables may hub.boot before w q why → Finishes shows may tables hub.boot before (shows w.first.value) r

module _ {K M : Type 0} (shows : K → Shown) (may : M → Call → Bool → Ans → Type 0) (tables : M → List TableForm) (s : Server M) where
  abbrev pub Awaits : ℕ → Asked → Awaited → Line K → Type 0
  Awaits k a (awaited.Run row serial) l = IsTaken shows (may s.manager.now) (tables s.manager.now) s.hub.now l k a row serial
  Awaits k a (awaited.Told reply) l = IsSettled shows (may s.manager.now) (tables s.manager.now) s.hub.now l reply × FitsStub (word_of reply)
  Awaits k a (awaited.Stop why) l = IsStopping shows (may s.manager.now) (tables s.manager.now) s.hub.now l why
