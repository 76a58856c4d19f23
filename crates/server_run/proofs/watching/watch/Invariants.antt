use Rattle.std.proofs.Common.{◌≡◌}
use Rattle.server_steps.specs.Lines.{IsSame}
use Rattle.server_steps.specs.Calls.{IsRunning}
use Rattle.server_steps.specs.Deeds.{Quiet}
use Rattle.server_run.proofs.watching.watch.Given as goal

abbrev pub invariant-loop : goal.invariant-loop
invariant-loop g l =
    IsSame l.initial.line l.line × (l.line.group ≡ l.initial.line.group) × IsRunning g.K.Link.shows (g.M.Manager.may l.server.manager.now) (g.M.Manager.tables l.server.manager.now) l.server.hub.now l.line l.running.call l.running.asked.now l.cookies l.orphaned
    × Quiet l.initial.line.group l.initial.line.pass l.line.pass
