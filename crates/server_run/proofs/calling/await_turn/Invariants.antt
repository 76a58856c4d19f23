use Rattle.std.proofs.Common.{◌≡◌}
use Rattle.server_steps.specs.Deeds.{Quiet}
use Rattle.server_steps.specs.Lines.{IsSame}
use Rattle.server_steps.specs.Calls.{IsWaiting}
use Rattle.server_run.proofs.calling.await_turn.Given as goal

abbrev pub invariant-loop : goal.invariant-loop
invariant-loop g l =
    IsSame l.initial.line l.line × (l.line.group ≡ l.initial.line.group) × Quiet l.initial.line.group l.initial.line.pass l.line.pass
    × IsWaiting g.K.Link.shows (g.M.Manager.may l.server.manager.now) (g.M.Manager.tables l.server.manager.now) l.server.hub.now l.line l.call l.asked
