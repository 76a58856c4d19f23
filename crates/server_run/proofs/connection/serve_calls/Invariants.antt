use Rattle.server_steps.specs.Lines.{IsSame, IsReady}
use Rattle.server_run.specs.Deeds.{LineOn}
use Rattle.server_run.proofs.connection.serve_calls.Given as goal

abbrev pub invariant-loop : goal.invariant-loop
invariant-loop g l =
    IsSame l.initial.line l.line × IsReady g.K.Link.shows (g.M.Manager.may l.server.manager.now) (g.M.Manager.tables l.server.manager.now) l.server.hub.now l.line
    × g.M.Manager.is_pass l.server.manager.now l.desks
    × LineOn g.M.Manager.tables g.M.Manager.enters g.M.Manager.runs_down g.M.Manager.splits g.M.Manager.joins l.server.manager.now l.server.hub.now.boot l.initial.line l.initial.desks l.line l.desks
