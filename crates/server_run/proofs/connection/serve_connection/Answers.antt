use Rattle.std.proofs.Common.{◌∙◌}
use Rattle.server_run.proofs.Ends.{finishes_same}
use Rattle.server_run.proofs.Having.{over_begins, had_alone}
use Rattle.server_run.proofs.connection.serve_connection.Goals as goal

pub returns-in-Joined-clause-finishes : goal.returns-in-Joined-clause-finishes
returns-in-Joined-clause-finishes g c =
    let l = c.in-Joined.line in
    finishes_same g.K.Link.shows (g.M.Manager.may c.args.manager.now) (g.M.Manager.tables c.args.manager.now) c.args.hub.now.boot l.began.value c.args.pass l.wire.first.value c.args.link c.serve_calls.result.0
    c.in-Joined.ensures.enters.0.0 (c.in-Joined.ensures.enters.0.1 ∙ c.in-Ok-new.ensures.0) c.serve_calls.ensures.over.1

pub returns-in-Joined-clause-had : goal.returns-in-Joined-clause-had
returns-in-Joined-clause-had g c =
    over_begins g.M.Manager.tables g.M.Manager.enters g.M.Manager.runs_down g.M.Manager.splits g.M.Manager.joins c.args.manager.now c.args.hub.now.boot c.in-Joined.line c.args.pass c.args.desks c.serve_calls.result.1 c.serve_calls.result.0
    c.in-Joined.ensures.enters.0.0 c.in-Joined.ensures.quiet c.serve_calls.ensures.on

pub returns-in-Stopped-clause-finishes : goal.returns-in-Stopped-clause-finishes
returns-in-Stopped-clause-finishes g c =
    let l = c.in-Stopped.line in
    finishes_same g.K.Link.shows (g.M.Manager.may c.args.manager.now) (g.M.Manager.tables c.args.manager.now) c.args.hub.now.boot l.began.value c.args.pass l.wire.first.value c.args.link c.finish.result.0
    c.in-Stopped.ensures.enters.0.0 (c.in-Stopped.ensures.enters.0.1 ∙ c.in-Ok-new.ensures.0) c.finish.ensures.finishes

pub returns-in-Stopped-clause-had : goal.returns-in-Stopped-clause-had
returns-in-Stopped-clause-had g c =
    over_begins g.M.Manager.tables g.M.Manager.enters g.M.Manager.runs_down g.M.Manager.splits g.M.Manager.joins c.args.manager.now c.args.hub.now.boot c.in-Stopped.line c.args.pass c.args.desks c.finish.result.1 c.finish.result.0
    c.in-Stopped.ensures.enters.0.0 c.in-Stopped.ensures.quiet c.finish.ensures.on

pub returns-in-Alone-clause-had : goal.returns-in-Alone-clause-had
returns-in-Alone-clause-had g c = had_alone g.M.Manager.tables g.M.Manager.enters g.M.Manager.runs_down g.M.Manager.splits g.M.Manager.joins c.args.manager.now c.args.hub.now.boot c.args.pass c.args.desks c.finish_alone.result c.finish_alone.ensures.alone
