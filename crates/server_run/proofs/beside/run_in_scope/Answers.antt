use Rattle.std.proofs.Common.{ℕ, refl, subst}
use Rattle.conn_histories.specs.Requests.{ids_of}
use Rattle.server_run.proofs.Serving.{departed_so}
use Rattle.server_steps.specs.Deeds.{Quiet}
use Rattle.server_steps.proofs.Dealing.{quiet_then, quiet_same}
use Rattle.server_run.proofs.beside.run_in_scope.Goals as goal

pub returns-in-Stop-clause-runs : goal.returns-in-Stop-clause-runs
returns-in-Stop-clause-runs g c =
    let e = c.leave_running-gone.ensures in (
      departed_so g.K.Link.shows g.M.Manager.may g.M.Manager.tables c.args.server c.args.line c.watch.new.line c.args.running c.args.cookies.now
          (record { gone = c.leave_running-gone.result.0; link = c.close-link.result.0; why = c.in-Stop.why; ending = c.close-link.result.1 }) c.leave_running-gone.result.1 c.in-Stop.ensures.same c.in-Stop.ensures.group e.same.0 e.same.1 e.wire e.group e.gone
          (c.close-link.ensures (ids_of (g.M.Manager.tables c.args.server.manager.now))),
      c.in-There.ensures.starts c.join-worked-in-Stop.result c.join-worked-in-Stop.ensures.0 c.args.cookies.now c.requires.ready.row.row_is c.requires.ready.row.count,
    )

pub returns-in-Stop-clause-quiet : goal.returns-in-Stop-clause-quiet
returns-in-Stop-clause-quiet g c =
    let w = c.in-There.ensures.answers c.join-worked-in-Stop.result c.join-worked-in-Stop.ensures.1 in (
      quiet_then c.args.line.group c.args.line.pass c.watch.new.line.pass c.leave_running-gone.result.0.pass c.in-Stop.ensures.quiet (subst (λ (n : ℕ). Quiet n c.watch.new.line.pass c.leave_running-gone.result.0.pass) c.in-Stop.ensures.group c.leave_running-gone.ensures.quiet),
      (w.0, w.1 c.args.cookies.now c.requires.ready.row.row_is c.requires.ready.row.count),
    )

pub returns-in-Done-clause-runs : goal.returns-in-Done-clause-runs
returns-in-Done-clause-runs g c =
    let e = c.in-Done.ensures in (e.same, e.group, e.watches, c.in-There.ensures.starts c.join-worked.result c.join-worked.ensures.0 c.args.cookies.now c.requires.ready.row.row_is c.requires.ready.row.count)

pub returns-in-Here-clause-quiet : goal.returns-in-Here-clause-quiet
returns-in-Here-clause-quiet g c =
    let w = c.in-Here.ensures.answers in (quiet_same c.args.line.group c.args.line.pass c.args.line.pass refl, (w.0, w.1 c.args.cookies.now c.requires.ready.row.row_is c.requires.ready.row.count))
