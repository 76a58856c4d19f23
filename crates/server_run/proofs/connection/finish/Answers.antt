use Rattle.std.proofs.Common.{ℕ, Some, sym, subst}
use Rattle.conn_histories.specs.Requests.{ids_of}
use Rattle.server_steps.specs.Deeds.{Since}
use Rattle.server_run.proofs.Ends.{ends_member, finishes_same}
use Rattle.server_run.proofs.connection.finish.Goals as goal

pub returns-clause-finishes : goal.returns-clause-finishes
returns-clause-finishes g c =
    let shows = g.K.Link.shows in
    let may = g.M.Manager.may c.args.manager.now in
    let tables = g.M.Manager.tables c.args.manager.now in
    let l = c.leave-desks.new.self in
    finishes_same shows may tables c.args.hub.now.boot l.began.value c.args.line.began.value l.wire.first.value c.args.line.wire.first.value
    (record { link = c.close-link.result.0; pass = l.pass; joined = Some (l.group, l.number); ending = c.close-link.result.1; retired = l.retired }) c.leave-desks.ensures.same.0 c.leave-desks.ensures.same.1
    (ends_member shows may tables c.args.hub.now l c.args.why c.close-link.result.0 c.close-link.result.1 c.leave-desks.ensures.left (c.close-link.ensures (ids_of tables)))

pub returns-clause-on : goal.returns-clause-on
returns-clause-on g c = λ first h.
    let l = c.leave-desks.new.self in
    subst (λ (n : ℕ). Since g.M.Manager.tables g.M.Manager.enters g.M.Manager.runs_down g.M.Manager.splits g.M.Manager.joins c.args.manager.now c.args.hub.now.boot n c.args.line.began.value first l.pass c.leave-desks.result) (sym c.leave-desks.ensures.group) (c.leave-desks.ensures.carries first h)
