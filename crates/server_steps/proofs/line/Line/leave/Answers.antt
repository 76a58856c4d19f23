use Rattle.std.proofs.Common.{sym, subst}
use Rattle.server_steps.specs.Endings.{IsLeft}
use Rattle.server_steps.proofs.LeaveLemmas.{serves_stopping, left_as}
use Rattle.server_steps.proofs.Dealing.{left_had}
use Rattle.server_steps.proofs.line.Line.leave.Goals as goal

pub leave-rest-requires-clause-serves : goal.leave-rest-requires-clause-serves
leave-rest-requires-clause-serves g c =
    serves_stopping g.K.Link.shows (g.M.Manager.may c.args.manager.now) (g.M.Manager.tables c.args.manager.now) c.args.hub.now c.args.self.now c.args._why c.requires.stopping

pub returns-clause-left : goal.returns-clause-left
returns-clause-left g c =
    subst (λ z. IsLeft g.K.Link.shows (g.M.Manager.may c.args.manager.now) (g.M.Manager.tables c.args.manager.now) c.args.hub.now (record c.args.self.now { pass = c.settle-desks.new.pass; retired = z }) c.args._why) (sym c.settle-desks.ensures.retired)
    (left_as g.K.Link.shows (g.M.Manager.may c.args.manager.now) (g.M.Manager.tables c.args.manager.now) c.args.hub.now c.args.self.now c.leave-rest.new.pass c.settle-desks.new.pass c.args._why c.leave-rest.result
    c.leave-rest.ensures.call c.settle-desks.ensures.settles c.settle-desks.ensures.pass c.requires.stopping)

pub returns-clause-carries : goal.returns-clause-carries
returns-clause-carries g c = λ first h.
    let m = c.args.manager.now in
    let l = c.args.self.now in
    left_had (g.M.Manager.enters m) (g.M.Manager.runs_down m) (g.M.Manager.splits m) (g.M.Manager.joins m) (g.M.Manager.tables m) c.args.hub.now.boot l.group l.began.value first l.pass c.leave-rest.new.pass c.settle-desks.new.pass
    c.args.desks c.settle-desks.result.0 l.number c.leave-rest.result c.leave-rest.ensures.call c.settle-desks.ensures.settles c.settle-desks.ensures.runs h
