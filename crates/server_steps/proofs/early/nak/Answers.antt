use Rattle.std.proofs.Common.{sym, subst}
use Rattle.conn_histories.specs.Requests.{ids_of}
use Rattle.server_steps.specs.Early.{IsAlone}
use Rattle.server_steps.proofs.Saying.{refused_ok, refused_short, refused_not}
use Rattle.server_steps.proofs.early.nak.Goals as goal

pub returns-then-reason-eq1-clause-alone : goal.returns-then-reason-eq1-clause-alone
returns-then-reason-eq1-clause-alone g c =
    let x = c.requires.asks in
    let tables = g.M.Manager.tables c.args._manager.now in
    λ before r. refused_short g.K.Link.shows tables (g.M.Manager.may c.args._manager.now) c.args._hub.now.boot before c.args._pass.now c.args.wire.now c.nak.new.self c.args._asked c.args.reason r x
    (c.in-Ok.ensures.decides (ids_of tables) x.told.events x.told.state x.told.lived)

pub returns-else-reason-eq1-clause-alone : goal.returns-else-reason-eq1-clause-alone
returns-else-reason-eq1-clause-alone g c =
    let x = c.requires.asks in
    let tables = g.M.Manager.tables c.args._manager.now in
    λ before r. refused_ok g.K.Link.shows tables (g.M.Manager.may c.args._manager.now) c.args._hub.now.boot before c.args._pass.now c.args.wire.now c.nak.new.self c.args._asked c.args.reason r x
    c.if-reason-eq1.false (c.in-Ok.ensures.decides (ids_of tables) x.told.events x.told.state x.told.lived)

pub returns-in-Err-clause-alone : goal.returns-in-Err-clause-alone
returns-in-Err-clause-alone g c =
    let x = c.requires.asks in
    let tables = g.M.Manager.tables c.args._manager.now in
    λ before r. subst (λ why. IsAlone g.K.Link.shows tables (g.M.Manager.may c.args._manager.now) c.args._hub.now.boot before c.nak.new.self c.args._pass.now why) (sym c.stopped.ensures)
    (refused_not g.K.Link.shows tables (g.M.Manager.may c.args._manager.now) c.args._hub.now.boot before c.args._pass.now c.args.wire.now c.nak.new.self c.args._asked c.args.reason r x c.in-Err.fault
    (c.in-Err.ensures.decides (ids_of tables) x.told.events x.told.state x.told.lived))
