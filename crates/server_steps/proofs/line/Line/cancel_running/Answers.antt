use Rattle.server_steps.proofs.Besides.{cancelled_running}
use Rattle.server_steps.proofs.Dealing.{quiet_cancelled}
use Rattle.server_steps.proofs.line.Line.cancel_running.Goals as goal

pub cancel-requires-clause-serves : goal.cancel-requires-clause-serves
cancel-requires-clause-serves g c = (c.args.self.now.number, c.requires.has)

pub returns-clause-running : goal.returns-clause-running
returns-clause-running g c =
    cancelled_running g.K.Link.shows (g.M.Manager.may c.args._manager.now) (g.M.Manager.tables c.args._manager.now) c.args.hub.now c.args.self.now c.cancel.new.pass c.args.call c.args._asked.now c.args._cookies.now c.args._orphaned
    c.cancel.ensures.pass c.cancel.ensures.still c.requires c.cancel.result c.cancel.ensures.call

pub returns-clause-quiet : goal.returns-clause-quiet
returns-clause-quiet g c = quiet_cancelled c.args.hub.now.boot c.args.self.now.group c.args.self.now.pass c.cancel.new.pass c.args.call c.cancel.result c.cancel.ensures.call
