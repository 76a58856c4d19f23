use Rattle.server_steps.proofs.Besides.{orphaned_running}
use Rattle.server_steps.proofs.Dealing.{quiet_orphaned}
use Rattle.server_steps.proofs.line.Line.orphan_running.Goals as goal

pub orphan-requires-clause-serves : goal.orphan-requires-clause-serves
orphan-requires-clause-serves g c = (c.args.self.now.number, c.requires.has)

pub returns-clause-running : goal.returns-clause-running
returns-clause-running g c =
    orphaned_running g.K.Link.shows (g.M.Manager.may c.args._manager.now) (g.M.Manager.tables c.args._manager.now) c.args.hub.now c.args.self.now c.orphan.new.pass c.args.call c.args._asked.now c.args._cookies.now c.args._orphaned
    c.orphan.ensures.pass c.orphan.ensures.still c.requires c.orphan.result c.orphan.ensures.call

pub returns-clause-quiet : goal.returns-clause-quiet
returns-clause-quiet g c = quiet_orphaned c.args.hub.now.boot c.args.self.now.group c.args.self.now.pass c.orphan.new.pass c.args.call c.orphan.result c.orphan.ensures.call
