use Rattle.server_steps.proofs.Calling.{takes_so}
use Rattle.server_steps.proofs.Dealing.{quiet_taken}
use Rattle.server_steps.proofs.line.Line.take.Goals as goal

pub take-requires-clause-serves : goal.take-requires-clause-serves
take-requires-clause-serves g c = (c.args.self.now.number, c.requires.has)

pub returns-clause-takes : goal.returns-clause-takes
returns-clause-takes g c =
    takes_so g.K.Link.shows (g.M.Manager.may c.args._manager.now) (g.M.Manager.tables c.args._manager.now) c.args.hub.now c.args.self.now c.take.new.pass c.args.call c.args._asked.now c.requires c.take.result
    c.take.ensures.call c.take.ensures.pass c.take.ensures.still c.take.ensures.taken

pub returns-clause-quiet : goal.returns-clause-quiet
returns-clause-quiet g c = quiet_taken c.args.hub.now.boot c.args.self.now.group c.args.self.now.pass c.take.new.pass c.args.call c.take.result c.take.ensures.call
