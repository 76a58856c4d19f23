use Rattle.std.proofs.Common.{false}
use Rattle.server_steps.proofs.Besides.{none_halved, known_halved, running_halved}
use Rattle.server_steps.proofs.Dealing.{quiet_halved}
use Rattle.server_steps.proofs.line.Line.split_pass.Goals as goal

pub split-requires : goal.split-requires
split-requires g c = c.requires.called.pass

pub returns-clause-running : goal.returns-clause-running
returns-clause-running g c =
    running_halved g.K.Link.shows (g.M.Manager.may c.args._manager.now) (g.M.Manager.tables c.args._manager.now) c.args.hub.now c.args.self.now c.args._call c.args._asked.now c.args._cookies.now false c.requires c.split.new.pass
    c.split.ensures.kept.0 c.split.ensures.kept.1

pub returns-clause-none : goal.returns-clause-none
returns-clause-none g c = none_halved c.args.self.now.pass c.split.result c.split.ensures.new

pub returns-clause-known : goal.returns-clause-known
returns-clause-known g c =
    known_halved g.K.Link.shows (g.M.Manager.may c.args._manager.now) (g.M.Manager.tables c.args._manager.now) c.args.hub.now c.args.self.now c.args._call c.args._asked.now c.args._cookies.now false c.requires c.split.result c.split.ensures.new

pub returns-clause-quiet : goal.returns-clause-quiet
returns-clause-quiet g c = quiet_halved c.args.self.now.group c.args.self.now.pass c.split.new.pass c.split.ensures.kept.1
