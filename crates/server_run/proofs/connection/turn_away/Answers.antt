use Rattle.server_run.proofs.Ends.{ends_unserved}
use Rattle.server_run.proofs.connection.turn_away.Goals as goal

pub returns-clause-finishes : goal.returns-clause-finishes
returns-clause-finishes g c =
    ends_unserved g.K.Link.shows (g.M.Manager.may c.args._manager.now) (g.M.Manager.tables c.args._manager.now) c.args._hub.now.boot c.args.pass c.args.link c.close.new.self c.close.ensures
