use Rattle.std.proofs.Common.{[]}
use Rattle.server_run.proofs.Ends.{alone_closed}
use Rattle.server_run.proofs.binding.refuse.Goals as goal

pub returns-clause-alone : goal.returns-clause-alone
returns-clause-alone g c =
    alone_closed g.K.Link.shows (g.M.Manager.may c.args.manager.now) (g.M.Manager.tables c.args.manager.now) c.args._hub.now.boot c.args._pass.now c.put_close.new.wire c.put_close.result c.args.octets.now c.args.fault
    (c.put_close.ensures.halted [] c.requires)
