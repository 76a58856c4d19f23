use Rattle.std.proofs.Common.{rules, refl}
use Rattle.server_run.proofs.Ends.{ends_alone}
use Rattle.conn_histories.specs.Requests.{ids_of}
use Rattle.server_run.proofs.connection.finish_alone.Goals as goal

pub returns-clause-finishes : goal.returns-clause-finishes
returns-clause-finishes g c =
    λ before x. ends_alone g.K.Link.shows (g.M.Manager.may c.args._manager.now) (g.M.Manager.tables c.args._manager.now) c.args._hub.now.boot before c.args.pass (g.K.Link.shows c.args.wire.first.value) c.args.wire c.args.why
    c.close-link.result.0 c.close-link.result.1 x refl (c.close-link.ensures (ids_of (g.M.Manager.tables c.args._manager.now)))

pub close-link-requires : goal.close-link-requires
close-link-requires g c = (search rules, c.requires.alone.1.halted.stopped.linked.is_open)
