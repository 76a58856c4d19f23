use Rattle.std.proofs.Common.{rules, refl, ap}
use Rattle.conn_histories.specs.Requests.{ids_of}
use Rattle.server_steps.proofs.Saying.{put_ok, put_not}
use Rattle.server_steps.proofs.line.Line.put.Goals as goal

pub put-requires : goal.put-requires
put-requires g c = (search rules, c.requires.told.lived.linked.is_open)

pub returns-in-Ok-clause-same : goal.returns-in-Ok-clause-same
returns-in-Ok-clause-same g c = (refl, ap (λ w. w.first.value) c.put.ensures.stays)

pub returns-in-Err-clause-same : goal.returns-in-Err-clause-same
returns-in-Err-clause-same g c = (refl, ap (λ w. w.first.value) c.put.ensures.stays)

pub returns-in-Ok-clause-goes : goal.returns-in-Ok-clause-goes
returns-in-Ok-clause-goes g c =
    let x = c.requires in put_ok g.K.Link.shows (g.M.Manager.may c.args._manager.now) (g.M.Manager.tables c.args._manager.now) c.args._hub.now c.args.self.now c.put.new.self c.args.octets.now x (c.in-Ok.ensures.puts (ids_of (g.M.Manager.tables c.args._manager.now)) x.told.events x.told.state x.told.lived)

pub returns-in-Err-clause-goes : goal.returns-in-Err-clause-goes
returns-in-Err-clause-goes g c =
    let x = c.requires in put_not g.K.Link.shows (g.M.Manager.may c.args._manager.now) (g.M.Manager.tables c.args._manager.now) c.args._hub.now c.args.self.now c.put.new.self c.args.octets.now x c.in-Err.field-0 (c.in-Err.ensures.puts (ids_of (g.M.Manager.tables c.args._manager.now)) x.told.events x.told.state x.told.lived)
