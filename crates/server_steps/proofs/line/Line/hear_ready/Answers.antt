use Rattle.std.proofs.Common.{rules, refl, ap}
use Rattle.conn_histories.specs.Requests.{ids_of}
use Rattle.server_steps.proofs.Hearing.{heard_ready}
use Rattle.server_steps.proofs.line.Line.hear_ready.Goals as goal

pub hear-requires : goal.hear-requires
hear-requires g c = (search rules, c.requires.told.lived.linked.is_open)

pub returns-clause-same : goal.returns-clause-same
returns-clause-same g c = (refl, ap (λ w. w.first.value) c.hear.ensures.stays)

pub returns-clause-heard : goal.returns-clause-heard
returns-clause-heard g c =
    heard_ready g.K.Link.shows (g.M.Manager.may c.args._manager.now) (g.M.Manager.tables c.args._manager.now) c.args._hub.now c.args.self.now c.hear.new.self c.hear.result c.requires (c.hear.ensures.hears (ids_of (g.M.Manager.tables c.args._manager.now)))
