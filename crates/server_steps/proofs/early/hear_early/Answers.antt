use Rattle.std.proofs.Common.{rules, ap}
use Rattle.conn_histories.specs.Requests.{ids_of}
use Rattle.server_steps.proofs.Hearing.{heard_early}
use Rattle.server_steps.proofs.early.hear_early.Goals as goal

pub hear-requires : goal.hear-requires
hear-requires g c = (search rules, c.requires.lived.linked.is_open)

pub returns-clause-first : goal.returns-clause-first
returns-clause-first g c = ap (λ w. w.first.value) c.hear.ensures.stays

pub returns-clause-heard : goal.returns-clause-heard
returns-clause-heard g c =
    heard_early g.K.Link.shows (g.M.Manager.tables c.args._manager.now) c.args.wire.now c.hear.new.self c.hear.result c.requires (c.hear.ensures.hears (ids_of (g.M.Manager.tables c.args._manager.now)))
