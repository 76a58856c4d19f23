use Rattle.std.proofs.Common.{rules, ap}
use Rattle.conn_histories.specs.Requests.{ids_of}
use Rattle.server_steps.proofs.Saying.{closes_ok, closes_failed}
use Rattle.server_steps.proofs.early.put_close.Goals as goal

pub put-requires : goal.put-requires
put-requires g c = (search rules, c.requires.1.lived.linked.is_open)

pub returns-in-Ok-clause-first : goal.returns-in-Ok-clause-first
returns-in-Ok-clause-first g c = ap (λ w. w.first.value) c.put.ensures.stays

pub returns-in-Err-clause-first : goal.returns-in-Err-clause-first
returns-in-Err-clause-first g c = ap (λ w. w.first.value) c.put.ensures.stays

pub returns-in-Ok-clause-halted : goal.returns-in-Ok-clause-halted
returns-in-Ok-clause-halted g c =
    λ turns x. closes_ok g.K.Link.shows (g.M.Manager.tables c.args._manager.now) c.args.wire.now c.put.new.self c.args.octets.now c.args.fault turns x (c.in-Ok.ensures.puts (ids_of (g.M.Manager.tables c.args._manager.now)) x.events x.state x.lived)

pub returns-in-Err-clause-halted : goal.returns-in-Err-clause-halted
returns-in-Err-clause-halted g c =
    λ turns x. closes_failed g.K.Link.shows (g.M.Manager.tables c.args._manager.now) c.args.wire.now c.put.new.self c.args.octets.now c.args.fault turns c.in-Err.field-0 x (c.in-Err.ensures.puts (ids_of (g.M.Manager.tables c.args._manager.now)) x.events x.state x.lived)
