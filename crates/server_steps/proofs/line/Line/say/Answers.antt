use Rattle.std.proofs.Common.{refl, sym, ap, ◌∙◌, subst, Ok, Err}
use Rattle.std.specs.Option.{option_copied}
use Rattle.conn_asks.specs.States.{caller_of}
use Rattle.conn_histories.specs.Requests.{ids_of}
use Rattle.server_steps.specs.Endings.{IsStopping}
use Rattle.server_steps.proofs.Saying.{said_so}
use Rattle.server_steps.proofs.line.Line.say.Goals as goal

pub reply-requires-clause-calling : goal.reply-requires-clause-calling
reply-requires-clause-calling g c = λ κs within. let d = c.requires.settled.called in (caller_of c.requires.settled.j, c.requires.settled.j.maybe, d.told.lived.at.waits ∙ d.told.waits_is)

pub reply-requires-clause-stub : goal.reply-requires-clause-stub
reply-requires-clause-stub g c = λ κs within. c.requires.fits

pub reply-requires-clause-open : goal.reply-requires-clause-open
reply-requires-clause-open g c = λ κs within. c.requires.settled.called.told.lived.linked.is_open

pub returns-in-Ok-clause-same : goal.returns-in-Ok-clause-same
returns-in-Ok-clause-same g c = (refl, ap (λ w. w.first.value) c.reply.ensures.stays)

pub returns-in-Err-clause-same : goal.returns-in-Err-clause-same
returns-in-Err-clause-same g c = (refl, ap (λ w. w.first.value) c.reply.ensures.stays)

pub returns-in-Ok-clause-goes : goal.returns-in-Ok-clause-goes
returns-in-Ok-clause-goes g c =
    let x = c.requires in let t = x.settled.called.told in said_so g.K.Link.shows (g.M.Manager.may c.args._manager.now) (g.M.Manager.tables c.args._manager.now) c.args._hub.now c.args.self.now c.reply.new.self (option_copied c.args.said) c.args.executed x (Ok tt) (c.in-Ok.ensures.decides (ids_of (g.M.Manager.tables c.args._manager.now)) t.events t.state t.lived)

pub returns-in-Err-clause-goes : goal.returns-in-Err-clause-goes
returns-in-Err-clause-goes g c =
    let x = c.requires in
    let t = x.settled.called.told in
    subst (λ why. IsStopping g.K.Link.shows (g.M.Manager.may c.args._manager.now) (g.M.Manager.tables c.args._manager.now) c.args._hub.now (record c.args.self.now { wire = c.reply.new.self }) why) (sym c.stopped.ensures)
    (said_so g.K.Link.shows (g.M.Manager.may c.args._manager.now) (g.M.Manager.tables c.args._manager.now) c.args._hub.now c.args.self.now c.reply.new.self (option_copied c.args.said) c.args.executed x (Err c.in-Err.fault) (c.in-Err.ensures.decides (ids_of (g.M.Manager.tables c.args._manager.now)) t.events t.state t.lived))
