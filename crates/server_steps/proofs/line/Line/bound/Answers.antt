use Rattle.std.proofs.Common.{refl, sym, ap, ◌∙◌, subst, Ok, Err}
use Rattle.conn_asks.specs.States.{IsGrouping}
use Rattle.conn_histories.specs.Requests.{ids_of}
use Rattle.server_steps.specs.Endings.{IsStopping}
use Rattle.server_steps.proofs.Saying.{bound_so}
use Rattle.server_steps.proofs.line.Line.bound.Goals as goal

pub bound-requires-clause-grouping : goal.bound-requires-clause-grouping
bound-requires-clause-grouping g c = λ κs within. let t = c.requires.asks in subst IsGrouping (sym (t.told.lived.at.waits ∙ t.told.waits_is)) t.grouping

pub bound-requires-clause-open : goal.bound-requires-clause-open
bound-requires-clause-open g c = λ κs within. c.requires.asks.told.lived.linked.is_open

pub returns-in-Ok-clause-same : goal.returns-in-Ok-clause-same
returns-in-Ok-clause-same g c = (refl, ap (λ w. w.first.value) c.bound.ensures.stays)

pub returns-in-Err-clause-same : goal.returns-in-Err-clause-same
returns-in-Err-clause-same g c = (refl, ap (λ w. w.first.value) c.bound.ensures.stays)

pub returns-in-Ok-clause-goes : goal.returns-in-Ok-clause-goes
returns-in-Ok-clause-goes g c =
    let x = c.requires in bound_so g.K.Link.shows (g.M.Manager.may c.args._manager.now) (g.M.Manager.tables c.args._manager.now) c.args._hub.now c.args.self.now c.bound.new.self c.args._asked x (Ok tt) (c.in-Ok.ensures.decides (ids_of (g.M.Manager.tables c.args._manager.now)) x.asks.told.events x.asks.told.state x.asks.told.lived)

pub returns-in-Err-clause-goes : goal.returns-in-Err-clause-goes
returns-in-Err-clause-goes g c =
    let x = c.requires in
    subst (λ why. IsStopping g.K.Link.shows (g.M.Manager.may c.args._manager.now) (g.M.Manager.tables c.args._manager.now) c.args._hub.now (record c.args.self.now { wire = c.bound.new.self }) why) (sym c.stopped.ensures)
    (bound_so g.K.Link.shows (g.M.Manager.may c.args._manager.now) (g.M.Manager.tables c.args._manager.now) c.args._hub.now c.args.self.now c.bound.new.self c.args._asked x (Err c.in-Err.fault) (c.in-Err.ensures.decides (ids_of (g.M.Manager.tables c.args._manager.now)) x.asks.told.events x.asks.told.state x.asks.told.lived))
