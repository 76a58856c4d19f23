use Rattle.std.proofs.Common.{sym, subst}
use Rattle.server_rounds.proofs.Servings.{serving_new}
use Rattle.server_rounds.proofs.Desks.{had_new}
use Rattle.server_rounds.proofs.serving.Serving.new.Goals as goal

pub returns-clause-serving : goal.returns-clause-serving
returns-clause-serving g c =
    serving_new g.K.Link.shows g.S.Manager.may g.S.Manager.tables c.args.hub.now _ c.of.ensures c.requires.pass c.new.ensures.items c.new-2.ensures.items c.new.ensures.len c.new-2.ensures.len

pub returns-clause-had : goal.returns-clause-had
returns-clause-had g c =
    had_new g.S.Manager.tables g.S.Manager.is_pass g.S.Manager.enters g.S.Manager.runs_down g.S.Manager.splits g.S.Manager.joins c.args.hub.now _ (subst (λ z. g.S.Manager.is_pass z c.args.desks) (sym c.of-3.ensures) c.requires.desks) c.of-2.ensures c.new.ensures.items c.new-2.ensures.items
