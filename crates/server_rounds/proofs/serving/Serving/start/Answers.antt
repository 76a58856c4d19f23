use Rattle.std.proofs.Common.{◌∙◌, refl, sym, subst}
use Rattle.group_hub.specs.declared.hub.Hub.{Hub}
use Rattle.group_hub.specs.Passes.{IsPassOf}
use Rattle.server_rounds.proofs.Servings.{serving_more}
use Rattle.server_rounds.proofs.Desks.{had_more}
use Rattle.server_rounds.proofs.serving.Serving.start.Goals as goal

pub returns-clause-serving : goal.returns-clause-serving
returns-clause-serving g c =
    serving_more g.K.Link.shows g.S.Manager.may g.S.Manager.tables _ c.args.self.now _ c.split-pass.result c.start-running.result c.args.link c.requires.serving c.requires.room
    (subst (λ (h : Hub). IsPassOf h c.split-pass.new.pass) c.deref.ensures c.split-pass.ensures.kept.0) c.split-pass.ensures.kept.1 c.split-pass.ensures.new
    refl c.push_back_reserved.ensures.items c.push_back_reserved.ensures.len refl refl
    c.requires.new (c.start-running.ensures.service ∙ sym c.requires.service) c.start-running.ensures.hub c.start-running.ensures.began c.start-running.ensures.came c.start-running.ensures.kept

pub split-desks-requires : goal.split-desks-requires
split-desks-requires g c = subst (λ z. g.S.Manager.is_pass z c.args.self.now.desks) (c.requires.service ∙ sym c.deref-2.ensures) c.requires.had.pass

pub start-running-requires-clause-desks : goal.start-running-requires-clause-desks
start-running-requires-clause-desks g c = λ κs within. subst (λ z. g.S.Manager.is_pass z c.split-desks.result) c.deref-2.ensures c.split-desks.ensures.other

pub returns-clause-had : goal.returns-clause-had
returns-clause-had g c =
    let is = c.deref-2.ensures ∙ sym c.requires.service in
    had_more g.S.Manager.tables g.S.Manager.is_pass g.S.Manager.enters g.S.Manager.runs_down g.S.Manager.splits g.S.Manager.joins _ c.args.self.now _ c.split-desks.result c.start-running.result c.requires.had refl refl refl c.push_back_reserved.ensures.items
    (subst (λ z. g.S.Manager.is_pass z c.split-desks.new.pass) is c.split-desks.ensures.kept) (subst (λ z. g.S.Manager.splits z c.args.self.now.desks c.split-desks.new.pass c.split-desks.result) is c.split-desks.ensures.splits)
    (c.start-running.ensures.service ∙ sym c.requires.service) c.start-running.ensures.hub c.start-running.ensures.desks c.start-running.ensures.had
