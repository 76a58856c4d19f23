use Rattle.std.proofs.Common.{◌∙◌, subst}
use Rattle.server_rounds.specs.Desks.{RoundHad}
use Rattle.server_rounds.proofs.Servings.{left_none}
use Rattle.server_rounds.proofs.Desks.{round_all}
use Rattle.server_rounds.proofs.serving.Serving.settle_all.Goals as goal

pub returns-clause-links : goal.returns-clause-links
returns-clause-links g c = left_none c.loop-self.self c.is_empty.result c.is_empty.ensures c.loop-self-test.false ∙ c.loop-self.invariant.2

pub settle_first-requires-clause-service : goal.settle_first-requires-clause-service
settle_first-requires-clause-service g c κs within = c.loop-self.invariant.1.service ∙ c.requires.service

pub returns-clause-desks : goal.returns-clause-desks
returns-clause-desks g c =
    subst (λ z. g.S.Manager.is_pass z c.loop-self.self.desks) c.requires.service (round_all g.S.Manager.tables g.S.Manager.is_pass g.S.Manager.enters g.S.Manager.runs_down g.S.Manager.splits g.S.Manager.joins c.args.hub.now c.args.self c.loop-self.self c.loop-self.invariant.3 c.loop-self.invariant.1).1

pub returns-clause-had : goal.returns-clause-had
returns-clause-had g c =
    subst (λ z. RoundHad g.S.Manager.tables g.S.Manager.enters g.S.Manager.runs_down g.S.Manager.splits g.S.Manager.joins z c.args.hub.now.boot c.args.self.first_desks.value c.loop-self.self.finished.items c.loop-self.self.desks) c.requires.service
    (round_all g.S.Manager.tables g.S.Manager.is_pass g.S.Manager.enters g.S.Manager.runs_down g.S.Manager.splits g.S.Manager.joins c.args.hub.now c.args.self c.loop-self.self c.loop-self.invariant.3 c.loop-self.invariant.1).0
