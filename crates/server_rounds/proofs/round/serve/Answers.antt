use Rattle.std.proofs.Common.{◌∙◌, length, sym, subst}
use Rattle.std.specs.List.{AllByRecursion}
use Rattle.std.specs.Arc.{arc_value}
use Rattle.group_hub.specs.declared.hub.Hub.{Hub}
use Rattle.server_rounds.specs.declared.round.Stop.{Stop}
use Rattle.server_rounds.specs.Desks.{RoundHad}
use Rattle.server_rounds.specs.Served.{IsSettled}
use Rattle.server_rounds.specs.Rounds.{Stops}
use Rattle.server_rounds.specs.Serving.{links_of}
use Rattle.server_rounds.proofs.Servings.{is_round}
use Rattle.server_rounds.proofs.round.serve.Goals as goal

pub returns-clause-round : goal.returns-clause-round
returns-clause-round g c =
    let st = c.accept_all-stop.new.self in
    let r = c.settle_all.result.0 in
    let shows = g.D.Link.Link.shows in
    is_round shows g.S.Manager.may g.S.Manager.tables (arc_value c.args.hub.now) st (arc_value c.args.service.now) c.args.pass (g.D.Door.shows c.args.door.now) (g.D.Door.shows c.accept_all-stop.new.door) c.args.most r
    (c.accept_all-stop.ensures.keeps.service ∙ (c.new-serving.ensures.service ∙ c.deref.ensures)) (c.accept_all-stop.ensures.keeps.first ∙ c.new-serving.ensures.first) c.accept_all-stop.ensures.door
    (subst (λ (x : Stop). Stops (g.D.Door.shows c.args.door.now) (g.D.Door.shows c.accept_all-stop.new.door) c.args.most (length (links_of st)) x) (sym c.settle_all.ensures.stop) c.accept_all-stop.ensures.stop)
    c.settle_all.ensures.links
    (subst (λ (h : Hub). AllByRecursion (IsSettled shows (g.S.Manager.may st.service.value) (g.S.Manager.tables st.service.value) h st.first.value) r.finished.items) c.deref-4.ensures c.settle_all.ensures.settled)
    c.settle_all.ensures.takes

pub returns-clause-had : goal.returns-clause-had
returns-clause-had g c =
    let st = c.accept_all-stop.new.self in
    let r = c.settle_all.result in
    let had = subst (λ z. RoundHad g.S.Manager.tables g.S.Manager.enters g.S.Manager.runs_down g.S.Manager.splits g.S.Manager.joins z c.deref-4.result.now.boot st.first_desks.value r.0.finished.items r.1) c.deref-3.ensures c.settle_all.ensures.had in
    let at_hub = subst (λ (z : Hub). RoundHad g.S.Manager.tables g.S.Manager.enters g.S.Manager.runs_down g.S.Manager.splits g.S.Manager.joins (arc_value c.args.service.now) z.boot st.first_desks.value r.0.finished.items r.1) c.deref-4.ensures had in
    subst (λ z. RoundHad g.S.Manager.tables g.S.Manager.enters g.S.Manager.runs_down g.S.Manager.splits g.S.Manager.joins (arc_value c.args.service.now) (arc_value c.args.hub.now).boot z r.0.finished.items r.1) (c.accept_all-stop.ensures.keeps.first_desks ∙ c.new-serving.ensures.first_desks) at_hub
