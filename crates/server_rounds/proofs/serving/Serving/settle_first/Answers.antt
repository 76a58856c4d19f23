use Rattle.std.proofs.Common.{ℕ, ◌<◌, ◌∙◌, refl, sym, subst}
use Rattle.group_hub.specs.ShardPasses.{Merges}
use Rattle.group_hub.specs.declared.pass.Pass.{Pass}
use Rattle.group_hub.specs.Passes.{at_shard}
use Rattle.server_rounds.proofs.Servings.{serving_settled}
use Rattle.server_rounds.proofs.Desks.{had_settled, had_kept, had_first}
use Rattle.server_rounds.proofs.serving.Serving.settle_first.Goals as goal

pub returns-clause-serving : goal.returns-clause-serving
returns-clause-serving g c =
    let hub = c.args.hub.now in
    serving_settled g.K.Link.shows g.S.Manager.may g.S.Manager.tables hub c.args.self.now _ hub.boot c.in-Some.running c.finish-settled.result.0 c.requires.serving c.join.ensures.pass
    (subst (λ (o : Pass). (s : ℕ) → s < 16 → Merges hub.boot s (at_shard c.args.self.now.pass s) (at_shard o s) (at_shard c.join.new.pass s)) c.finish-settled.ensures.pass c.join.ensures.merges)
    c.in-Some.ensures.items c.in-Some.ensures.cases c.push_reserved.ensures.items c.push_reserved.ensures.len c.push_reserved.ensures.capacity refl refl
    c.finish-settled.ensures.came c.finish-settled.ensures.began c.finish-settled.ensures.served c.finish-settled.ensures.numbers

pub finish-settled-requires-clause-had : goal.finish-settled-requires-clause-had
finish-settled-requires-clause-had g c = λ κs within. had_kept g.S.Manager.tables g.S.Manager.is_pass g.S.Manager.enters g.S.Manager.runs_down g.S.Manager.splits g.S.Manager.joins c.args.hub.now c.args.self.now c.in-Some.running _ c.requires.had c.in-Some.ensures.items

pub join-requires-2-clause-pass : goal.join-requires-2-clause-pass
join-requires-2-clause-pass g c = subst (λ z. g.S.Manager.is_pass z c.args.self.now.desks) c.requires.service c.requires.had.pass

pub join-requires-2-clause-other : goal.join-requires-2-clause-other
join-requires-2-clause-other g c =
    subst (λ z. g.S.Manager.is_pass z c.finish-settled.result.2) (had_first g.S.Manager.tables g.S.Manager.is_pass g.S.Manager.enters g.S.Manager.runs_down g.S.Manager.splits g.S.Manager.joins c.args.hub.now c.args.self.now c.in-Some.running _ c.requires.had c.in-Some.ensures.items ∙ c.requires.service) c.finish-settled.ensures.had.0

pub returns-clause-had : goal.returns-clause-had
returns-clause-had g c =
    let is = sym c.requires.service in
    had_settled g.S.Manager.tables g.S.Manager.is_pass g.S.Manager.enters g.S.Manager.runs_down g.S.Manager.splits g.S.Manager.joins c.args.hub.now c.args.self.now _ c.in-Some.running c.finish-settled.result.0 c.finish-settled.result.2 c.requires.had refl refl c.in-Some.ensures.items c.push_reserved.ensures.items
    (subst (λ z. g.S.Manager.is_pass z c.join-2.new.pass) is c.join-2.ensures.pass) (subst (λ z. g.S.Manager.joins z c.args.self.now.desks c.finish-settled.result.2 c.join-2.new.pass) is c.join-2.ensures.joins)
    c.finish-settled.ensures.began c.finish-settled.ensures.had
