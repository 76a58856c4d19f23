use Rattle.std.proofs.Common.{◌≡◌, sym, subst, ap, ◌∙◌}
use Rattle.hub_story.specs.Passes.{Seen}
use Rattle.hub_story.specs.Calls.{Met, TiesOwn}
use Rattle.group_hub.specs.ShardPasses.{seen, seen_by}
use Rattle.group_hub.proofs.lock.ShardLock.run.Goals as goal

pub run_on-seat-requires-clause-ties : goal.run_on-seat-requires-clause-ties
run_on-seat-requires-clause-ties g c = λ log answer more met d.
    let here : c.args.pass.now ≡ seen_by c.in-Some.seat = sym c.pass.view_is ∙ ap seen (sym c.take.ensures.value ∙ c.in-Some.is) in
    subst (λ (v : Seen). TiesOwn v log more) here (c.requires.ties log answer more (subst (λ (v : Seen). Met c.args.self.now.boot c.args.self.now.number v log) (sym here) met) d)
