use Rattle.std.proofs.Common.{◌∙◌}
use Rattle.server_rounds.proofs.serving.Serving.settle_over.Goals as goal

pub settle_first-requires-clause-service : goal.settle_first-requires-clause-service
settle_first-requires-clause-service g c κs within = c.loop-self.invariant.1.service ∙ c.requires.service

pub loop-self-preserved : goal.loop-self-preserved
loop-self-preserved g c =
    let was = c.loop-self.invariant in
    let e = c.settle_first.ensures in (
      e.serving,
      record { service = e.keeps.service ∙ was.1.service; first = e.keeps.first ∙ was.1.first; first_desks = e.keeps.first_desks ∙ was.1.first_desks },
      e.links ∙ was.2,
      e.had,
      λ r. e.room (was.4 r),
    )
