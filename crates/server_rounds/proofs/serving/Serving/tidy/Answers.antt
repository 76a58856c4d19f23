use Rattle.std.proofs.Common.{◌∙◌}
use Rattle.server_rounds.proofs.serving.Serving.tidy.Goals as goal

pub returns-clause-keeps : goal.returns-clause-keeps
returns-clause-keeps g c =
    let a = c.settle_over.ensures.keeps in
    let b = c.sweep.ensures.keeps in
    record { service = b.service ∙ a.service; first = b.first ∙ a.first; first_desks = b.first_desks ∙ a.first_desks }

pub returns-clause-links : goal.returns-clause-links
returns-clause-links g c = c.sweep.ensures.links ∙ c.settle_over.ensures.links
