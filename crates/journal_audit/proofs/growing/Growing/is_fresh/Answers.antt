use Rattle.std.proofs.Common.{◌∙◌, ap}
use Rattle.handle_model.specs.Sound.{is_fresh}
use Rattle.journal_audit.specs.Numbered.{Grown}
use Rattle.journal_audit.proofs.Keeps.{fresh_shown}
use Rattle.journal_audit.proofs.growing.Growing.is_fresh.Goals as goal

pub returns : goal.returns
returns c =
    c.is_fresh.ensures ∙ (fresh_shown _ _ _ _ _ _ _ c.args.call.now c.self.invariant ∙ ap (λ (g : Grown). is_fresh g.base c.args.call.now) c.self.view_is)
