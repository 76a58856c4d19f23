use Rattle.std.proofs.Common.{sym, ◌∙◌}
use Rattle.journal_audit.proofs.Sounds.{next_sound, next_tests}
use Rattle.journal_audit.proofs.growing.Growing.goes_on.Goals as goal

pub returns : goal.returns
returns c = (
  λ t. next_sound c.args.self.now.home c.args.self.now.base c.args.call.now c.requires (sym c.comes_next.ensures ∙ t),
  λ s. c.comes_next.ensures ∙ next_tests c.args.self.now.home c.args.self.now.base c.args.call.now s,
)
