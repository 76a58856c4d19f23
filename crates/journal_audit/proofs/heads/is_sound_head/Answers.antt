use Rattle.std.proofs.Common.{sym, ◌∙◌}
use Rattle.journal_audit.proofs.Sounds.{head_sound, head_tests}
use Rattle.journal_audit.proofs.heads.is_sound_head.Goals as goal

pub returns : goal.returns
returns c = (
  λ t. head_sound c.args.home c.args.base.now c.requires.none c.requires.joins c.requires.accepts c.requires.opens (sym c.is_head.ensures ∙ t),
  λ s. c.is_head.ensures ∙ head_tests c.args.home c.args.base.now s,
)
