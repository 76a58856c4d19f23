use Rattle.std.proofs.Common.{ap, sym, ◌∙◌, None}
use Rattle.replay_script.specs.Counting.{counts_of}
use Rattle.replay_script.specs.Summary.{summary_text}
use Rattle.replay.proofs.laws.one_summary.Goals as goal

pub returns : goal.returns
returns c = λ number steps text text' h l.
    h.2 ∙ ap (λ end. summary_text steps (counts_of end.groups)) (c.one_load.ensures None (c.is_determined.ensures None tt) number steps h.0 l.0 h.1 l.1) ∙ sym l.2
