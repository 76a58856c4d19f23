use Rattle.std.proofs.Common.{ap, ◌∙◌}
use Rattle.handle_model.specs.History.{History}
use Rattle.group_core.specs.Stages.{is_asked}
use Rattle.replay_groups.proofs.Asking.{asked_told}
use Rattle.replay_groups.proofs.asks.is_asked.Goals as goal

pub returns : goal.returns
returns c = λ pasts k r.
    c.asked.ensures ∙ ap (λ (j : History). is_asked j c.args.call) c.group_of.ensures ∙ asked_told c.args.groups.now c.args.id c.args.call c.requires pasts k r
