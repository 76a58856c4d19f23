use Rattle.std.proofs.Common.{ap, ◌∙◌}
use Rattle.handle_model.specs.History.{History}
use Rattle.group_core.specs.Stages.{stage_of}
use Rattle.replay_groups.proofs.Asking.{stage_told}
use Rattle.replay_groups.proofs.asks.stage.Goals as goal

pub returns : goal.returns
returns c = λ pasts k.
    c.stage.ensures ∙ ap (λ (j : History). stage_of j c.args.call) c.group_of.ensures ∙ stage_told c.args.groups.now c.args.id c.args.call c.requires pasts k
