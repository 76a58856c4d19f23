use Rattle.std.proofs.Common.{◌∙◌, ap}
use Rattle.handle_model.specs.History.{History}
use Rattle.group_core.specs.Stages as spec
use Rattle.group_core.proofs.Telling.{stage_is}
use Rattle.group_core.proofs.group.Group.stage.Goals as goal

pub returns : goal.returns
returns c =
    c.stage_of.ensures ∙ (stage_is _ _ _ _ _ c.args.call c.self.invariant ∙ ap (λ (h : History). spec.stage_of h c.args.call) c.self.view_is)
