use Rattle.std.proofs.Common.{◌∙◌, ap, sym}
use Rattle.handle_model.specs.History.{History}
use Rattle.call_table.specs.Ahead.{last_ahead}
use Rattle.group_core.proofs.Telling.{ahead_is, waits_is, waits_there}
use Rattle.group_core.proofs.group.Group.last_ahead.Goals as goal

pub ahead_of-requires : goal.ahead_of-requires
ahead_of-requires c = λ h. waits_there _ _ _ _ _ c.args.call c.self.invariant ∙ (sym (waits_is _ _ _ _ _ c.args.call c.self.invariant) ∙ h)

pub returns : goal.returns
returns c = c.ahead_of.ensures ∙ (ahead_is _ _ _ _ _ c.args.call c.self.invariant ∙ ap (λ (h : History). last_ahead h c.args.call) c.self.view_is)
