use Rattle.std.proofs.Common.{sym, ◌∙◌}
use Rattle.replay_groups.proofs.Joining.{none_binds, no_zero}
use Rattle.replay_groups.proofs.binding.bind_known.Goals as goal

pub returns-else-goes_on : goal.returns-else-goes_on
returns-else-goes_on c =
    none_binds c.args.groups.now c.args.asked (no_zero c.args.asked c.requires.known) (λ pasts k. sym (c.goes_on.ensures.told pasts k) ∙ c.if-goes_on.false)
