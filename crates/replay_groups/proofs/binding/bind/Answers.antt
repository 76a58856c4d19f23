use Rattle.replay_groups.proofs.Worlds.{kept_after}
use Rattle.replay_groups.proofs.binding.bind.Goals as goal

pub returns-clause-kept : goal.returns-clause-kept
returns-clause-kept c = kept_after c.args.groups.now c.bind_to.new.groups c.args.asked c.bind_to.result c.requires c.bind_to.ensures
