use Rattle.replay_groups.proofs.Behind.{opened_is}
use Rattle.replay_groups.proofs.groups.Groups.open_next.Goals as goal

pub returns : goal.returns
returns c = opened_is c.args.self.now c.open_at_end.new.self c.open_at_end.result c.open_at_end.ensures
