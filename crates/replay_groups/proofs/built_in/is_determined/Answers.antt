use Rattle.replay_groups.proofs.Determined.{determined}
use Rattle.replay_groups.proofs.built_in.is_determined.Goals as goal

pub returns : goal.returns
returns c = determined
