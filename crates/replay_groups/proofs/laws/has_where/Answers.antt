use Rattle.replay_groups.proofs.Asking.{has_where}
use Rattle.replay_groups.proofs.laws.has_where.Goals as goal

pub returns : goal.returns
returns c = has_where
