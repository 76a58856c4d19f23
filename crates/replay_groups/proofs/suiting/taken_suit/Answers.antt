use Rattle.replay_groups.proofs.Taken.{taken_suit}
use Rattle.replay_groups.proofs.suiting.taken_suit.Goals as goal

pub returns : goal.returns
returns c = taken_suit
