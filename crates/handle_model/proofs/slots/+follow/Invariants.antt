use Rattle.std.proofs.Common.{length}
use Rattle.handle_model.proofs.slots.+follow.Given as goal

abbrev pub decreases-follow : goal.decreases-follow
decreases-follow l = length l.slots.now
