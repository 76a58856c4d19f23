use Rattle.std.proofs.Common.{length}
use Rattle.replay_script.proofs.slot.+group_after.Given as goal

abbrev pub decreases-group_after : goal.decreases-group_after
decreases-group_after l = length l.answers.now
