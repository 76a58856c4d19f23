use Rattle.std.proofs.Common.{length}
use Rattle.replay_script.proofs.slot.+any_ack.Given as goal

abbrev pub decreases-any_ack : goal.decreases-any_ack
decreases-any_ack l = length l.answers.now
