use Rattle.std.proofs.Common.{length}
use Rattle.replay_script.proofs.slot.+handle_after.Given as goal

abbrev pub decreases-handle_after : goal.decreases-handle_after
decreases-handle_after l = length l.answers.now
