use Rattle.std.proofs.Common.{length}
use Rattle.replay_world.proofs.heard.+add_answers.Given as goal

abbrev pub decreases-add_answers : goal.decreases-add_answers
decreases-add_answers l = length l.text.now
