use Rattle.std.proofs.Common.{length}
use Rattle.replay.proofs.playing.+play_lines.Given as goal

abbrev pub decreases-play_lines : goal.decreases-play_lines
decreases-play_lines l = length l.lines.items
