use Rattle.std.proofs.Common.{length}
use Rattle.value_text.proofs.marks.+marks.Given as goal

abbrev pub decreases-marks : goal.decreases-marks
decreases-marks l = length l.word.now
