use Rattle.std.proofs.Common.{length}
use Rattle.cases_words.proofs.doors.+put_dials.Given as goal

abbrev pub decreases-put_dials : goal.decreases-put_dials
decreases-put_dials l = length l.calls.now
