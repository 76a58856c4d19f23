use Rattle.std.proofs.Common.{length}
use Rattle.cases_words.proofs.doors.+put_nexts.Given as goal

abbrev pub decreases-put_nexts : goal.decreases-put_nexts
decreases-put_nexts l = length l.calls.now
