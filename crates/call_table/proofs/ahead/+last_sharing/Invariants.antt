use Rattle.std.proofs.Common.{length}
use Rattle.call_table.proofs.ahead.+last_sharing.Given as goal

abbrev pub decreases-last_sharing : goal.decreases-last_sharing
decreases-last_sharing l = length l.named.now
