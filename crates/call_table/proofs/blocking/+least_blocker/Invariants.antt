use Rattle.std.proofs.Common.{length}
use Rattle.call_table.proofs.blocking.+least_blocker.Given as goal

abbrev pub decreases-least_blocker : goal.decreases-least_blocker
decreases-least_blocker l = length l.named.now
