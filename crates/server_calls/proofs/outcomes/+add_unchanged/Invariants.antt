use Rattle.std.proofs.Common.{length}
use Rattle.server_calls.proofs.outcomes.+add_unchanged.Given as goal

abbrev pub decreases-add_unchanged : goal.decreases-add_unchanged
decreases-add_unchanged l = length l.slots.now
