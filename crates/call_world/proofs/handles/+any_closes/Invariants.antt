use Rattle.std.proofs.Common.{length}
use Rattle.call_world.proofs.handles.+any_closes.Given as goal

abbrev pub decreases-any_closes : goal.decreases-any_closes
decreases-any_closes l = length l.slots.now
