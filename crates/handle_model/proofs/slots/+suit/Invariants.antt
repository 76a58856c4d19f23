use Rattle.std.proofs.Common.{length}
use Rattle.handle_model.proofs.slots.+suit.Given as goal

abbrev pub decreases-suit : goal.decreases-suit
decreases-suit l = length l.slots.now
