use Rattle.std.proofs.Common.{length}
use Rattle.server_calls.proofs.words.+add_wires.Given as goal

abbrev pub decreases-add_wires : goal.decreases-add_wires
decreases-add_wires l = length l.slots.now
