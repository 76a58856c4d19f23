use Rattle.std.proofs.Common.{length}
use Rattle.handle_table.proofs.table.HandleTable.+end.Given as goal

abbrev pub decreases-end : goal.decreases-end
decreases-end l = length l.slots.now
