use Rattle.std.proofs.Common.{length}
use Rattle.audit_tables.proofs.handles.HandleMap.+end.Given as goal

abbrev pub decreases-end : goal.decreases-end
decreases-end l = length l.slots.now
