use Rattle.std.proofs.Common.{length}
use Rattle.audit_tables.proofs.calls.+any_stands_before.Given as goal

abbrev pub decreases-any_stands_before : goal.decreases-any_stands_before
decreases-any_stands_before l = length l.slots.now
