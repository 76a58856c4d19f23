use Rattle.std.proofs.Common.{◌≡◌, length}
use Rattle.call_table.specs.Rows.{left}
use Rattle.audit_tables.proofs.calls.CallMap.without_waiting.Given as goal

-- the other calls stay
abbrev pub invariant-loop-call : goal.invariant-loop-call
invariant-loop-call l = left l.conn l.calls ≡ left l.conn l.fn.self

abbrev pub decreases-loop-call : goal.decreases-loop-call
decreases-loop-call l = length l.calls
