use Rattle.std.proofs.Common.{◌≡◌, ◌++◌, drop}
use Rattle.call_table.specs.Based.{stored_calls}
use Rattle.call_table.proofs.based.stored_calls.Given as goal

-- what is made, and what is left
abbrev pub invariant-loop-at : goal.invariant-loop-at
invariant-loop-at l = l.calls ++ stored_calls l.base l.entries (drop l.at l.rows.items) ≡ stored_calls l.base l.entries l.rows.items
