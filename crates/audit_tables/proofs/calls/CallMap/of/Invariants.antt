use Rattle.std.proofs.Common.{◌≡◌, ◌++◌, map, drop}
use Rattle.call_table.specs.Shown.{base_row, base_rows}
use Rattle.audit_tables.proofs.calls.CallMap.of.Given as goal

-- what is left comes yet
abbrev pub invariant-loop-call : goal.invariant-loop-call
invariant-loop-call l = l.calls ++ map (base_row l.base.count) (drop l.call-index l.base.calls) ≡ base_rows l.base
