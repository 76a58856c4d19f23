use Rattle.std.proofs.Common.{◌≡◌, ◌++◌, drop}
use Rattle.audit_tables.proofs.handles.HandleMap.of.Given as goal

-- what is left comes yet
abbrev pub invariant-loop-item : goal.invariant-loop-item
invariant-loop-item l = (l.live.home ≡ l.fn.home) × (l.live.items ++ drop l.item-index l.base.handles ≡ l.base.handles)
