use Rattle.std.specs.Map.{values_of}
use Rattle.audit_tables.proofs.Held.{SideBySide}
use Rattle.audit_tables.proofs.handles.lists.Given as goal

-- what is left of both lists stands behind the same items
abbrev pub invariant-loop-item : goal.invariant-loop-item
invariant-loop-item l = SideBySide l.items (values_of l.live.entries) l.rest l.item-iterator
