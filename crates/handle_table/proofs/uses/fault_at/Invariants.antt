use Rattle.std.proofs.Common.{◌≡◌, take, drop}
use Rattle.handle_model.specs.Journal.{fault_by}
use Rattle.handle_table.specs.Uses.{fault_at, is_usable_at}
use Rattle.handle_table.proofs.uses.fault_at.Given as goal

-- what is left of the slots has the answer
abbrev pub invariant-loop-i : goal.invariant-loop-i
invariant-loop-i g l =
    fault_by (is_usable_at (g.T.LiveHandles.home l.handles) (g.T.LiveHandles.items l.handles)) l.slots (take l.i l.slots) (drop l.i l.slots)
    ≡ fault_at (g.T.LiveHandles.home l.handles) (g.T.LiveHandles.items l.handles) l.slots
