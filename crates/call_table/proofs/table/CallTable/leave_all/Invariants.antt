use Rattle.std.proofs.Common.{◌≡◌, ◌+◌, ◌*◌, ◌≤◌, length}
use Rattle.call_table.specs.Rows.{left, owed_of}
use Rattle.call_table.proofs.table.CallTable.leave_all.Given as goal

-- the other calls stay, and four entries are owed less of each that went
abbrev pub invariant-loop-call : goal.invariant-loop-call
invariant-loop-call g l =
    (left l.conn l.self.rows ≡ left l.conn l.fn.self.rows)
    × (owed_of l.self.rows + 4 * length l.fn.self.rows ≡ owed_of l.fn.self.rows + 4 * length l.self.rows)
    × (length l.self.rows ≤ length l.fn.self.rows)
    × (l.self.room ≡ l.fn.self.room)

abbrev pub decreases-loop-call : goal.decreases-loop-call
decreases-loop-call g l = length l.self.rows
