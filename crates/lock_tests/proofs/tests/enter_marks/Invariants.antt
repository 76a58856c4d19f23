use Rattle.turn_lock.specs.Passes.{IsPassOf}
use Rattle.lock_tests.proofs.tests.enter_marks.Given as goal

abbrev pub invariant-loop-number : goal.invariant-loop-number
invariant-loop-number g l = IsPassOf l.lock.table.shared.table_id l.pass
