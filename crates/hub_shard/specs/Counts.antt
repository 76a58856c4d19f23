-- How many entries an answer comes to.
use Rattle.std.specs.Prelude.{ℕ, Result, Ok, Err}
use Rattle.handle_model.specs.declared.entry.Asked.{Asked}
use Rattle.group_core.specs.declared.answer.AcceptRefusal.{AcceptRefusal}
use Rattle.group_core.specs.declared.answer.Taking.{Taking}
use Rattle.group_core.specs.declared.answer.Taking.TheVariants as taking
use Rattle.group_core.specs.declared.answer.Cancelled.{Cancelled}
use Rattle.group_core.specs.declared.answer.Cancelled.TheVariants as cancelled
use Rattle.group_core.specs.declared.answer.Orphaned.{Orphaned}
use Rattle.group_core.specs.declared.answer.Orphaned.TheVariants as orphaned

abbrev pub taken_count : Taking → ℕ
taken_count (taking.Run row serial) = 1
taken_count (taking.Denied slot) = 1
taken_count taking.Dropped = 0
taken_count (taking.Wait m) = 0

abbrev pub cancelled_count : Cancelled → ℕ
cancelled_count cancelled.Ended = 1
cancelled_count cancelled.Flagged = 1
cancelled_count cancelled.Late = 0

abbrev pub orphaned_count : Orphaned → ℕ
orphaned_count orphaned.Dropped = 1
orphaned_count orphaned.Running = 1
orphaned_count orphaned.Late = 0

abbrev pub accepted_count : Result ℕ (Asked × AcceptRefusal) → ℕ
accepted_count (Ok k) = 1
accepted_count (Err r) = 0
