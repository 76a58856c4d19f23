use Rattle.std.proofs.Common.{sym}
use Rattle.call_table.proofs.Marks.{row_place}
use Rattle.call_table.proofs.seek.row_of.Goals as goal

pub returns-in-Some : goal.returns-in-Some
returns-in-Some c = sym (row_place 0 _ _ _ _ c.requires (rw c.in-Some.is at c.seek.ensures) c.row.ensures)
