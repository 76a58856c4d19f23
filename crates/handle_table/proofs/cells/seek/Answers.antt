use Rattle.std.proofs.Common.{sym, ◌∙◌, arith}
use Rattle.handle_table.proofs.Search.{no_cell, gap_read}
use Rattle.handle_table.proofs.cells.seek.Goals as goal
use Rattle.handle_table.proofs.cells.seek.Goals.{else-at-len-via-then-at-len+else-serial, else-at-len-via-else-at-len}

pub returns-else-at-len : goal.returns-else-at-len
returns-else-at-len c = elim c.else-at-len.branch [
  | else-at-len-via-then-at-len+else-serial w ↦ gap_read _ _ _ no_cell c.requires c.below-at.ensures (λ lt e. w.if-serial.false (sym (w.serial.ensures no_cell) ∙ e))
  | else-at-len-via-else-at-len w ↦ gap_read _ _ _ no_cell c.requires c.below-at.ensures (λ lt. absurd (omega (arith, w.if-at-len.false, c.len.ensures)))
]
