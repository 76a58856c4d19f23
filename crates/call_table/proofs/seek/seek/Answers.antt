use Rattle.std.proofs.Common.{◌∙◌, ap, arith}
use Rattle.call_table.specs.declared.row.Row.{Row}
use Rattle.call_table.proofs.Marks.{no_row}
use Rattle.call_table.proofs.Search.{none_there}
use Rattle.call_table.proofs.seek.seek.Goals as goal
use Rattle.call_table.proofs.seek.seek.Goals.{else-at-len-via-then-at-len+else-row-call, else-at-len-via-else-at-len}

pub returns-else-at-len : goal.returns-else-at-len
returns-else-at-len c = elim c.else-at-len.branch [
  | else-at-len-via-then-at-len+else-row-call w ↦ none_there _ _ _ w.row.result.now c.requires c.below-at.ensures (λ lt q. w.if-row-call.false (ap (λ (r : Row). r.call) w.row.ensures ∙ q))
  | else-at-len-via-else-at-len w ↦ none_there _ _ _ no_row c.requires c.below-at.ensures (λ lt. absurd (omega (arith, w.if-at-len.false, c.len.ensures)))
]
