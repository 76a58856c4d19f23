use Rattle.std.proofs.Common.{arith, ◌-◌}
use Rattle.call_table.proofs.Keyed.{split_key, call_read}
use Rattle.call_table.proofs.row_table.splits.Goals as goal
use Rattle.call_table.proofs.row_table.splits.Goals.{else-at-gt0-via-then-at-gt0+else-index-call, else-at-gt0-via-else-at-gt0, else-at-len-via-then-at-len+else-index-call-2, else-at-len-via-else-at-len}

pub returns : goal.returns
returns c = λ t. split_key _ _ _ c.requires.rise c.requires.within
    (elim c.else-at-gt0.branch [
      | else-at-gt0-via-then-at-gt0+else-index-call w ↦ λ lt. let le = c.requires.within in let same = call_read c.args.index.now.items (c.args.at - 1) w.index.result.now (omega arith) w.index.ensures in omega (arith, w.if-index-call.false, same)
      | else-at-gt0-via-else-at-gt0 w ↦ λ lt. absurd (omega (arith, w.if-at-gt0.false))
    ])
    (elim c.else-at-len.branch [
      | else-at-len-via-then-at-len+else-index-call-2 w ↦ λ lt. let same = call_read _ _ _ lt w.index-then-at-len.ensures in omega (arith, w.if-index-call-2.false, same)
      | else-at-len-via-else-at-len w ↦ λ lt. absurd (omega (arith, w.if-at-len.false, c.len.ensures))
    ])
