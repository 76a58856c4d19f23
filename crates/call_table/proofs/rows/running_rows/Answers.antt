use Rattle.std.proofs.Common.{◌≡◌, ap, arith}
use Rattle.call_table.specs.Sorted.{held}
use Rattle.call_table.proofs.Places.{stage_counts}
use Rattle.call_table.proofs.rows.running_rows.Goals as goal

pub loop-at-init : goal.loop-at-init
loop-at-init c =
    let counts = stage_counts c.args.rows.now.items in
    let none : c.reserve.new.self.keys ≡ c.new-running.result.keys = c.in_ok-reserve.ensures.same in
    let new = c.new-running.ensures in
    (λ n. (let held_none = ap (λ v. held n v.keys) new in let held_same = ap (held n) none in omega arith), omega (arith, counts, c.in_ok-reserve.ensures.ok, c.len.ensures))
