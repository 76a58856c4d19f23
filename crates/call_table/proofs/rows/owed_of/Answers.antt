use Rattle.std.proofs.Common.{arith}
use Rattle.call_table.proofs.Tallied.{rises_count}
use Rattle.call_table.proofs.rows.owed_of.Goals as goal

pub overflow_add-total : goal.overflow_add-total
overflow_add-total c =
    let few = rises_count 0 c.args.rows.now.items c.requires (omega arith) in
    omega (arith, c.loop-at.invariant.1, c.loop-at-test.true, c.len-at-end.ensures, c.owed-total.ensures.few)
