use Rattle.std.proofs.Common.{◌≡◌, ◌<◌, length, sym, ◌∙◌, ap, subst, arith}
use Rattle.call_table.specs.Rows.{left, owed_of}
use Rattle.call_table.proofs.Tallied.{rises_count}
use Rattle.call_table.proofs.Waits.{LeaveStep, leave_step, all_stay}
use Rattle.call_table.proofs.table.CallTable.leave_all.Goals as goal

pub loop-call-smaller : goal.loop-call-smaller
loop-call-smaller g c =
    let step = subst (λ v. LeaveStep v.rows c.args.conn c.in-Some.call) c.self-in-loop-call.view_is (leave_step c.self-in-loop-call.inside.rows.items c.self-in-loop-call.inside.waiting.keys c.args.conn c.in-Some.call c.self-in-loop-call.invariant.0.rises c.self-in-loop-call.invariant.3.has_waiting c.in-Some.ensures) in
    subst (λ rows. length rows < length c.loop-call.self.rows) (sym c.end_counted.ensures.rows) (omega (arith, step.less))

pub loop-call-preserved : goal.loop-call-preserved
loop-call-preserved g c =
    let step = subst (λ v. LeaveStep v.rows c.args.conn c.in-Some.call) c.self-in-loop-call.view_is (leave_step c.self-in-loop-call.inside.rows.items c.self-in-loop-call.inside.waiting.keys c.args.conn c.in-Some.call c.self-in-loop-call.invariant.0.rises c.self-in-loop-call.invariant.3.has_waiting c.in-Some.ensures) in
    let owed = ap owed_of c.end_counted.ensures.rows in
    let count = ap (λ rows. length rows) c.end_counted.ensures.rows in (
      ap (left c.args.conn) c.end_counted.ensures.rows ∙ (step.others ∙ c.loop-call.invariant.0),
      omega (arith, owed, count, step.owed, step.less, c.loop-call.invariant.1),
      omega (arith, count, step.less, c.loop-call.invariant.2),
      c.end_counted.ensures.room ∙ c.loop-call.invariant.3,
    )

pub returns-clause-rows : goal.returns-clause-rows
returns-clause-rows g c =
    let all = all_stay c.self-in-loop-call.inside.rows.items c.self-in-loop-call.inside.waiting.keys c.args.conn c.self-in-loop-call.invariant.0.rises c.self-in-loop-call.invariant.3.has_waiting c.in_default.ensures in
    sym (subst (λ v. left c.args.conn v.rows ≡ v.rows) c.self-in-loop-call.view_is all) ∙ c.loop-call.invariant.0

pub overflow_mul-result : goal.overflow_mul-result
overflow_mul-result g c =
    let few = rises_count 0 c.self.inside.rows.items c.self.invariant.0.rises (omega arith) in
    omega (arith, few, c.len-before.ensures)
