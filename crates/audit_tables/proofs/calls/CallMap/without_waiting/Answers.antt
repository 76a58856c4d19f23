use Rattle.std.proofs.Common.{◌<◌, ◌∙◌, ap, sym, subst, length}
use Rattle.call_table.specs.Rows.{row_at, left}
use Rattle.audit_tables.proofs.Rows.{all_stay, left_some, left_without, shorter}
use Rattle.audit_tables.proofs.calls.CallMap.without_waiting.Goals as goal

pub loop-call-smaller : goal.loop-call-smaller
loop-call-smaller c =
    let s = left_some c.args.conn (row_at c.loop-call.calls c.in-Some.call) c.in-Some.ensures.first in
    subst (λ rows. length rows < length c.loop-call.calls) (sym c.take_out-others.ensures.rows) (shorter c.loop-call.calls c.in-Some.call s.0 s.1)

pub loop-call-preserved : goal.loop-call-preserved
loop-call-preserved c =
    ap (left c.args.conn) c.take_out-others.ensures.rows ∙ (left_without c.args.conn 0 c.loop-call.calls c.in-Some.call c.in-Some.ensures.order c.in-Some.ensures.first ∙ c.loop-call.invariant)

pub returns : goal.returns
returns c = sym (all_stay c.args.conn c.loop-call.calls c.in_default.ensures.first) ∙ c.loop-call.invariant
