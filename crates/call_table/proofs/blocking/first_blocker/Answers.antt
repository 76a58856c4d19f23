use Rattle.std.proofs.Common.{sym, ◌∙◌, arith}
use Rattle.call_table.specs.Queues.{after_place}
use Rattle.call_table.proofs.Marks.{no_row}
use Rattle.call_table.proofs.Nearest.{there_called, row_called, came, walked, ends_there, ends_without}
use Rattle.call_table.proofs.blocking.first_blocker.Goals as goal

pub place-at-requires-clause-there : goal.place-at-requires-clause-there
place-at-requires-clause-there c =
    let there = there_called c.args.queue c.args.queues.now.calls c.args.rows.now.items c.in-Some.call (after_place c.loop-call.after) no_row c.requires.queued (rw c.in-Some.is at c.next.ensures) in
    row_called c.args.rows.now.items c.in-Some.call there.0 there.1

pub returns-then-blocks : goal.returns-then-blocks
returns-then-blocks c =
    let next = came c.args.queue c.args.queues.now.calls c.args.rows.now.items c.in-Some.call (after_place c.loop-call.after) c.place-at.result no_row c.requires.rise c.requires.queued (rw c.in-Some.is at c.next.ensures) c.place-at.ensures in
    sym (ends_there c.args.queue c.args.kind c.args.slots.now c.args.queues.now.calls c.args.rows.now.items c.in-Some.call (after_place c.loop-call.after) c.place-at.result c.row.result.now c.requires.rise c.requires.queued c.loop-call.invariant.0 next c.place-at.ensures c.row.ensures (sym c.blocks-in-Some.ensures ∙ c.if-blocks.true))

pub loop-call-smaller : goal.loop-call-smaller
loop-call-smaller c =
    let next = came c.args.queue c.args.queues.now.calls c.args.rows.now.items c.in-Some.call (after_place c.loop-call.after) c.place-at.result no_row c.requires.rise c.requires.queued (rw c.in-Some.is at c.next.ensures) c.place-at.ensures in
    let above = next.from_there in
    let within = c.place-at.ensures.within in omega arith

pub loop-call-preserved : goal.loop-call-preserved
loop-call-preserved c =
    let next = came c.args.queue c.args.queues.now.calls c.args.rows.now.items c.in-Some.call (after_place c.loop-call.after) c.place-at.result no_row c.requires.rise c.requires.queued (rw c.in-Some.is at c.next.ensures) c.place-at.ensures in (
      walked c.args.queue c.args.kind c.args.slots.now c.args.queues.now.calls c.args.rows.now.items c.in-Some.call (after_place c.loop-call.after) c.place-at.result c.row.result.now c.loop-call.invariant.0 next c.row.ensures (sym c.blocks-in-Some.ensures ∙ c.if-blocks.false),
      (c.in-Some.call, next.is_there),
    )

pub returns : goal.returns
returns c =
    sym (ends_without c.args.queue c.args.kind c.args.slots.now c.args.queues.now.calls c.args.rows.now.items (after_place c.loop-call.after) c.requires.queued c.loop-call.invariant.0 (rw c.in_default.is at c.next.ensures))
