use Rattle.std.proofs.Common.{sym, ◌∙◌, arith}
use Rattle.call_table.specs.Queues.{after_place}
use Rattle.call_table.proofs.Marks.{no_row}
use Rattle.call_table.proofs.Nearest.{there_called, row_called, came}
use Rattle.call_table.proofs.Later.{looked_on, looked_all}
use Rattle.call_table.proofs.ahead.last_queued.Goals as goal

pub place-at-requires-clause-there : goal.place-at-requires-clause-there
place-at-requires-clause-there c =
    let there = there_called c.args.queue c.args.queues.now.calls c.args.rows.now.items c.in-Some.found (after_place c.loop-found.after) no_row c.requires.queued (rw c.in-Some.is at c.next.ensures) in
    row_called c.args.rows.now.items c.in-Some.found there.0 there.1

pub loop-found-smaller : goal.loop-found-smaller
loop-found-smaller c =
    let next = came c.args.queue c.args.queues.now.calls c.args.rows.now.items c.in-Some.found (after_place c.loop-found.after) c.place-at.result no_row c.requires.rise c.requires.queued (rw c.in-Some.is at c.next.ensures) c.place-at.ensures in
    let above = next.from_there in
    let within = c.place-at.ensures.within in omega arith

pub loop-found-preserved : goal.loop-found-preserved
loop-found-preserved c =
    let next = came c.args.queue c.args.queues.now.calls c.args.rows.now.items c.in-Some.found (after_place c.loop-found.after) c.place-at.result no_row c.requires.rise c.requires.queued (rw c.in-Some.is at c.next.ensures) c.place-at.ensures in (
      looked_on c.args.queue c.args.slots.now c.args.call c.args.queues.now.calls c.args.rows.now.items c.in-Some.found (after_place c.loop-found.after) c.place-at.result c.row.result.now c.loop-found.last c.requires.queued c.loop-found.invariant.0 next c.place-at.ensures c.row.ensures ∙ sym c.with_row-last.ensures,
      (c.in-Some.found, next.is_there),
    )

pub returns : goal.returns
returns c =
    sym (looked_all c.args.queue c.args.slots.now c.args.call c.args.queues.now.calls c.args.rows.now.items (after_place c.loop-found.after) c.loop-found.last c.requires.queued c.loop-found.invariant.0 (rw c.in_default.is at c.next.ensures))
