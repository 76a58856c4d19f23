use Rattle.std.proofs.Common.{arith}
use Rattle.journal_audit.proofs.Read.{entry_shorter, reading_more}
use Rattle.journal_audit.proofs.journals.read_entries.Goals as goal

pub with-requires : goal.with-requires
with-requires c =
    let found = rw c.in-Some.is at c.in_ok-entry.ensures in
    let short = entry_shorter c.in-Some.entry c.in-Some.later.now c.loop-watch.rest.now found.1 in
    let here = c.loop-watch.invariant.place_room in
    let room = c.requires.place in omega arith

pub overflow_add-now : goal.overflow_add-now
overflow_add-now c =
    let found = rw c.in-Some.is at c.in_ok-entry.ensures in
    let short = entry_shorter c.in-Some.entry c.in-Some.later.now c.loop-watch.rest.now found.1 in
    let here = c.loop-watch.invariant.room in
    let room = c.requires.line in omega arith

pub loop-watch-smaller : goal.loop-watch-smaller
loop-watch-smaller c =
    let found = rw c.in-Some.is at c.in_ok-entry.ensures in
    let short = entry_shorter c.in-Some.entry c.in-Some.later.now c.loop-watch.rest.now found.1 in omega arith

pub loop-watch-preserved : goal.loop-watch-preserved
loop-watch-preserved c =
    let found = rw c.in-Some.is at c.in_ok-entry.ensures in
    reading_more c.args.watch c.args.line c.args.text.now c.loop-watch.watch c.loop-watch.now c.loop-watch.rest.now c.in-Some.entry c.in-Some.later.now c.in_ok-watch.watch c.loop-watch.invariant found c.in_ok-watch.ensures
