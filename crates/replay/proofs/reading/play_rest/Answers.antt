use Rattle.std.proofs.Common.{rules, sym, ◌∙◌}
use Rattle.replay.proofs.Read.{nothing_read, continued, continued_shorter, stopped, halted, some_left}
use Rattle.replay.proofs.reading.play_rest.Goals as goal

pub loop-after-init : goal.loop-after-init
loop-after-init c = nothing_read c.args.player.now c.args.text.now c.requires

pub loop-after-preserved : goal.loop-after-preserved
loop-after-preserved c =
    continued c.args.player.now c.loop-after.player c.play_next.new.player c.args.text.now c.loop-after.rest.now c.in-Some.after.now c.loop-after.count
    c.loop-after.invariant (rw c.in-Some.is at c.in_ok-after.ensures.next)

pub loop-after-smaller : goal.loop-after-smaller
loop-after-smaller c = continued_shorter c.loop-after.player c.play_next.new.player c.loop-after.rest.now c.in-Some.after.now (rw c.in-Some.is at c.in_ok-after.ensures.next)

pub returns-in_err-after-clause-fault : goal.returns-in_err-after-clause-fault
returns-in_err-after-clause-fault c =
    let cause = stopped c.args.player.now c.loop-after.player c.args.text.now c.loop-after.rest.now c.loop-after.count c.in_err-after.field-0.0 c.loop-after.invariant c.in_err-after.ensures.fault in
    search rules

pub returns-else-is_empty-clause-fault : goal.returns-else-is_empty-clause-fault
returns-else-is_empty-clause-fault c =
    let none = rw c.in_default.is at c.in_ok-after.ensures.next in
    halted c.args.player.now c.loop-after.player c.args.text.now c.loop-after.rest.now c.loop-after.count c.loop-after.invariant none.0
    (some_left c.loop-after.rest.now (sym c.if-is_empty.false ∙ c.is_empty.ensures))
