use Rattle.std.proofs.Common.{rules, ◌≤◌, ◌+◌, ◌^◌, refl, arith}
use Rattle.server_command.proofs.Walking.{walk_begins, walk_is_whole, sees_trans}
use Rattle.server_command.proofs.journals.put_journals.Goals as goal

pub loop-alloc-init : goal.loop-alloc-init
loop-alloc-init g c = (c.requires, omega arith, refl, walk_begins c.args.hub.now.boot c.args.pass.now c.args.into.now.items)

pub returns-in_err-put_next-clause-seen : goal.returns-in_err-put_next-clause-seen
returns-in_err-put_next-clause-seen g c = sees_trans c.args.pass.now c.loop-alloc.pass c.put_next.new.pass c.loop-alloc.invariant.3.seen c.put_next.ensures.seen

pub returns-in_default-clause-seen : goal.returns-in_default-clause-seen
returns-in_default-clause-seen g c = sees_trans c.args.pass.now c.loop-alloc.pass c.put_next.new.pass c.loop-alloc.invariant.3.seen c.put_next.ensures.seen

pub returns-in_default-clause-log : goal.returns-in_default-clause-log
returns-in_default-clause-log g c =
    let high : 2 ^ 32 ≤ c.loop-alloc.id + 1 = search (rules, arith) in
    walk_is_whole c.args.hub.now.boot c.args.pass.now c.put_next.new.pass c.args.into.now.items c.put_next.new.into.items (c.loop-alloc.id + 1) c.put_next.new.over high
    (c.in_ok-put_next.ensures.walked c.args.pass.now c.args.into.now.items c.loop-alloc.invariant.3)
