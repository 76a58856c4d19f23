use Rattle.std.proofs.Common.{◌≡◌, ◌<◌, length, sym, subst, arith}
use Rattle.rpc_base.specs.declared.identifiers.Status.{Status}
use Rattle.ndr_value.specs.Values.{msg}
use Rattle.ndr_table.specs.Shown.{shown}
use Rattle.conn_histories.specs.Requests.{IsRefused, slots_for}
use Rattle.server_calls.specs.Suited.{never_full}
use Rattle.server_calls.proofs.Refusals.{refused, out_of_memory}
use Rattle.server_calls.proofs.Opening.{some_op, opened}
use Rattle.server_calls.proofs.request.slots_at.Goals as goal

pub returns-in-Err : goal.returns-in-Err
returns-in-Err c = λ tables at.
    let t = shown c.args.table.now in
    let lt : c.args.op < length t.ops = omega (arith, c.if-op-op_count.false, c.op_count.ensures) in
    let s = some_op t.ops c.args.op lt in
    subst (λ (x : Status). IsRefused tables c.args.iface c.args.op c.args.order c.args.stub.now never_full x) (sym c.status.ensures)
    (refused tables c.args.iface c.args.op c.args.order c.args.stub.now never_full t at s.0 s.1 c.in-Err.fault (c.in-Err.ensures.exact s.0 s.1))

pub returns-in-Ok-slots_for : goal.returns-in-Ok-slots_for
returns-in-Ok-slots_for c = λ tables at.
    let t = shown c.args.table.now in
    let m = msg c.in-Ok.message in
    let us = c.in-Some.uses.now in
    let lt : c.args.op < length t.ops = omega (arith, c.if-op-op_count.false, c.op_count.ensures) in
    let s = some_op t.ops c.args.op lt in
    let e : c.in-Ok-slots_for.slots ≡ slots_for c.args.iface us m.wires = cc (c.in-Ok-slots_for.ensures, c.as_slice.ensures, c.as_slice-wires.ensures) in
    opened tables t c.args.iface c.args.op c.args.order c.args.stub.now s.0 us m c.in-Ok-slots_for.slots at c.is_whole.ensures s.1 c.in-Some.ensures
    (c.in-Ok.ensures.found s.0 s.1) e

pub returns : goal.returns
returns c = λ tables at.
    let t = shown c.args.table.now in
    let lt : c.args.op < length t.ops = omega (arith, c.if-op-op_count.false, c.op_count.ensures) in
    let s = some_op t.ops c.args.op lt in
    out_of_memory tables c.args.iface c.args.op c.args.order c.args.stub.now never_full t at s.0 s.1
