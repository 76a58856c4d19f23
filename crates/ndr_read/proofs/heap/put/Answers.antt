use Rattle.std.proofs.Common.{◌∙◌, sym, arith}
use Rattle.ndr_value.specs.Values.{val}
use Rattle.ndr_read.specs.Slots.{slot}
use Rattle.ndr_read.proofs.Heaps.{put_past, put_held, put_there}
use Rattle.ndr_read.proofs.heap.put.Goals as goal

pub returns-then-at-len-clause-each : goal.returns-then-at-len-clause-each
returns-then-at-len-clause-each c = λ m lt. put_past (slot c.args.slots.now.items m) c.args.number m (val c.args.value) (omega (arith, lt, c.if-at-len.true, c.len.ensures, c.args.slots.now.ok.0))

pub returns-then-is_some-clause-each : goal.returns-then-is_some-clause-each
returns-then-is_some-clause-each c = λ m lt. put_held c.args.slots.now.items c.args.number m (val c.args.value) c.index.result.now lt c.index.ensures (sym c.if-is_some.true ∙ c.is_some.ensures)

pub returns-clause-each : goal.returns-clause-each
returns-clause-each c = λ m lt.
    put_there c.args.slots.now.items c.args.number m c.args.value c.index.result.now (omega (arith, c.if-at-len.false, c.len.ensures, c.args.slots.now.ok.0)) c.index.ensures (sym c.if-is_some.false ∙ c.is_some.ensures)
