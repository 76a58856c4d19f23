use Rattle.std.proofs.Common.{arith}
use Rattle.std.proofs.lemmas.Grind.{common_steps}
use Rattle.ndr_agree.proofs.Parts.{wires_end, wires_left}
use Rattle.ndr_agree.proofs.message.wires_same.Goals as goal

pub returns : goal.returns
returns c =
    let e = wires_end c.loop-wire.rest.now in
    grind (arith, common_steps, e, c.loop-wire.invariant)

pub returns-in-None : goal.returns-in-None
returns-in-None c = wires_left c.args.wires.now c.loop-wire.rest.now c.loop-wire.wire-index _ c.loop-wire-test.true c.in-None.ensures.cases c.loop-wire.invariant
