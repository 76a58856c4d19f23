use Rattle.std.proofs.Common.{arith}
use Rattle.std.proofs.lemmas.Grind.{common_steps}
use Rattle.ndr_agree.proofs.Parts.{vals_end, bytes_left}
use Rattle.ndr_agree.proofs.arrays.are_bytes.Goals as goal

pub returns : goal.returns
returns c =
    let e = vals_end c.loop-octet.rest.now in
    grind (arith, common_steps, e, c.loop-octet.invariant)

pub returns-in-None : goal.returns-in-None
returns-in-None c = bytes_left c.args.octets.now c.loop-octet.rest.now c.loop-octet.octet-index _ c.loop-octet-test.true c.in-None.ensures.cases c.loop-octet.invariant
